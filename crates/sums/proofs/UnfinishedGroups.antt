-- A GROUP THAT IS NOT FINISHED has no sum yet: of a book that was opened with its row the entry of each group is 0 until the group's last slot is
-- written for the first time.
-- Assumes nothing.
use Prim.Native.Nat.{ℕ, suc, ◌+◌, ◌*◌, ◌%◌, ◌≤◌, ◌<◌}
use native.Mathlib.Nat.{mod-eq_of_lt, lt_of_mul-lt-mul_left, mul_comm, zero-add}
use native.Mathlib.Decide.{ℕ_discrete}
use native.Mathlib.Omega.{arith}
use mathlib.Core.Bool.{Bool, true, false}
use mathlib.Core.List.{List, [], ◌∷◌}
use mathlib.Core.Path.{◌≡◌, refl, sym, ap, ap₂, ◌∙◌}
use lib.ListN.{length}
use Rattle.book.specs.declared.Book.{Book}
use Rattle.book.specs.Derived.{block_length, slot_count}
use Rattle.book.specs.Record.{block_of, slots_of, held_in, opened}
use Rattle.book.specs.Sound.{Usable}
use Rattle.book.specs.Adding.{added, added_ring}
use Rattle.book.specs.RunOfCounts.{any_above, added_all}
use Rattle.book.proofs.Promises.{added_same, added_usable, above_cons, all_none, all_more, Counted, counted_fresh, counted_more}
use Rattle.sums.specs.Row.{ends_group, entry_at, stored, added_row, added_all_row, cleared_row}
use Rattle.sums.specs.Rule.{stored_at}
use Rattle.sums.proofs.Ends.{ends_where, ends_apart}
use Rattle.sums.proofs.KeptRow.{stored_entry}
use Rattle.sums.proofs.RowStays.{stored_nothing, stored_others}
use Rattle.sums.proofs.RowOfABook.{cleared_holds_0}
use Rattle.sums.proofs.ItemWithRow.{row_stored, row_stays}
use Rattle.sums.proofs.PartByPart.{row_none, row_more}

-- after so many items of a book with s slots and blocks of c: at an end that the blocks have not reached stands 0
pub record Unfinished (s c : ℕ) (book : Book) (row : List ℕ) (count : ℕ) : Type 0 where
  pub slots_are : slots_of book ≡ s
  pub block_is : block_of book ≡ c
  pub counted : Counted book count
  pub empty : (e : ℕ) → 1 ≤ e → e ≤ s → count < e * c → stored_at row e ≡ 0

-- a fresh book with its cleared row
pub unfinished_fresh : (bound n tolerance : ℕ) (row : List ℕ)
    → Unfinished (slot_count bound n tolerance) (block_length bound tolerance) (opened bound n tolerance) (cleared_row (slot_count bound n tolerance) row) 0
unfinished_fresh bound n tolerance row =
    record {
      slots_are = refl;
      block_is = refl;
      counted = counted_fresh bound n tolerance;
      empty = λ e low high behind. cleared_holds_0 (slot_count bound n tolerance) row e high;
    }

module _ {s c : ℕ} (book : Book) (ring row : List ℕ) (count item : ℕ) (usable : Usable book (length ring)) (h : Unfinished s c book row count) where
  -- an item whose block closes writes slot head, which lies in front of every end that is not reached
  module _ (closes : book.phase + 1 ≡ block_of book) (e : ℕ) (low : 1 ≤ e) (high : e ≤ s) (behind : suc count < e * c) where
    head_before : book.head + 1 < e
    head_before =
        let blocks : ℕ = h.counted.blocks in
        let c_is = h.block_is in
        let past : blocks + 1 < e =
        lt_of_mul-lt-mul_left (block_of book)
        (omega (arith, h.counted.count_is, mul_comm e (block_of book), ap (λ (k : ℕ). e * k) c_is, behind, closes)) in
        let inside : blocks < slots_of book = omega (arith, h.slots_are, past, high) in
        let there : blocks % slots_of book ≡ blocks = mod-eq_of_lt inside in
        omega (arith, h.counted.head_is, there, past)

    still_empty : stored_at (stored (slots_of book) (held_in book (added_ring book ring item)) row book.head) e ≡ 0
    still_empty = by (ends_group (slots_of book) book.head) refl
      where
        held : ℕ → ℕ
        held = held_in book (added_ring book ring item)

        by : (t : Bool) → ends_group (slots_of book) book.head ≡ t → stored_at (stored (slots_of book) held row book.head) e ≡ 0
        by false inside =
            ap (λ (r : List ℕ). stored_at r e) (stored_nothing (slots_of book) held row book.head inside) ∙ h.empty e low high (omega arith)
        by true ends =
            let is_end = (ends_where (slots_of book) book.head usable.sound.head_high).0 ends in
            let other : entry_at e ≡ entry_at (book.head + 1) → ⊥ =
            λ same. ends_apart (slots_of book) (book.head + 1) e is_end (omega arith) head_before (omega (arith, h.slots_are, high)) (sym same) in
            stored_entry (stored (slots_of book) held row book.head) e low
            ∙ stored_others (slots_of book) held row book.head (entry_at e) other
            ∙ sym (stored_entry row e low)
            ∙ h.empty e low high (omega arith)

  -- AN ITEM
  pub unfinished_more : Unfinished s c (added book item) (added_row book ring row item) (suc count)
  unfinished_more =
      let same = added_same book item in
      record {
        slots_are = (λ i. slot_count (same.bound_same i) (same.length_same i) (same.tolerance_same i)) ∙ h.slots_are;
        block_is = ap₂ (λ (l d : ℕ). block_length l d) same.bound_same same.tolerance_same ∙ h.block_is;
        counted = counted_more book count item usable.sound.ranges h.counted;
        empty = λ e low high behind. by e low high behind (ℕ_discrete (book.phase + 1) (block_of book));
      }
    where
      by : (e : ℕ) → 1 ≤ e → e ≤ s → suc count < e * c → Dec (book.phase + 1 ≡ block_of book) → stored_at (added_row book ring row item) e ≡ 0
      by e low high behind (yes closes) =
          ap (λ (r : List ℕ). stored_at r e) (sym (row_stored book item ring row closes)) ∙ still_empty closes e low high behind
      by e low high behind (no more) =
          ap (λ (r : List ℕ). stored_at r e) (sym (row_stays book item ring row more)) ∙ h.empty e low high (omega arith)

-- COUNTS
pub unfinished_all : {s c : ℕ} (book : Book) (ring row counts : List ℕ) (count : ℕ) → Usable book (length ring) → any_above book.bound counts ≡ false
    → Unfinished s c book row count → Unfinished s c (added_all book counts) (added_all_row book ring row counts) (length counts + count)
unfinished_all book ring row [] count usable small h = rw ((all_none book ring).0, row_none book ring row, zero-add count) h
unfinished_all book ring row (item ∷ later) count usable small h =
    let fits = above_cons book.bound item later small in
    let next : suc (length later) + count ≡ length later + suc count = omega arith in
    rw ((all_more book ring item later).0, row_more book ring row item later, next)
    (unfinished_all (added book item) (added_ring book ring item) (added_row book ring row item) later (suc count)
    (added_usable book ring item usable fits.0) (rw (added_same book item).bound_same fits.1)
    (unfinished_more book ring row count item usable h))
