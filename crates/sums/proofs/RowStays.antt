-- WHAT STAYS OF A ROW (promises C-16.2, C-16.3): storing changes one entry at the most; no call changes the row's length or an entry that is not
-- used, whatever it is called with.
-- Assumes nothing.
use Prim.Native.Nat.{ℕ, zero, suc, ◌+◌, ◌≤◌, ◌<◌}
use native.Mathlib.Omega.{arith}
use mathlib.Core.Bool.{Bool, true, false, cond}
use mathlib.Core.List.{List, [], ◌∷◌}
use mathlib.Core.Path.{◌≡◌, refl, sym, ap, ◌∙◌}
use native.Mathlib.Decide.{ℕ_discrete}
use lib.Dec.{eqb}
use lib.ListN.{length, get_or, set, drop, replicate, length-set, length-append, length-drop, length-replicate}
use lib.Seq.{drop_at, get_or-set_same, get_or-set_other}
use Rattle.refusals.specs.First.{Fault}
use Rattle.refusals.specs.Call.{Call, refusal_of, left_of}
use Rattle.book.specs.declared.Book.{Book}
use Rattle.book.specs.Record.{block_of, slots_of, held_in}
use Rattle.book.specs.Derived.{slot_count}
use Rattle.book.specs.Sound.{Sound, Usable}
use Rattle.book.specs.Adding.{added, added_ring}
use Rattle.book.specs.RunOfCounts.{any_above}
use Rattle.book.proofs.Promises.{added_same, added_usable, above_cons, add_known, run_known}
use Rattle.sums.specs.Row.{entries_for, entries_of, entry_at, ends_group, stored, sum_to, added_row, added_all_row, cleared_row, RestStays}
use Rattle.sums.specs.Calls.{RingAndRow, open_row_call, add_row_call, run_row_call}
use Rattle.sums.specs.Beside.{BesideTheBook}
use Rattle.sums.proofs.Ends.{entry_used}
use Rattle.sums.proofs.PartByPart.{row_none, row_more}
use Rattle.sums.proofs.Taken.{open_beside, add_beside, run_beside}

-- behind an entry that is set the row stays
drop_set : (row : List ℕ) (k n value : ℕ) → k < n → drop n (set row k value) ≡ drop n row
drop_set [] k n value lt = refl
drop_set (x ∷ row) k zero value lt = absurd (omega arith)
drop_set (x ∷ row) zero (suc n) value lt = refl
drop_set (x ∷ row) (suc k) (suc n) value lt = drop_set row k n value (omega arith)

-- STORING: where a group ends with the slot its entry, if the row has it, holds the sum; and otherwise the row stays
module _ (slots : ℕ) (held : ℕ → ℕ) (row : List ℕ) (slot : ℕ) where
  pub stored_there : ends_group slots slot ≡ true → entry_at (slot + 1) < length row
      → get_or (stored slots held row slot) (entry_at (slot + 1)) 0 ≡ sum_to held (slot + 1)
  unfolding stored
  stored_there ends has = rw ends (get_or-set_same row (entry_at (slot + 1)) (sum_to held (slot + 1)) 0 has)

  pub stored_nothing : ends_group slots slot ≡ false → stored slots held row slot ≡ row
  unfolding stored
  stored_nothing inside = rw inside

-- it leaves every entry but that one
pub stored_others : (slots : ℕ) (held : ℕ → ℕ) (row : List ℕ) (slot k : ℕ) → (k ≡ entry_at (slot + 1) → ⊥)
    → get_or (stored slots held row slot) k 0 ≡ get_or row k 0
unfolding stored
stored_others slots held row slot k ne = by (ends_group slots slot)
  where
    by : (t : Bool) → get_or (cond t (set row (entry_at (slot + 1)) (sum_to held (slot + 1))) row) k 0 ≡ get_or row k 0
    by true = get_or-set_other row (entry_at (slot + 1)) k (sum_to held (slot + 1)) 0 ne
    by false = refl

same_row : (entries : ℕ) {row row' : List ℕ} → row' ≡ row → RestStays entries row row'
same_row entries e = record { same_length = ap length e; same_rest = ap (drop entries) e }

stored_rest : (slots : ℕ) (held : ℕ → ℕ) (row : List ℕ) (slot : ℕ) → slot < slots → RestStays (entries_for slots) row (stored slots held row slot)
unfolding stored
stored_rest slots held row slot below = by (ends_group slots slot)
  where
    by : (t : Bool) → RestStays (entries_for slots) row (cond t (set row (entry_at (slot + 1)) (sum_to held (slot + 1))) row)
    by true =
        record {
          same_length = length-set row (entry_at (slot + 1)) (sum_to held (slot + 1));
          same_rest = drop_set row (entry_at (slot + 1)) (entries_for slots) (sum_to held (slot + 1)) (entry_used slots (slot + 1) (omega arith) (omega arith));
        }
    by false = same_row (entries_for slots) refl

-- an item changes nothing of the rest
pub added_rest : (book : Book) (ring row : List ℕ) (item : ℕ) → Sound book → RestStays (entries_of book) row (added_row book ring row item)
unfolding added_row
added_rest book ring row item sound = by (eqb (book.phase + 1) (block_of book))
  where
    by : (t : Bool) → RestStays (entries_of book) row (cond t (stored (slots_of book) (held_in book (added_ring book ring item)) row book.head) row)
    by true = stored_rest (slots_of book) (held_in book (added_ring book ring item)) row book.head sound.head_high
    by false = same_row (entries_of book) refl

-- nor do counts
pub all_rest : (book : Book) (ring row counts : List ℕ) → Usable book (length ring) → any_above book.bound counts ≡ false
    → RestStays (entries_of book) row (added_all_row book ring row counts)
all_rest book ring row [] usable small = same_row (entries_of book) (row_none book ring row)
all_rest book ring row (count ∷ later) usable small =
    let fits = above_cons book.bound count later small in
    let same = added_same book count in
    let one = added_rest book ring row count usable.sound in
    let others = all_rest (added book count) (added_ring book ring count) (added_row book ring row count) later
    (added_usable book ring count usable fits.0) (rw same.bound_same fits.1) in
    let entries : entries_of (added book count) ≡ entries_of book =
    λ i. entries_for (slot_count (same.bound_same i) (same.length_same i) (same.tolerance_same i)) in
    rw (row_more book ring row count later)
    (record {
      same_length = others.same_length ∙ one.same_length;
      same_rest = (rw entries at others.same_rest) ∙ one.same_rest;
    })

pub cleared_rest : (slots : ℕ) (row : List ℕ) → entries_for slots ≤ length row → RestStays (entries_for slots) row (cleared_row slots row)
unfolding cleared_row
cleared_rest slots row room =
    record {
      same_length = simp (length-append, length-replicate, length-drop) (omega (arith, room));
      same_rest = drop_at (replicate (entries_for slots) 0) (drop (entries_for slots) row) (entries_for slots) (length-replicate (entries_for slots) 0);
    }

-- NO CALL changes it, whatever it is called with: refused it leaves the row, and taken it leaves the rest
pub by_refusal_lem : {Result : Type 0} {own : Call Result (List ℕ)} {up_to4 : List Fault} {entries : ℕ} {row after : List ℕ} {call : Call Result RingAndRow}
    → BesideTheBook own up_to4 entries row after call → (refusal_of call ≡ 0 → RestStays entries row after) → RestStays entries row (left_of call).row
by_refusal_lem {Result} {own} {up_to4} {entries} {row} {after} {call} beside rest = by (ℕ_discrete (refusal_of call) 0)
  where
    by : Dec (refusal_of call ≡ 0) → RestStays entries row (left_of call).row
    by (yes taken) = rw (beside.row_after taken) (rest taken)
    by (no some) = same_row entries (beside.row_back some)

pub open_leaves_rest : (bound n tolerance : ℕ) (ring row : List ℕ)
    → RestStays (entries_for (slot_count bound n tolerance)) row (left_of (open_row_call bound n tolerance ring row)).row
open_leaves_rest bound n tolerance ring row =
    let beside = open_beside bound n tolerance ring row in
    by_refusal_lem beside (λ taken. cleared_rest (slot_count bound n tolerance) row (beside.had_room taken))

module _ (book : Book) (ring row : List ℕ) where
  pub add_leaves_rest : (item : ℕ) → RestStays (entries_of book) row (left_of (add_row_call book ring row item)).row
  add_leaves_rest item =
      let beside = add_beside book ring row item in
      by_refusal_lem beside
      (λ taken. added_rest book ring row item
      (add_known book ring item (sym (beside.with_room (beside.had_room taken)).same_refusal ∙ taken)).0.sound)

  pub run_leaves_rest : (counts : List ℕ) → RestStays (entries_of book) row (left_of (run_row_call book ring row counts)).row
  run_leaves_rest counts =
      let beside = run_beside book ring row counts in
      by_refusal_lem beside
      (λ taken. (let known = run_known book ring counts (sym (beside.with_room (beside.had_room taken)).same_refusal ∙ taken) in
      all_rest book ring row counts known.0 known.1))
