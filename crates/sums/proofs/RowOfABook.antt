-- THE ROW OF A BOOK is kept by opening, by every item that is taken and by any mark (promises C-16.3, C-16.5); and then the figure by the row is
-- the book's own.
-- Assumes nothing.
use Prim.Native.Nat.{ℕ, zero, suc, ◌+◌, ◌-◌, ◌*◌, ◌^◌, ◌≤◌, ◌<◌}
use native.Mathlib.Decide.{ℕ_discrete}
use native.Mathlib.Omega.{arith}
use mathlib.Core.List.{List, ◌++◌}
use mathlib.Core.Logic.{◌⊎◌, inl, inr}
use mathlib.Core.Path.{◌≡◌, refl, sym, ap, ◌∙◌}
use lib.ListN.{length, get_or, drop, replicate}
use Rattle.ring.specs.Slot.{cleared}
use Rattle.ring.specs.Newest.{newest}
use Rattle.ring.proofs.Promises.{cleared_reads_0, other_stays}
use Rattle.book.specs.declared.Book.{Book}
use Rattle.book.specs.Derived.{slot_count, field_width, bytes_needed}
use Rattle.book.specs.Record.{block_of, slots_of, width_of, held_in, opened}
use Rattle.book.specs.Sound.{Ranges, Sound, Usable}
use Rattle.book.specs.Adding.{quotient_of, added, added_ring}
use Rattle.book.specs.Figure.{reckoned, slots_for, newest_sum_of, figure}
use Rattle.book.proofs.Promises.{le_or_lt, book_lent, adding_cases, quotient_in, for_high, by_slots}
use Rattle.sums.specs.Row.{entries_for, entries_of, entry_at, stored, added_row, cleared_row}
use Rattle.sums.specs.Rule.{stored_at, sum_by_row, figure_by_row}
use Rattle.sums.specs.RowKept.{RowKept}
use Rattle.sums.proofs.Ends.{entry_used}
use Rattle.sums.proofs.KeptRow.{stored_0, stored_entry, kept_opened, kept_written, sum_by_row_lem}
use Rattle.sums.proofs.FigureByTheRow.{figure_inside}
use Rattle.sums.proofs.ItemWithRow.{row_stored, row_stays}

-- zeros in front read 0
zeros_first : (k i : ℕ) (rest : List ℕ) → i < k → get_or (replicate k 0 ++ rest) i 0 ≡ 0
zeros_first zero i rest lt = absurd (omega arith)
zeros_first (suc k) zero rest lt = refl
zeros_first (suc k) (suc i) rest lt = zeros_first k i rest (omega arith)

-- a cleared row holds no sum
pub cleared_holds_0 : (slots : ℕ) (row : List ℕ) (e : ℕ) → e ≤ slots → stored_at (cleared_row slots row) e ≡ 0
unfolding cleared_row
cleared_holds_0 slots row zero le = stored_0 (cleared_row slots row)
cleared_holds_0 slots row (suc e) le =
    stored_entry (cleared_row slots row) (suc e) (omega arith)
    ∙ zeros_first (entries_for slots) (entry_at (suc e)) (drop (entries_for slots) row) (entry_used slots (suc e) (omega arith) le)

-- OPENING
pub kept_by_opening : (bound n tolerance : ℕ) (ring row : List ℕ) → Ranges bound n tolerance → bytes_needed bound n tolerance ≤ length ring
    → RowKept (opened bound n tolerance) (cleared (field_width bound tolerance) (slot_count bound n tolerance) ring)
    (cleared_row (slot_count bound n tolerance) row)
kept_by_opening bound n tolerance ring row ranges room =
    let whole = book_lent bound n tolerance (length ring) ranges room in
    kept_opened (slot_count bound n tolerance) (held_in (opened bound n tolerance) (cleared (field_width bound tolerance) (slot_count bound n tolerance) ring))
    (cleared_row (slot_count bound n tolerance) row)
    (λ slot below. cleared_reads_0 (field_width bound tolerance) (slot_count bound n tolerance) ring whole slot below)
    (cleared_holds_0 (slot_count bound n tolerance) row)

-- ADDING
pub kept_by_adding : (book : Book) (ring row : List ℕ) (item : ℕ) → Usable book (length ring) → item ≤ book.bound
    → entries_of book ≤ length row → RowKept book ring row → RowKept (added book item) (added_ring book ring item) (added_row book ring row item)
kept_by_adding book ring row item usable small room kept = by (ℕ_discrete (book.phase + 1) (block_of book))
  where
    sound : Sound book
    sound = usable.sound

    by : Dec (book.phase + 1 ≡ block_of book) → RowKept (added book item) (added_ring book ring item) (added_row book ring row item)
    by (yes closes) =
        rw (sym (row_stored book item ring row closes))
        (adding_cases (λ b r. RowKept b r (stored (slots_of book) (held_in book r) row book.head)) book ring item
        (λ full. (let whole = book_lent book.bound book.length book.tolerance (length ring) sound.ranges usable.room in
        let fits : quotient_of book item < 2 ^ width_of book = quotient_in book sound item small full in
        kept_written (slots_of book) book.head (held_in book ring) _ row sound.head_high room
        (λ other ne. other_stays (width_of book) (slots_of book) ring whole book.head sound.head_high (quotient_of book item) fits other ne) kept))
        (λ more. absurd (more closes)))
    by (no more) =
        rw (sym (row_stays book item ring row more))
        (adding_cases (λ b r. RowKept b r row) book ring item (λ full. absurd (more full)) (λ still. kept))

-- THE FIGURE by a kept row is the book's own, for every window that is kept
pub figure_same : (book : Book) (ring row : List ℕ) → Sound book → RowKept book ring row → (window : ℕ) → window ≤ book.kept
    → figure_by_row book ring row window ≡ figure book ring window
figure_same book ring row sound kept window in_kept = by (le_or_lt window book.phase)
  where
    by : (window ≤ book.phase) ⊎ (book.phase < window) → figure_by_row book ring row window ≡ figure book ring window
    by (inl inside) = figure_inside book ring row window inside
    by (inr longer) =
        let j = slots_for book window in
        by_slots book (λ n. sum_by_row (slots_of book) book.head n (held_in book ring) row) (held_in book ring) window longer
        ∙ ap (λ (sum : ℕ). reckoned book sum (j * block_of book - (window - book.phase)) (held_in book ring (newest (slots_of book) book.head j)))
        (sum_by_row_lem (slots_of book) (held_in book ring) row book.head j sound.head_high (for_high book sound window longer in_kept) kept)
        ∙ sym (by_slots book (newest_sum_of book (held_in book ring)) (held_in book ring) window longer)
