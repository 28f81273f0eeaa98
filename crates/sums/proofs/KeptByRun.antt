-- THE ROW OF A BOOK is kept by counts that are added one after the other, as by each of them; and it has room as before.
-- Assumes nothing.
use Prim.Native.Nat.{ℕ, ◌≤◌}
use mathlib.Core.Bool.{false}
use mathlib.Core.List.{List, [], ◌∷◌}
use mathlib.Core.Path.{◌≡◌}
use lib.ListN.{length}
use Rattle.book.specs.declared.Book.{Book}
use Rattle.book.specs.Derived.{slot_count}
use Rattle.book.specs.Sound.{Usable}
use Rattle.book.specs.Adding.{added, added_ring}
use Rattle.book.specs.RunOfCounts.{any_above, added_all, added_all_ring}
use Rattle.book.proofs.Promises.{added_same, added_usable, above_cons, all_none, all_more}
use Rattle.sums.specs.Row.{entries_for, entries_of, added_row, added_all_row}
use Rattle.sums.specs.RowKept.{RowKept}
use Rattle.sums.proofs.PartByPart.{row_none, row_more}
use Rattle.sums.proofs.RowOfABook.{kept_by_adding}
use Rattle.sums.proofs.RowStays.{added_rest}

pub kept_by_run : (book : Book) (ring row counts : List ℕ) → Usable book (length ring) → any_above book.bound counts ≡ false
    → RowKept book ring row × (entries_of book ≤ length row)
    → RowKept (added_all book counts) (added_all_ring book ring counts) (added_all_row book ring row counts)
    × (entries_of (added_all book counts) ≤ length (added_all_row book ring row counts))
kept_by_run book ring row [] usable small h = rw ((all_none book ring).0, (all_none book ring).1, row_none book ring row) h
kept_by_run book ring row (count ∷ later) usable small h =
    let fits = above_cons book.bound count later small in
    let same = added_same book count in
    let entries : entries_of (added book count) ≡ entries_of book =
    λ i. entries_for (slot_count (same.bound_same i) (same.length_same i) (same.tolerance_same i)) in
    let room : entries_of (added book count) ≤ length (added_row book ring row count) =
    rw (entries, (added_rest book ring row count usable.sound).same_length) h.1 in
    rw ((all_more book ring count later).0, (all_more book ring count later).1, row_more book ring row count later)
    (kept_by_run (added book count) (added_ring book ring count) (added_row book ring row count) later
    (added_usable book ring count usable fits.0) (rw same.bound_same fits.1)
    (kept_by_adding book ring row count usable fits.0 h.1 h.0, room))
