-- A RUN WITH A ROW IS ADDING ITS COUNTS ONE BY ONE with the row: it gives the record and leaves ring and row as adding by one call each does.
-- Assumes nothing.
use Prim.Native.Nat.{ℕ, ◌≤◌}
use mathlib.Core.Bool.{false}
use mathlib.Core.List.{List, [], ◌∷◌}
use mathlib.Core.Path.{◌≡◌, sym, ap, ◌∙◌}
use lib.ListN.{length}
use Rattle.refusals.specs.Call.{refusal_of, result_of, left_of}
use Rattle.book.specs.declared.Book.{Book}
use Rattle.book.specs.declared.told.Updated.{Updated}
use Rattle.book.specs.declared.told.Ran.{Ran}
use Rattle.book.specs.Derived.{slot_count}
use Rattle.book.specs.Resting.{awake}
use Rattle.book.specs.Sound.{Usable}
use Rattle.book.specs.Adding.{added, added_ring}
use Rattle.book.specs.RunOfCounts.{any_above, added_all, added_all_ring}
use Rattle.book.proofs.Promises.{add_taken, add_gives, run_known, run_gives, added_same, added_mark, added_usable, above_cons, all_none, all_more}
use Rattle.sums.specs.Row.{entries_for, entries_of, added_row, added_all_row}
use Rattle.sums.specs.Calls.{RingAndRow, add_row_call, run_row_call}
use Rattle.sums.specs.OneByOne.{OneByOne, none, first}
use Rattle.sums.proofs.PartByPart.{row_none, row_more}
use Rattle.sums.proofs.RowStays.{add_leaves_rest}
use Rattle.sums.proofs.Taken.{add_beside, run_beside}

-- ring and row together
abbrev both : List ℕ → List ℕ → RingAndRow
both ring row = record { ring = ring; row = row }

-- an item with a row that has room is taken where the book takes it; what it then gives and leaves
pub add_row_gives : (book : Book) (ring row : List ℕ) (item : ℕ) → Usable book (length ring) → item ≤ book.bound → book.resting ≡ awake
    → entries_of book ≤ length row → (refusal_of (add_row_call book ring row item) ≡ 0)
    × ((result_of (add_row_call book ring row item)).book ≡ added book item)
    × (left_of (add_row_call book ring row item) ≡ both (added_ring book ring item) (added_row book ring row item))
add_row_gives book ring row item usable small up room =
    let beside = add_beside book ring row item in
    let same = beside.with_room room in
    let own = add_taken book ring item usable small up in
    let gives = add_gives book ring item own in
    let taken = same.same_refusal ∙ own in (
      taken,
      ap (λ (u : Updated). u.book) (same.same_result ∙ gives.0),
      λ i. record { ring = (same.same_ring ∙ gives.1) i; row = beside.row_after taken i },
    )

one_by_one : (book : Book) (ring row counts : List ℕ) → Usable book (length ring) → any_above book.bound counts ≡ false → book.resting ≡ awake
    → entries_of book ≤ length row
    → OneByOne book (both ring row) counts (added_all book counts) (both (added_all_ring book ring counts) (added_all_row book ring row counts))
one_by_one book ring row [] usable small up room =
    rw ((all_none book ring).0, (all_none book ring).1, row_none book ring row) (none book (both ring row))
one_by_one book ring row (count ∷ later) usable small up room =
    let fits = above_cons book.bound count later small in
    let same = added_same book count in
    let gives = add_row_gives book ring row count usable fits.0 up room in
    let next = added book count in
    let next_ring = added_ring book ring count in
    let next_row = added_row book ring row count in
    let entries : entries_of (added book count) ≡ entries_of book =
    λ i. entries_for (slot_count (same.bound_same i) (same.length_same i) (same.tolerance_same i)) in
    let long : length (added_row book ring row count) ≡ length row =
    sym (ap (λ (l : RingAndRow). length l.row) gives.2) ∙ (add_leaves_rest book ring row count).same_length in
    rw ((all_more book ring count later).0, (all_more book ring count later).1, row_more book ring row count later)
    (first book (both ring row) count later (added_all next later) (both (added_all_ring next next_ring later) (added_all_row next next_ring next_row later))
    gives.0
    (rw (gives.1, gives.2)
    (one_by_one next next_ring next_row later (added_usable book ring count usable fits.0)
    (rw same.bound_same fits.1) (added_mark book count ∙ up) (rw (entries, long) room))))

pub run_row_is_adding : (book : Book) (ring row counts : List ℕ) → refusal_of (run_row_call book ring row counts) ≡ 0
    → OneByOne book (both ring row) counts (result_of (run_row_call book ring row counts)).book (left_of (run_row_call book ring row counts))
run_row_is_adding book ring row counts taken =
    let beside = run_beside book ring row counts in
    let room = beside.had_room taken in
    let same = beside.with_room room in
    let own = sym same.same_refusal ∙ taken in
    let known = run_known book ring counts own in
    let gives = run_gives book ring counts own in
    let left : left_of (run_row_call book ring row counts) ≡ both (added_all_ring book ring counts) (added_all_row book ring row counts) =
    λ i. record { ring = (same.same_ring ∙ gives.1) i; row = beside.row_after taken i } in
    rw (ap (λ (r : Ran). r.book) (same.same_result ∙ gives.0), left) (one_by_one book ring row counts known.0 known.1 known.2 room)
