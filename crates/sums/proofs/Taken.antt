-- OPENING, ADDING AND A RUN are the book's own calls with the row beside them (promise C-16.1).
-- Assumes nothing.
use Prim.Native.Nat.{ℕ}
use mathlib.Core.List.{List, [], ◌∷◌, ◌++◌}
use mathlib.Core.Path.{◌≡◌, sym, ap, ◌∙◌}
use native.Mathlib.Decide.{ℕ_discrete}
use borrow.Author.Tests.{ne_eqb}
use lib.ListN.{length}
use Rattle.refusals.specs.Numbers.{item_too_large}
use Rattle.refusals.specs.Call.{refusal_of, result_of}
use Rattle.book.specs.declared.Book.{Book}
use Rattle.book.specs.declared.told.Ran.{Ran}
use Rattle.book.specs.Derived.{slot_count, bytes_needed}
use Rattle.book.specs.Shape.{number_faults}
use Rattle.book.specs.Calls.{room_fault, book_faults, rest_fault, item_fault, counts_fault, open_call, add_call, run_call}
use Rattle.book.proofs.Promises.{open_refusal, add_refusal, run_refusal, run_hands_back, run_gives}
use Rattle.sums.specs.Row.{entries_for, entries_of, added_row, added_all_row, cleared_row}
use Rattle.sums.specs.Calls.{open_row_call, add_row_call, run_row_call}
use Rattle.sums.specs.Beside.{BesideTheBook}
use Rattle.sums.proofs.BesideTheBook.{beside_the_book}

pub open_beside : (bound n tolerance : ℕ) (ring row : List ℕ)
    → BesideTheBook (open_call bound n tolerance ring)
    (number_faults bound n tolerance ++ room_fault (bytes_needed bound n tolerance) (length ring) ∷ [])
    (entries_for (slot_count bound n tolerance)) row (cleared_row (slot_count bound n tolerance) row) (open_row_call bound n tolerance ring row)
unfolding open_row_call
open_beside bound n tolerance ring row =
    beside_the_book (open_call bound n tolerance ring) _ [] (open_refusal bound n tolerance ring) (entries_for (slot_count bound n tolerance)) row _

module _ (book : Book) (ring row : List ℕ) where
  pub add_beside : (item : ℕ)
      → BesideTheBook (add_call book ring item) (book_faults book (length ring)) (entries_of book) row (added_row book ring row item)
      (add_row_call book ring row item)
  unfolding add_row_call
  add_beside item =
      beside_the_book (add_call book ring item) _ (rest_fault book ∷ item_fault book item ∷ []) (add_refusal book ring item) (entries_of book) row _

  pub run_beside : (counts : List ℕ)
      → BesideTheBook (run_call book ring counts) (book_faults book (length ring)) (entries_of book) row (added_all_row book ring row counts)
      (run_row_call book ring row counts)
  unfolding run_row_call
  run_beside counts =
      beside_the_book (run_call book ring counts) _ (rest_fault book ∷ counts_fault book counts ∷ []) (run_refusal book ring counts) (entries_of book) row _

  -- only with 7 a run has a place
  pub run_row_place_0 : (counts : List ℕ) → (refusal_of (run_row_call book ring row counts) ≡ item_too_large → ⊥)
      → (result_of (run_row_call book ring row counts)).place ≡ 0
  run_row_place_0 counts not_7 = by (ℕ_discrete (refusal_of (run_row_call book ring row counts)) 0)
    where
      beside : BesideTheBook (run_call book ring counts) (book_faults book (length ring)) (entries_of book) row (added_all_row book ring row counts)
          (run_row_call book ring row counts)
      beside = run_beside counts

      by : Dec (refusal_of (run_row_call book ring row counts) ≡ 0) → (result_of (run_row_call book ring row counts)).place ≡ 0
      by (yes taken) =
          let same = beside.with_room (beside.had_room taken) in
          ap (λ (r : Ran). r.place) (same.same_result ∙ (run_gives book ring counts (sym same.same_refusal ∙ taken)).0)
      by (no some) =
          ap (λ (r : Ran). r.place) (beside.refused_result some ∙ run_hands_back book ring counts (refusal_of (run_row_call book ring row counts)))
          ∙ rw (ne_eqb (refusal_of (run_row_call book ring row counts)) item_too_large not_7)
