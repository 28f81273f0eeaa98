-- THE SENTENCE OF THE REQUEST WITH A ROW: what the call with a row gives and leaves is what a fresh book of tolerance m·D with a cleared row comes
-- to, one item after the other, with any history that gives the old quotients and R, but for the mark.
-- Assumes nothing.
use Prim.Native.Nat.{ℕ, ◌*◌, ◌≤◌}
use mathlib.Core.List.{List}
use mathlib.Core.Path.{◌≡◌, sym, ap, ◌∙◌}
use lib.ListN.{length}
use Rattle.refusals.specs.Call.{refusal_of, left_of}
use Rattle.book.specs.declared.Book.{Book}
use Rattle.book.specs.declared.told.Ran.{Ran}
use Rattle.book.specs.Derived.{slot_count}
use Rattle.book.specs.RunOfCounts.{added_all, added_all_ring}
use Rattle.book.proofs.Promises.{run_gives}
use Rattle.sums.specs.Row.{added_all_row}
use Rattle.sums.specs.Calls.{RingAndRow, run_row_call}
use Rattle.sums.specs.OneByOne.{OneByOne}
use Rattle.sums.proofs.Promises.{run_beside, run_row_is_adding, cleared_rest}
use Rattle.coarse.specs.declared.told.Coarser.{Coarser}
use Rattle.coarse.specs.Calls.{coarser_entries, coarsen_call, coarsen_row_call}
use Rattle.coarse.specs.Histories.{Gives, begun_coarser, begun_ring, begun_row, AsFreshWithRow}
use Rattle.coarse.proofs.WhenTaken.{coarsen_beside}
use Rattle.coarse.proofs.AsFresh.{ends, given_is, left_is, takes_all}

-- A CALL THAT IS TAKEN, and a history
module _ (book : Book) (ring : List ℕ) (times : ℕ) (second row : List ℕ) (taken : refusal_of (coarsen_row_call book ring times second row) ≡ 0)
    (r : ℕ) (items : List ℕ) (gives : Gives book ring r items) where
  abbrev fresh : Book
  fresh = begun_coarser book times r

  abbrev fresh_ring_lem : List ℕ
  fresh_ring_lem = begun_ring book times second

  abbrev fresh_row : List ℕ
  fresh_row = begun_row book times row

  -- the row had room, so that the call is the one without a row
  roomy : coarser_entries book times ≤ length row
  roomy = (coarsen_beside book ring times second row).had_room taken

  own_taken : refusal_of (coarsen_call book ring times second) ≡ 0
  own_taken = sym ((coarsen_beside book ring times second row).with_room roomy).same_refusal ∙ taken

  -- the fresh book takes the items as a run with the row
  takes_all_with_row : refusal_of (run_row_call fresh fresh_ring_lem fresh_row items) ≡ 0
  takes_all_with_row =
      let long = (cleared_rest (slot_count book.bound book.length (times * book.tolerance)) row roomy).same_length in
      ((run_beside fresh fresh_ring_lem fresh_row items).with_room (rw long roomy)).same_refusal
      ∙ takes_all book ring times second own_taken r items gives

  -- and leaves ring and row as the call does
  abbrev both : RingAndRow
  both = record { ring = added_all_ring fresh fresh_ring_lem items; row = added_all_row fresh fresh_ring_lem fresh_row items }

  one_by_one : OneByOne fresh (record { ring = fresh_ring_lem; row = fresh_row }) items (added_all fresh items) both
  one_by_one =
      let beside = run_beside fresh fresh_ring_lem fresh_row items in
      let same = beside.with_room (beside.had_room takes_all_with_row) in
      let run = run_gives fresh fresh_ring_lem items (takes_all book ring times second own_taken r items gives) in
      let left : left_of (run_row_call fresh fresh_ring_lem fresh_row items) ≡ both =
      λ i. record { ring = (same.same_ring ∙ run.1) i; row = beside.row_after takes_all_with_row i } in
      rw (ap (λ (o : Ran). o.book) (same.same_result ∙ run.0), left) at (run_row_is_adding fresh fresh_ring_lem fresh_row items takes_all_with_row)

  left_with_row_is : left_of (coarsen_row_call book ring times second row) ≡ both
  left_with_row_is =
      let beside = coarsen_beside book ring times second row in
      let rings = (beside.with_room roomy).same_ring ∙ left_is book ring times second own_taken r items gives in
      let rows = beside.row_after taken ∙ sym (ends book ring times second own_taken r items gives row).row_ends in
      λ i. record { ring = rings i; row = rows i }

  -- THE SENTENCE
  pub as_fresh_with_row : AsFreshWithRow book ring times second row r items
  as_fresh_with_row =
      record {
        last = added_all fresh items;
        adding = rw left_with_row_is one_by_one;
        record_is = ap (λ (c : Coarser). c.book) ((coarsen_beside book ring times second row).with_room roomy).same_result
            ∙ given_is book ring times second own_taken r items gives;
      }
