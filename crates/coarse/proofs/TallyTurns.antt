-- The tally takes the old quotients in parts: after each part, those that are left come to what all of them do.
-- Assumes nothing.
use Prim.Native.Nat.{ℕ, ◌-◌, ◌≤◌}
use native.Mathlib.Omega.{arith}
use mathlib.Core.Bool.{false}
use mathlib.Core.List.{List, []}
use mathlib.Core.Path.{◌≡◌, refl, sym, ap, ◌∙◌}
use lib.ListN.{length, take}
use Rattle.refusals.specs.Call.{result_of, left_of}
use Rattle.book.specs.declared.Book.{Book}
use Rattle.std.proofs.Common.{Result, Ok}
use Rattle.refusals.specs.Call.{refusal_of}
use Rattle.book.specs.declared.RunRefusal.{RunRefusal}
use Rattle.book.specs.Told.{as_ran}
use Rattle.book.specs.Calls.{run_call}
use Rattle.sums.specs.Beside.{SameAs}
use Rattle.book.specs.Record.{width_of}
use Rattle.book.specs.Derived.{slot_count}
use Rattle.book.specs.RunOfCounts.{any_above, added_all, added_all_ring}
use Rattle.book.proofs.Promises.{run_taken, run_gives, all_none, above_take, added_all_apart, added_ring_apart}
use Rattle.sums.specs.Row.{entries_for, added_all_row}
use Rattle.sums.specs.Calls.{run_row_call}
use Rattle.sums.proofs.Promises.{run_beside, run_ok, run_leaves_rest, row_none, row_apart, still_a_book}
use Rattle.coarse.specs.Quotients.{quotients}
use Rattle.coarse.specs.Steps.{Takes}
use Rattle.coarse.proofs.OldQuotients.{quotients_apart, quotients_small}

-- A RUN of counts of at most 1 is taken by a tally, which is one still; what comes of it
pub record TakenIn (tally : Book) (second row counts : List ℕ) (after : Book) (second' row' : List ℕ) : Type 0 where
  pub book_is : after ≡ added_all tally counts
  pub ring_is : second' ≡ added_all_ring tally second counts
  pub row_is : row' ≡ added_all_row tally second row counts
  pub takes : Takes after (length second') (length row')

module _ {tally : Book} (second row counts : List ℕ) (takes : Takes tally (length second) (length row)) (units : any_above 1 counts ≡ false) where
  small : any_above tally.bound counts ≡ false
  small = rw takes.units units

  own : refusal_of (run_call tally second counts) ≡ 0
  own = run_taken tally second counts takes.usable small takes.up

  same : SameAs (run_call tally second counts) (run_row_call tally second row counts)
  same = (run_beside tally second row counts).with_room takes.room

  -- what the run has returned
  pub ran_is : (answer : Result Book RunRefusal) → as_ran tally answer ≡ result_of (run_row_call tally second row counts)
      → answer ≡ Ok (added_all tally counts)
  ran_is answer told = run_ok tally answer (told ∙ same.same_result ∙ (run_gives tally second counts own).0)

  pub taken_in : {after : Book} {second' row' : List ℕ} → after ≡ added_all tally counts
      → second' ≡ (left_of (run_row_call tally second row counts)).ring → row' ≡ (left_of (run_row_call tally second row counts)).row
      → TakenIn tally second row counts after second' row'
  taken_in {after} {second'} {row'} book_is ring_left_lem row_left_lem =
      let gives = run_gives tally second counts own in
      let ring_is : second' ≡ added_all_ring tally second counts = ring_left_lem ∙ same.same_ring ∙ gives.1 in
      let stays = still_a_book tally second counts takes.usable small in
      let long : length row' ≡ length row = ap length row_left_lem ∙ (run_leaves_rest tally second row counts).same_length in
      let entries : entries_for (slot_count after.bound after.length after.tolerance)
      ≡ entries_for (slot_count tally.bound tally.length tally.tolerance) =
      ap (λ (b : Book). entries_for (slot_count b.bound b.length b.tolerance)) book_is
      ∙ (λ i. entries_for (slot_count (stays.bound_same i) (stays.length_same i) (stays.tolerance_same i))) in
      record {
        book_is = book_is;
        ring_is = ring_is;
        row_is = row_left_lem ∙ (run_beside tally second row counts).row_after (same.same_refusal ∙ own);
        takes =
            record {
              usable = rw (book_is, ring_is) stays.usable;
              room = omega (arith, entries, long, takes.room);
              up = ap (λ (b : Book). b.resting) book_is ∙ stays.mark_same ∙ takes.up;
              units = ap (λ (b : Book). b.bound) book_is ∙ stays.bound_same ∙ takes.units;
            };
      }

-- PART BY PART, with the quotients of `left` blocks still to be taken
pub record Going (book : Book) (ring : List ℕ) (blocks : ℕ) (fresh : Book) (second₀ row₀ : List ℕ) (tally : Book) (second row : List ℕ) (left : ℕ)
    : Type 0 where
  pub within : left ≤ blocks
  pub takes : Takes tally (length second) (length row)
  pub book_left_lem : added_all tally (quotients book ring left) ≡ added_all fresh (quotients book ring blocks)
  pub ring_left_lem : added_all_ring tally second (quotients book ring left) ≡ added_all_ring fresh second₀ (quotients book ring blocks)
  pub row_left_lem : added_all_row tally second row (quotients book ring left) ≡ added_all_row fresh second₀ row₀ (quotients book ring blocks)

pub going_start : (book : Book) (ring : List ℕ) (blocks : ℕ) {fresh : Book} {second row : List ℕ} → Takes fresh (length second) (length row)
    → Going book ring blocks fresh second row fresh second row blocks
going_start book ring blocks takes =
    record { within = omega arith; takes = takes; book_left_lem = refl; ring_left_lem = refl; row_left_lem = refl }

module _ {book : Book} {ring : List ℕ} {blocks : ℕ} {fresh : Book} {second₀ row₀ : List ℕ} {tally : Book} {second row : List ℕ} {left : ℕ}
    (g : Going book ring blocks fresh second₀ row₀ tally second row left) where
  -- one part more: the first n quotients of those that are left
  module _ (thin : width_of book ≡ 1) {n : ℕ} (few : n ≤ left) {part : List ℕ}
      (part_is : part ≡ take n (quotients book ring left)) where
    pub part_units : any_above 1 part ≡ false
    part_units = rw part_is (above_take 1 n (quotients book ring left) (quotients_small book ring thin left))

    pub going_step : {after : Book} {second' row' : List ℕ} → TakenIn tally second row part after second' row'
        → Going book ring blocks fresh second₀ row₀ after second' row' (left - n)
    going_step ran =
        let these = take n (quotients book ring left) in
        let later = quotients book ring (left - n) in
        let apart = quotients_apart book ring left n few in
        let book_is = ran.book_is ∙ ap (added_all tally) part_is in
        let ring_is = ran.ring_is ∙ ap (added_all_ring tally second) part_is in
        let row_is = ran.row_is ∙ ap (added_all_row tally second row) part_is in
        record {
          within = omega (arith, g.within);
          takes = ran.takes;
          book_left_lem =
              ap (λ (b : Book). added_all b later) book_is ∙ sym (added_all_apart tally these later)
              ∙ ap (added_all tally) apart ∙ g.book_left_lem;
          ring_left_lem =
              (λ i. added_all_ring (book_is i) (ring_is i) later) ∙ sym (added_ring_apart tally second these later)
              ∙ ap (added_all_ring tally second) apart ∙ g.ring_left_lem;
          row_left_lem =
              (λ i. added_all_row (book_is i) (ring_is i) (row_is i) later) ∙ sym (row_apart tally second row these later)
              ∙ ap (added_all_row tally second row) apart ∙ g.row_left_lem;
        }

  -- none is left
  pub going_end : left ≡ 0
      → (tally ≡ added_all fresh (quotients book ring blocks)) × (second ≡ added_all_ring fresh second₀ (quotients book ring blocks))
      × (row ≡ added_all_row fresh second₀ row₀ (quotients book ring blocks))
  unfolding quotients
  going_end none =
      let empty : quotients book ring left ≡ [] = ap (quotients book ring) none in (
        sym (ap (added_all tally) empty ∙ (all_none tally second).0) ∙ g.book_left_lem,
        sym (ap (added_all_ring tally second) empty ∙ (all_none tally second).1) ∙ g.ring_left_lem,
        sym (ap (added_all_row tally second row) empty ∙ row_none tally second row) ∙ g.row_left_lem,
      )
