-- THE SENTENCE OF THE REQUEST: what the call gives and leaves is what a fresh book of tolerance m·D comes to, one item after the other, with any
-- history that begins at the oldest wholly kept block and gives the old quotients and R, but for the mark. So all such histories agree.
-- Assumes nothing.
use Prim.Native.Nat.{ℕ, ◌*◌, ◌≤◌}
use native.Mathlib.Nat.{mul-le-mul_right}
use native.Mathlib.Omega.{arith}
use mathlib.Core.List.{List, []}
use mathlib.Core.Path.{◌≡◌, refl, sym, ap, ◌∙◌}
use lib.ListN.{length}
use Rattle.refusals.specs.Call.{refusal_of, result_of, left_of}
use Rattle.ring.proofs.Promises.{length_cleared}
use Rattle.book.specs.declared.Book.{Book}
use Rattle.book.specs.declared.told.Ran.{Ran}
use Rattle.book.specs.Derived.{slot_count, field_width}
use Rattle.book.specs.Resting.{awake, marked}
use Rattle.book.specs.Sound.{Usable}
use Rattle.book.specs.RunOfCounts.{added_all, added_all_ring}
use Rattle.book.specs.OneByOne.{OneByOne}
use Rattle.book.specs.Calls.{run_call}
use Rattle.book.proofs.Promises.{block_low, slots_low, book_lent, run_taken, run_gives, run_is_adding, one_end}
use Rattle.sums.specs.Row.{added_all_row}
use Rattle.coarse.specs.declared.told.Coarser.{Coarser}
use Rattle.coarse.specs.Coarsens.{Coarsens}
use Rattle.coarse.specs.Coarser.{coarsened, coarsened_ring}
use Rattle.coarse.specs.Calls.{coarser_bytes, coarsen_call}
use Rattle.coarse.specs.Histories.{Gives, begun_coarser, begun_ring, begun_row, AsFresh}
use Rattle.coarse.proofs.WhenTaken.{coarsen_known, coarsen_gives}
use Rattle.coarse.proofs.CoarserNumbers.{new_in_range}
use Rattle.coarse.proofs.FreshEnds.{Ends, fresh_ends}

module _ (book : Book) (ring : List ℕ) (times : ℕ) (second : List ℕ) where
  -- the mark is the old book's
  mark_carried : coarsened book ring times ≡ marked (coarsened book ring times) book.resting
  unfolding coarsened
  mark_carried = refl

  -- A CALL THAT IS TAKEN, and a history
  module _ (taken : refusal_of (coarsen_call book ring times second) ≡ 0) (r : ℕ) (items : List ℕ) (gives : Gives book ring r items) where
    abbrev fresh : Book
    fresh = begun_coarser book times r

    abbrev fresh_ring_lem : List ℕ
    fresh_ring_lem = begun_ring book times second

    can : Coarsens book times
    can = (coarsen_known book ring times second taken).1

    room : coarser_bytes book times ≤ length second
    room = (coarsen_known book ring times second taken).2

    -- what the fresh book comes to is what the call gives and leaves
    pub ends : (row : List ℕ) → Ends book ring times second r items row
    ends = fresh_ends book ring times second (coarsen_known book ring times second taken).0.sound can r items gives

    pub given_is : (result_of (coarsen_call book ring times second)).book ≡ marked (added_all fresh items) book.resting
    given_is =
        ap (λ (c : Coarser). c.book) (coarsen_gives book ring times second taken).0 ∙ mark_carried
        ∙ ap (λ (b : Book). marked b book.resting) (sym (ends []).record_ends)

    pub left_is : left_of (coarsen_call book ring times second) ≡ added_all_ring fresh fresh_ring_lem items
    left_is = (coarsen_gives book ring times second taken).1 ∙ sym (ends []).ring_ends

    -- with a carry below D it is a book with its ring, which takes the items as a run
    fresh_usable : Usable fresh (length fresh_ring_lem)
    fresh_usable =
        let ranges = new_in_range book (coarsen_known book ring times second taken).0.sound.ranges times can in
        let whole = book_lent book.bound book.length (times * book.tolerance) (length second) ranges room in
        let width : ℕ = field_width book.bound (times * book.tolerance) in
        let slots : ℕ = slot_count book.bound book.length (times * book.tolerance) in
        record {
          sound =
              record {
                ranges = ranges;
                kept_high = omega arith;
                kept_low = omega arith;
                phase_high = block_low book.bound (times * book.tolerance);
                head_high = slots_low book.bound book.length (times * book.tolerance) ranges;
                carry_high = omega (arith, mul-le-mul_right book.tolerance can.times_low, gives.below);
              };
          room = rw (length_cleared width slots second whole) room;
        }

    pub takes_all : refusal_of (run_call fresh fresh_ring_lem items) ≡ 0
    takes_all = run_taken fresh fresh_ring_lem items fresh_usable gives.items_small refl

    one_by_one : OneByOne fresh fresh_ring_lem items (added_all fresh items) (added_all_ring fresh fresh_ring_lem items)
    one_by_one =
        let run = run_gives fresh fresh_ring_lem items takes_all in
        rw (ap (λ (o : Ran). o.book) run.0, run.1) at (run_is_adding fresh fresh_ring_lem items takes_all)

    -- THE SENTENCE
    pub as_fresh : AsFresh book ring times second r items
    as_fresh = record { last = added_all fresh items; adding = rw left_is one_by_one; record_is = given_is }

    -- whatever it comes to one by one is the coarser record, awake, and the coarser ring
    one_by_one_ends : (last : Book) (left : List ℕ) → OneByOne fresh fresh_ring_lem items last left
        → (last ≡ marked (coarsened book ring times) awake) × (left ≡ coarsened_ring book ring times second)
    one_by_one_ends last left adding =
        let same = one_end fresh fresh_ring_lem items last (added_all fresh items) left (added_all_ring fresh fresh_ring_lem items) adding one_by_one in
        (same.0 ∙ (ends []).record_ends, same.1 ∙ (ends []).ring_ends)

  -- ALL HISTORIES that give the old quotients and R AGREE: added one by one they come to one record and one ring
  pub histories_agree : refusal_of (coarsen_call book ring times second) ≡ 0
      → (r : ℕ) (items : List ℕ) → Gives book ring r items → (r' : ℕ) (items' : List ℕ) → Gives book ring r' items'
      → (last last' : Book) (left left' : List ℕ)
      → OneByOne (begun_coarser book times r) (begun_ring book times second) items last left
      → OneByOne (begun_coarser book times r') (begun_ring book times second) items' last' left'
      → (last ≡ last') × (left ≡ left')
  histories_agree taken r items gives r' items' gives' last last' left left' one other =
      let a = one_by_one_ends taken r items gives last left one in
      let b = one_by_one_ends taken r' items' gives' last' left' other in
      (a.0 ∙ sym b.0, a.1 ∙ sym b.1)

  -- and to one row, where one is kept
  pub rows_agree : refusal_of (coarsen_call book ring times second) ≡ 0
      → (r : ℕ) (items : List ℕ) → Gives book ring r items → (r' : ℕ) (items' : List ℕ) → Gives book ring r' items' → (row : List ℕ)
      → added_all_row (begun_coarser book times r) (begun_ring book times second) (begun_row book times row) items
      ≡ added_all_row (begun_coarser book times r') (begun_ring book times second) (begun_row book times row) items'
  rows_agree taken r items gives r' items' gives' row =
      (ends taken r items gives row).row_ends ∙ sym (ends taken r' items' gives' row).row_ends
