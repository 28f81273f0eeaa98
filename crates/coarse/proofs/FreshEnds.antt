-- What a fresh book of tolerance m·D comes to with any history that begins at the oldest wholly kept block and gives the old quotients and R: the
-- coarser record but for its mark, which is awake, and the coarser ring and row.
-- Assumes nothing.
use Prim.Native.Nat.{ℕ, ◌+◌, ◌-◌, ◌*◌, ◌%◌, min}
use native.Mathlib.Nat.{div-mul-le_self, mod-eq_of_lt, mul-add-mod_self_right}
use native.Mathlib.Omega.{arith}
use mathlib.Core.List.{List}
use mathlib.Core.Path.{◌≡◌, refl, ap, ◌∙◌}
use Rattle.book.specs.declared.Book.{Book}
use Rattle.book.specs.Resting.{awake, marked}
use Rattle.book.specs.Record.{block_of, record_with, opened}
use Rattle.book.specs.Sound.{Sound}
use Rattle.book.specs.RunOfCounts.{added_all, added_all_ring}
use Rattle.book.proofs.Promises.{block_low}
use Rattle.sums.specs.Row.{added_all_row}
use Rattle.coarse.specs.Quotients.{blocks_kept, old_quotients}
use Rattle.coarse.specs.Coarsens.{Coarsens}
use Rattle.coarse.specs.Coarser.{fresh_tally, tally, coarsened, coarsened_ring, coarsened_row}
use Rattle.coarse.specs.Histories.{begun, Gives, begun_coarser, begun_ring, begun_row}
use Rattle.coarse.proofs.CoarserNumbers.{same_fresh_ring, same_fresh_row}
use Rattle.coarse.proofs.Together.{together, InStep}
use Rattle.coarse.proofs.ByTheCount.{phase_after, kept_after}
use Rattle.coarse.proofs.AlongAHistory.{along}

module _ (book : Book) (ring : List ℕ) (times : ℕ) (second : List ℕ) where
  -- what a fresh coarser book comes to with a history, its ring and its row
  pub record Ends (r : ℕ) (items row : List ℕ) : Type 0 where
    pub record_ends : added_all (begun_coarser book times r) items ≡ marked (coarsened book ring times) awake
    pub ring_ends : added_all_ring (begun_coarser book times r) (begun_ring book times second) items
        ≡ coarsened_ring book ring times second
    pub row_ends : added_all_row (begun_coarser book times r) (begun_ring book times second) (begun_row book times row) items
        ≡ coarsened_row book ring times second row

  module _ (sound : Sound book) (can : Coarsens book times) (r : ℕ) (items : List ℕ) (gives : Gives book ring r items) where
    -- it begins together with the old book and the tally …
    begins : begun_coarser book times r ≡ together book times (begun book r) (fresh_tally book times)
    begins = λ i. record_with (opened book.bound book.length (times * book.tolerance)) (carries i) (phases i) 0 0
      where
        carries : r ≡ r + book.tolerance * 0
        carries = omega arith

        phases : 0 ≡ 0 + 0 * block_of book
        phases = omega arith

    start : InStep book times (begun book r) (fresh_tally book times)
    start =
        record {
          fine_numbers = record { bound_same = refl; length_same = refl; tolerance_same = refl };
          tally_numbers = record { bound_same = refl; length_same = refl; tolerance_same = refl };
          phase_lt = block_low book.bound book.tolerance;
        }

    -- … and ends with them. The old book's phase and what it kept follow from the number of items
    abbrev fine : Book
    fine = added_all (begun book r) items

    fine_phase : fine.phase ≡ book.phase
    fine_phase =
        phase_after book.bound book.length book.tolerance sound.ranges r items
        ∙ ap (λ (m : ℕ). m % block_of book) gives.count_is
        ∙ mul-add-mod_self_right (blocks_kept book) (block_of book) book.phase
        ∙ mod-eq_of_lt sound.phase_high

    fine_kept : fine.kept ≡ book.phase + blocks_kept book * block_of book
    fine_kept =
        kept_after book.bound book.length book.tolerance sound.ranges r items
        ∙ ap (λ (m : ℕ). min book.length m) gives.count_is
        ∙ omega (arith, div-mul-le_self (book.kept - book.phase) (block_of book), sound.kept_low, sound.kept_high)

    -- the tally after all old quotients
    abbrev counted : Book
    counted = added_all (fresh_tally book times) (old_quotients book ring)

    ends_together : together book times fine counted ≡ marked (coarsened book ring times) awake
    unfolding coarsened tally
    ends_together =
        λ i. record_with (opened book.bound book.length (times * book.tolerance)) (gives.carry_is i + book.tolerance * counted.carry)
        (fine_phase i + counted.phase * block_of book) (fine_kept i) counted.head

    -- so that record, ring and row are the coarser ones
    pub fresh_ends : (row : List ℕ) → Ends r items row
    unfolding coarsened_ring coarsened_row
    fresh_ends row =
        let begin_ring = begun_ring book times second in
        let begin_row = begun_row book times row in
        let a = along book sound.ranges times can (begun book r) (fresh_tally book times) begin_ring begin_row items start in
        let rings = same_fresh_ring book sound.ranges times can second in
        let rows = same_fresh_row book sound.ranges times can row in
        record {
          record_ends =
              ap (λ (b : Book). added_all b items) begins ∙ a.record_along
              ∙ ap (λ (qs : List ℕ). together book times fine (added_all (fresh_tally book times) qs)) gives.quotients_are ∙ ends_together;
          ring_ends =
              ap (λ (b : Book). added_all_ring b begin_ring items) begins ∙ a.ring_along
              ∙ (λ i. added_all_ring (fresh_tally book times) (rings i) (gives.quotients_are i));
          row_ends =
              ap (λ (b : Book). added_all_row b begin_ring begin_row items) begins ∙ a.row_along
              ∙ (λ i. added_all_row (fresh_tally book times) (rings i) (rows i) (gives.quotients_are i));
        }
