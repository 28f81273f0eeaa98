-- The call without a row is the call with one of 64 entries, of which the caller sees nothing: that row is never too short.
-- Assumes nothing.
use Prim.Native.Nat.{ℕ, ◌≤◌, ◌<◌}
use native.Mathlib.Decide.{ℕ_discrete}
use native.Mathlib.Omega.{arith}
use mathlib.Core.List.{List}
use mathlib.Core.Logic.{◌⊎◌, inl, inr}
use mathlib.Core.Path.{◌≡◌, refl, sym, ap, ◌∙◌}
use lib.ListN.{length}
use Rattle.refusals.specs.Numbers.{row_too_short}
use Rattle.refusals.specs.First.{or_else}
use Rattle.refusals.specs.Call.{Call, refusal_of, result_of, left_of}
use Rattle.refusals.proofs.Laws.{or_else_stops}
use Rattle.refusals.proofs.Calls.{result_refused, left_refused}
use Rattle.book.specs.declared.Book.{Book}
use Rattle.book.proofs.Promises.{le_or_lt}
use Rattle.sums.specs.Calls.{RingAndRow}
use Rattle.sums.specs.Beside.{BesideTheBook}
use Rattle.coarse.specs.declared.told.Coarser.{Coarser}
use Rattle.coarse.specs.Coarser.{coarsened_row}
use Rattle.coarse.specs.Calls.{coarser_entries, coarse_faults, coarsen_call, coarsen_row_call}
use Rattle.coarse.proofs.WhenTaken.{coarsen_refusal, coarsen_known, coarsen_beside}
use Rattle.coarse.proofs.CoarserSizes.{entries_top}

module _ (book : Book) (ring : List ℕ) (times : ℕ) (second row : List ℕ) (long : length row ≡ 64) where
  abbrev own : Call Coarser (List ℕ)
  own = coarsen_call book ring times second

  abbrev call : Call Coarser RingAndRow
  call = coarsen_row_call book ring times second row

  Same : Type 0
  Same = (result_of call ≡ result_of own) × ((left_of call).ring ≡ left_of own)

  beside : BesideTheBook own (coarse_faults book (length ring) times (length second)) (coarser_entries book times) row
      (coarsened_row book ring times second row) call
  beside = coarsen_beside book ring times second row

  roomy : coarser_entries book times ≤ length row → Same
  unfolding Same
  roomy room = let same = beside.with_room room in (same.same_result, same.same_ring)

  -- the entries may be more where the call is refused: then it is refused for another reason
  pub row_let_go : (result_of call ≡ result_of own) × ((left_of call).ring ≡ left_of own)
  unfolding Same
  row_let_go = by (ℕ_discrete (refusal_of own) 0) (le_or_lt (coarser_entries book times) (length row))
    where
      by : Dec (refusal_of own ≡ 0) → (coarser_entries book times ≤ length row) ⊎ (length row < coarser_entries book times)
          → (result_of call ≡ result_of own) × ((left_of call).ring ≡ left_of own)
      by refused (inl room) = roomy room
      by (yes taken) (inr short) =
          let known = coarsen_known book ring times second taken in
          let top = entries_top book known.0.sound.ranges times known.1 in
          absurd (omega (arith, top, long))
      by (no some) (inr short) =
          let is : refusal_of call ≡ refusal_of own =
          beside.without_room short ∙ ap (λ (n : ℕ). or_else n row_too_short) (sym (coarsen_refusal book ring times second))
          ∙ sym (or_else_stops _ _ some) in
          let some' : refusal_of call ≡ 0 → ⊥ = λ e. some (sym is ∙ e) in (
            beside.refused_result some' ∙ ap own.back is ∙ result_refused own refl some,
            beside.refused_ring some' ∙ left_refused own refl some,
          )
