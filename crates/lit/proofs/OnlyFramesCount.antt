-- Bits behind the length do not count: two slices that both hold as many bits, and the same frames in them, get the same answers.
-- Assumes nothing.
use Prim.Native.Nat.{ℕ, ◌*◌, ◌≤◌}
use mathlib.Core.Bool.{cond}
use mathlib.Core.List.{List, [], ◌∷◌, ◌++◌}
use mathlib.Core.Path.{◌≡◌, ap, ◌∙◌}
use borrow.Author.Tests.{le-ltb}
use lib.Dec.{eqb}
use lib.ListN.{length}
use Rattle.refusals.specs.Numbers.{bad_lit_call}
use Rattle.refusals.specs.First.{Fault, or_else, first_of}
use Rattle.refusals.specs.Call.{result_of}
use Rattle.bits.specs.Ones.{ones_of}
use Rattle.lit.specs.Frames.{frames}
use Rattle.lit.specs.RankSelect.{rank_of, select_of}
use Rattle.lit.specs.Coarse.{coarse_rank, coarse_select}
use Rattle.lit.specs.Calls.{row_faults, step_fault, beyond_fault, no_such_one, rank_call, select_call, coarse_rank_call, coarse_select_call}
use Rattle.lit.proofs.Asked.{same_answer}

module _ (row row' : List ℕ) (count : ℕ) (there : count ≤ length row * 8) (there' : count ≤ length row' * 8)
    (same : frames row count ≡ frames row' count) where
  -- the faults of the two rows give the same number, with the same ones behind them
  same_faults : (later : List Fault) → first_of (row_faults (length row) count ++ later) ≡ first_of (row_faults (length row') count ++ later)
  same_faults later = rw (le-ltb (length row * 8) count there, le-ltb (length row' * 8) count there')

  -- also where these ask for the number of ones
  same_select_faults : (k : ℕ) → first_of (row_faults (length row) count ++ no_such_one (ones_of (frames row count)) k)
      ≡ first_of (row_faults (length row') count ++ no_such_one (ones_of (frames row' count)) k)
  same_select_faults k =
      same_faults (no_such_one (ones_of (frames row count)) k)
      ∙ ap (λ (l : List ℕ). first_of (row_faults (length row') count ++ no_such_one (ones_of l) k)) same

  pub rank_by_frames : (i : ℕ) → result_of (rank_call row count i) ≡ result_of (rank_call row' count i)
  unfolding rank_call
  rank_by_frames i =
      same_answer row row' (rank_call row count i).faults (rank_call row' count i).faults (rank_of i (frames row count))
      (rank_of i (frames row' count)) (same_faults (beyond_fault count i ∷ [])) (ap (rank_of i) same)

  pub select_by_frames : (k : ℕ) → result_of (select_call row count k) ≡ result_of (select_call row' count k)
  unfolding select_call
  select_by_frames k =
      same_answer row row' (select_call row count k).faults (select_call row' count k).faults (select_of k (frames row count))
      (select_of k (frames row' count)) (same_select_faults k) (ap (select_of k) same)

  module _ (d : ℕ) where
    -- a step before them
    with_step : (faults faults' : List Fault) → first_of faults ≡ first_of faults' → first_of (step_fault d ∷ faults) ≡ first_of (step_fault d ∷ faults')
    with_step faults faults' e = ap (or_else (cond (eqb d 0) bad_lit_call 0)) e

    pub coarse_rank_by_frames : (i : ℕ) → result_of (coarse_rank_call row count d i) ≡ result_of (coarse_rank_call row' count d i)
    unfolding rank_call coarse_rank_call
    coarse_rank_by_frames i =
        same_answer row row' (coarse_rank_call row count d i).faults (coarse_rank_call row' count d i).faults (coarse_rank d i (frames row count))
        (coarse_rank d i (frames row' count))
        (with_step (rank_call row count i).faults (rank_call row' count i).faults (same_faults (beyond_fault count i ∷ [])))
        (ap (coarse_rank d i) same)

    pub coarse_select_by_frames : (k : ℕ) → result_of (coarse_select_call row count d k) ≡ result_of (coarse_select_call row' count d k)
    unfolding select_call coarse_select_call
    coarse_select_by_frames k =
        same_answer row row' (coarse_select_call row count d k).faults (coarse_select_call row' count d k).faults
        (coarse_select d k (frames row count)) (coarse_select d k (frames row' count))
        (with_step (select_call row count k).faults (select_call row' count k).faults (same_select_faults k)) (ap (coarse_select d k) same)
