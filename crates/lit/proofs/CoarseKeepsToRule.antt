-- The coarse pair keeps to the rules of document 004, with the step as the additive error; with a step of 1 it is rank and select themselves.
-- Assumes nothing.
use Prim.Native.Nat.{ℕ, zero, suc, ◌+◌, ◌-◌, ◌<◌, ◌≤◌}
use native.Mathlib.Decide.{ℕ_discrete}
use native.Mathlib.Nat.{mul-div-le, lt-mul-div-succ}
use native.Mathlib.Omega.{arith}
use mathlib.Core.Bool.{Bool, cond}
use mathlib.Core.List.{List}
use mathlib.Core.Path.{◌≡◌, ap}
use borrow.Author.Tests.{eq-eqb, ne_eqb}
use Rattle.bits.specs.Ones.{ones_of}
use Rattle.lit.specs.RankSelect.{rank_of, select_of}
use Rattle.lit.specs.Coarse.{step_down, coarse_rank, place_behind, coarse_select}
use Rattle.lit.specs.Rules.{RankRule, SelectRule}
use Rattle.lit.proofs.Selects.{select_place}
use Rattle.lit.proofs.RankAndSelect.{select_grows}

-- the last multiple of the step up to k is not above k, and less than a step below it
step_down_lem : (d k : ℕ) → 0 < d → (step_down d k ≤ k) × (k < step_down d k + d)
step_down_lem d k pos = (mul-div-le k d, omega (arith, lt-mul-div-succ k pos))

-- with a step of 1 it is k
step_1 : (k : ℕ) → step_down 1 k ≡ k
step_1 k = omega arith

-- COARSE RANK is 004's drankA: not above rank, and less than d below it
pub coarse_rank_rule : (d i : ℕ) (row : List ℕ) → 0 < d → RankRule d i row (coarse_rank d i row)
coarse_rank_rule d i row pos = let near = step_down_lem d (rank_of i row) pos in record { above = near.1; within = near.0 }

-- the place behind the t-th one, where t is below k and less than d below it
behind_rule : (d k t : ℕ) (row : List ℕ) → k ≤ ones_of row → t < k → k < t + d → SelectRule d k row (place_behind t row)
behind_rule d k zero row there below near =
    let e : k - d ≡ 0 = omega arith in
    record { above = rw e (omega arith); within = (select_place k row below there).0 }
behind_rule d k (suc t) row there below near =
    record {
      above = omega (arith, select_grows row (k - d) (suc t) (omega arith) (omega arith));
      within = omega (arith, select_grows row (suc t) k below there);
    }

-- COARSE SELECT is 004's selectA: not past the k-th one, and behind the one that is d before it
pub coarse_select_rule : (d k : ℕ) (row : List ℕ) → 0 < d → 0 < k → k ≤ ones_of row → SelectRule d k row (coarse_select d k row)
coarse_select_rule d k row pos one there = by (ℕ_discrete (step_down d k) k)
  where
    by : Dec (step_down d k ≡ k) → SelectRule d k row (coarse_select d k row)
    by (yes e) =
        rw (eq-eqb (step_down d k) k e)
        (record { above = select_grows row (k - d) k (omega arith) there; within = omega arith })
    by (no ne) =
        let near = step_down_lem d k pos in
        rw (ne_eqb (step_down d k) k ne) (behind_rule d k (step_down d k) row there (omega arith) near.1)

-- COARSE RANK WITH A STEP OF 1 is rank
pub coarse_rank_1 : (i : ℕ) (row : List ℕ) → coarse_rank 1 i row ≡ rank_of i row
coarse_rank_1 i row = step_1 (rank_of i row)

-- COARSE SELECT WITH A STEP OF 1 is select
pub coarse_select_1 : (k : ℕ) (row : List ℕ) → coarse_select 1 k row ≡ select_of k row
coarse_select_1 k row =
    ap (λ (b : Bool). cond b (select_of k row) (place_behind (step_down 1 k) row)) (eq-eqb (step_down 1 k) k (step_1 k))
