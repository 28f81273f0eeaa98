-- The rules of document 004 that the coarse pair is held to (SCOPE, Lit frames), with an additive error δ of at least 1. In whole numbers without a
-- sign a − δ is 0 where δ is a or more: so select of 0 or less is select of 0, which is 0.
use Rattle.std.specs.Prelude.{ℕ, ◌+◌, ◌-◌, ◌<◌, ◌≤◌, List}
use Rattle.lit.specs.RankSelect.{rank_of, select_of}

-- 004's drankA: any value r with rank(i) − δ < r ≤ rank(i); here δ stands on the other side, so that nothing is cut off at 0
pub record RankRule (δ i : ℕ) (row : List ℕ) (r : ℕ) : Type 0 where
  pub above : rank_of i row < r + δ
  pub within : r ≤ rank_of i row

-- 004's selectA: any place p with select(k − δ) < p ≤ select(k)
pub record SelectRule (δ k : ℕ) (row : List ℕ) (p : ℕ) : Type 0 where
  pub above : select_of (k - δ) row < p
  pub within : p ≤ select_of k row
