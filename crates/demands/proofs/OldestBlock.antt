-- The law at the heart of the method (Lemma 6 of the first source that SCOPE, Numbers names), on plain numbers: what the figure takes off
-- for the items of the oldest block that lie outside the window is right to within D.
-- Assumes nothing.
use Prim.Native.Nat.{ℕ, zero, suc, ◌+◌, ◌-◌, ◌*◌, ◌≤◌, ◌<◌}
use native.Mathlib.Nat.{mul-le-mul_right, mul-le-mul_left}
use native.Mathlib.Omega.{arith}
use mathlib.Core.Logic.{◌⊎◌, inl, inr}
use mathlib.Core.Path.{◌≡◌}
use Rattle.demands.specs.Demand2.{Bounds}

-- A block of at most c items, each at most L: e of them, outside the window, sum to y, and f of them, inside, to w.
-- r is the remainder that the block began with, and g its quotient: r + y + w = D·g + r'.
module _ (bound tolerance block e f r y w g r' : ℕ)
    (start : r < tolerance) (outside : y ≤ e * bound) (inside : w ≤ f * bound) (items : e + f ≤ block)
    (whole : r + y + w ≡ tolerance * g + r') (rest : r' < tolerance) where
  Right : ℕ → Type 0
  Right k = (e * bound * k ≤ r + y) × (r + y < tolerance + e * bound * k)

  -- a block that holds at most D: its quotient is 0 or 1
  right_small : block * bound ≤ tolerance → Right g
  unfolding Right
  right_small small = by g whole
    where
      held : (e + f) * bound ≤ tolerance
      held = omega (arith, mul-le-mul_right bound items)

      by : (k : ℕ) → r + y + w ≡ tolerance * k + r' → (e * bound * k ≤ r + y) × (r + y < tolerance + e * bound * k)
      by zero q = omega arith
      by (suc zero) q = omega (arith, held)
      by (suc (suc k)) q =
          let two : tolerance * 2 ≤ tolerance * suc (suc k) = mul-le-mul_left tolerance (omega arith) in
          absurd (omega (arith, held))

  -- none of the block's items is outside the window
  right_none : e ≡ 0 → Right g
  unfolding Right
  right_none none =
      let y0 : y ≡ 0 = omega (arith, rw none at outside) in
      rw none (omega arith)

  -- a block of c items holds at most D, or c is 1 and no item of it is outside
  pub heart : (block * bound ≤ tolerance) ⊎ (e ≡ 0) → (e * bound * g ≤ r + y) × (r + y < tolerance + e * bound * g)
  unfolding Right
  heart (inl small) = right_small small
  heart (inr none) = right_none none

-- The figure is T − (D − 1) − k, where the true total is T − (r + y): it is right where k ≤ r + y < D + k.
pub bracket : (T S D k gone : ℕ) → 0 < D → S + gone ≡ T → k ≤ gone → gone < D + k → Bounds (T - (D - 1) - k) S D
bracket T S D k gone d e low high = record { not_above = omega arith; not_far_below = omega arith }
