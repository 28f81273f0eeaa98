-- Number facts of the tally and of the coarser book, on plain numbers: p is the phase, c the block, J the blocks that are wholly kept, m how often D
-- goes into the new tolerance, f the tally's phase and k its carry.
-- Assumes nothing.
use Prim.Native.Nat.{ℕ, ◌+◌, ◌-◌, ◌*◌, ◌/◌, ◌≤◌, ◌<◌}
use native.Mathlib.Nat.{div-mul-le_self, mul-le-mul_right, mul-le-mul_left, le_of_mul-le-mul_right, le_trans}
use native.Mathlib.Omega.{arith}
use mathlib.Core.Path.{◌≡◌, ap}

-- the blocks that are wholly kept lie within what is kept
pub kept_whole : (kept p c : ℕ) → p ≤ kept → p + (kept - p) / c * c ≤ kept
kept_whole kept p c low = omega (arith, div-mul-le_self (kept - p) c)

-- there are no more of them than slots, which cover n
pub few_blocks : (J c n s : ℕ) → 1 ≤ c → J * c ≤ n → n ≤ s * c → J ≤ s
few_blocks J c n s low inside covers = le_of_mul-le-mul_right {k = c} (le_trans inside covers) low

-- the new phase is below m blocks
pub phase_fits : (p c f m : ℕ) → p < c → f < m → p + f * c < m * c
phase_fits p c f m open_block below =
    let more : (f + 1) * c ≤ m * c = mul-le-mul_right c (omega arith) in
    omega (arith, more)

-- the new carry is at most m·D − 1 and what the open block can hold
pub carry_fits : (R D L p c f k m : ℕ) → 1 ≤ D → 1 ≤ m → c * L ≡ D → R ≤ D - 1 + p * L → k ≤ m - 1 + f * 1
    → R + D * k ≤ m * D - 1 + (p + f * c) * L
carry_fits R D L p c f k m some often whole old units =
    let more : D * (k + 1) ≤ D * (m + f) = mul-le-mul_left D (omega arith) in
    let held : f * (c * L) ≡ f * D = ap (λ (t : ℕ). f * t) whole in
    omega (arith, more, held)
