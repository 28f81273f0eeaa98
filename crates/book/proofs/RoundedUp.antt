-- Division rounded up, and down, by inequalities.
-- Assumes nothing.
use Rattle.std.proofs.Common.{◌≡◌, ℕ, ◌+◌, ◌-◌, ◌*◌, ◌<◌, ◌≤◌, ◌⊎◌, inl, inr, mul-le-mul_right, div-lt_iff_lt-mul, le-div_iff_mul-le, div-mul-le_self, arith}
use native.Mathlib.Nat.{lt-div-mul-add}
use native.Mathlib.Decide.{dec_le}
use Rattle.book.specs.Derived.{ceil_div}

pub le_or_lt : (a b : ℕ) → (a ≤ b) ⊎ (b < a)
le_or_lt a b = by (dec_le a b)
  where
    by : Dec (a ≤ b) → (a ≤ b) ⊎ (b < a)
    by (yes h) = inl h
    by (no h) = inr (omega arith)

-- the quotient rounded up covers the number …
pub ceil_covers : (a b : ℕ) → 0 < b → a ≤ ceil_div a b * b
unfolding ceil_div
ceil_covers a b h = omega (arith, lt-div-mul-add {a = a + (b - 1)} {b = b} h)

-- … by less than one divisor too much
pub ceil_tight : (a b : ℕ) → 0 < b → ceil_div a b * b < a + b
unfolding ceil_div
ceil_tight a b h = omega (arith, div-mul-le_self (a + (b - 1)) b)

-- so it is at most k exactly where k divisors cover the number
pub ceil_le : (a b k : ℕ) → 0 < b → a ≤ k * b → ceil_div a b ≤ k
unfolding ceil_div
ceil_le a b k h c = le_of_lt_suc ((div-lt_iff_lt-mul {k = b} {x = a + (b - 1)} {y = k + 1} h).1 (omega arith))
  where
    le_of_lt_suc : {x : ℕ} → x < k + 1 → x ≤ k
    le_of_lt_suc l = omega arith

pub ceil_low : (a b : ℕ) → 0 < b → 0 < a → 0 < ceil_div a b
unfolding ceil_div
ceil_low a b h p = (le-div_iff_mul-le {k = b} {x = 1} {y = a + (b - 1)} h).1 (omega arith)

-- a quotient rounded up, from both sides
pub ceil_is : (a b k : ℕ) → 0 < b → a ≤ k * b → k * b < a + b → ceil_div a b ≡ k
ceil_is a b k h low high = by (le_or_lt k (ceil_div a b))
  where
    by : (k ≤ ceil_div a b) ⊎ (ceil_div a b < k) → ceil_div a b ≡ k
    by (inl le) = omega (arith, ceil_le a b k h low)
    by (inr lt) =
        let more : (ceil_div a b + 1) * b ≤ k * b = mul-le-mul_right b (omega arith) in
        absurd (omega (arith, ceil_covers a b h))
