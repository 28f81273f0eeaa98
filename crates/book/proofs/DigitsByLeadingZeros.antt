-- How many binary digits a number has: the least m with the number below 2^m; and the same from leading zeros.
-- Assumes nothing.
use Rattle.std.proofs.Common.{◌≡◌, ℕ, zero, suc, ◌+◌, ◌-◌, ◌*◌, ◌/◌, ◌^◌, ◌<◌, ◌≤◌, ◌⊎◌, refl, inl, inr, pow-suc, arith, lit<, pow_mono}
use lib.Count.{count_leading_zeros, leading_unique}
use Rattle.book.specs.Derived.{digits_within, binary_digits}
use Rattle.book.proofs.RoundedUp.{le_or_lt}

within_high : (steps v : ℕ) → v ≤ steps → v < 2 ^ digits_within steps v
unfolding digits_within
within_high zero v h = omega arith
within_high (suc steps) zero h = lit< tt
within_high (suc steps) (suc v) h =
    omega (arith, within_high steps (suc v / 2) (omega arith), pow-suc 2 (digits_within steps (suc v / 2)))

within_none : (steps : ℕ) → digits_within steps 0 ≡ 0
unfolding digits_within
within_none zero = refl
within_none (suc steps) = refl

within_low : (steps v : ℕ) → v ≤ steps → 0 < v → 2 ^ digits_within steps v ≤ 2 * v
unfolding digits_within
within_low zero v h p = absurd (omega arith)
within_low (suc steps) zero h p = absurd (omega arith)
within_low (suc steps) (suc v) h p = by (suc v / 2) refl (λ half. within_low steps (suc v / 2) (omega arith) half)
  where
    -- the half is 0, or has its digits
    by : (half : ℕ) → suc v / 2 ≡ half → (0 < suc v / 2 → 2 ^ digits_within steps (suc v / 2) ≤ 2 * (suc v / 2))
        → 2 ^ suc (digits_within steps (suc v / 2)) ≤ 2 * suc v
    by zero e low = rw (e, within_none steps) (omega arith)
    by (suc half) e low = omega (arith, low (omega arith), pow-suc 2 (digits_within steps (suc v / 2)))

-- a number is below 2 to the power of its digits
pub digits_high : (v : ℕ) → v < 2 ^ binary_digits v
unfolding binary_digits
digits_high v = within_high v v (omega arith)

-- and not below 2 to any smaller power
pub digits_low : (v : ℕ) → 0 < v → 2 ^ binary_digits v ≤ 2 * v
unfolding binary_digits
digits_low v p = within_low v v (omega arith) p

digits_low_all : (v : ℕ) → 2 ^ binary_digits v ≤ 2 * v + 1
unfolding binary_digits digits_within
digits_low_all zero = omega arith
digits_low_all (suc v) = omega (arith, within_low (suc v) (suc v) (omega arith) (omega arith))

-- a number below 2^m has at most m digits
pub digits_le : (v m : ℕ) → v < 2 ^ m → binary_digits v ≤ m
digits_le v m h = by (le_or_lt (binary_digits v) m)
  where
    by : (binary_digits v ≤ m) ⊎ (m < binary_digits v) → binary_digits v ≤ m
    by (inl le) = le
    by (inr gt) = absurd (omega (arith, digits_low_all v, pow_mono {i = suc m} {j = binary_digits v} gt, pow-suc 2 m))

-- a number below 2^64 has 64 digits less its leading zeros
pub digits_leading : (v : ℕ) → v < 2 ^ 64 → 64 - count_leading_zeros 64 v ≡ binary_digits v
digits_leading v h =
    let short : binary_digits v ≤ 64 = digits_le v 64 h in
    let zeros : 64 - binary_digits v ≡ count_leading_zeros 64 v =
    leading_unique 64 v (64 - binary_digits v) (binary_digits v) (omega arith) (digits_high v) (digits_low_all v) in
    omega arith
