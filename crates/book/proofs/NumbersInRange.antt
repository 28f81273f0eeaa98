-- The derived numbers of a book stay in their ranges.
-- Assumes nothing.
use Rattle.std.proofs.Common.{◌≡◌, ℕ, zero, suc, ◌+◌, ◌*◌, ◌/◌, ◌^◌, ◌<◌, ◌≤◌, max, ◌⊎◌, refl, inl, inr, le_trans, mul_comm, mul-le-mul, mul-le-mul_left, le-div_iff_mul-le, div-mul-le_self, arith}
use native.Mathlib.Nat.{div-eq_of_lt, div-le_of_le-mul, le-max_left, max-le, max-eq_right}
use Rattle.book.specs.Derived.{block_length, slot_count, largest_quotient, binary_digits, field_width}
use Rattle.book.specs.Sound.{Ranges}
use Rattle.book.proofs.RoundedUp.{le_or_lt, ceil_covers, ceil_tight, ceil_le, ceil_low}
use Rattle.book.proofs.DigitsByLeadingZeros.{digits_high, digits_le}

-- a block has at least one item
pub block_low : (bound tolerance : ℕ) → 1 ≤ block_length bound tolerance
unfolding block_length
block_low bound tolerance = le-max_left 1 (tolerance / bound)

module _ (bound length tolerance : ℕ) (ranges : Ranges bound length tolerance) where
  -- and at most n
  pub block_high : block_length bound tolerance ≤ length
  unfolding block_length
  block_high =
      max-le ranges.length_low (div-le_of_le-mul bound (rw (mul_comm bound length) ranges.tolerance_high))

  -- a block of more than one item holds no more than D at the most; a block of one item holds L
  pub block_holds : (block_length bound tolerance * bound ≤ tolerance) ⊎ ((block_length bound tolerance ≡ 1) × (tolerance < bound))
  unfolding block_length
  block_holds = by (le_or_lt bound tolerance)
    where
      by : (bound ≤ tolerance) ⊎ (tolerance < bound)
          → (max 1 (tolerance / bound) * bound ≤ tolerance) ⊎ ((max 1 (tolerance / bound) ≡ 1) × (tolerance < bound))
      by (inl h) =
          let one : 1 ≤ tolerance / bound = (le-div_iff_mul-le {k = bound} {x = 1} {y = tolerance} ranges.bound_low).1 (omega arith) in
          inl (rw (max-eq_right one) (div-mul-le_self tolerance bound))
      by (inr h) = inr (rw (div-eq_of_lt h), h)

  -- what a block can hold at the most, and D, are below 2^28
  pub tolerance_top : tolerance ≤ 268431360
  tolerance_top = le_trans ranges.tolerance_high (mul-le-mul {n₂ = 4096} {m₂ = 65535} ranges.length_high ranges.bound_high)

  pub block_top : block_length bound tolerance * bound ≤ 268431360
  block_top = by block_holds
    where
      by : (block_length bound tolerance * bound ≤ tolerance) ⊎ ((block_length bound tolerance ≡ 1) × (tolerance < bound))
          → block_length bound tolerance * bound ≤ 268431360
      by (inl h) = omega (arith, tolerance_top)
      by (inr h) = rw h.0 (omega (arith, ranges.bound_high))

  -- there are 1 to n slots, and they cover n
  pub slots_low : 1 ≤ slot_count bound length tolerance
  unfolding slot_count
  slots_low = ceil_low length (block_length bound tolerance) (block_low bound tolerance) ranges.length_low

  pub slots_high : slot_count bound length tolerance ≤ length
  unfolding slot_count
  slots_high =
      ceil_le length (block_length bound tolerance) length (block_low bound tolerance)
      (le_trans (omega arith) (mul-le-mul_left length (block_low bound tolerance)))

  pub slots_cover : length ≤ slot_count bound length tolerance * block_length bound tolerance
  unfolding slot_count
  slots_cover = ceil_covers length (block_length bound tolerance) (block_low bound tolerance)

  -- by less than a block too much
  pub slots_tight : slot_count bound length tolerance * block_length bound tolerance < length + block_length bound tolerance
  unfolding slot_count
  slots_tight = ceil_tight length (block_length bound tolerance) (block_low bound tolerance)

  -- the largest quotient is 1 to 65,535
  pub quotient_low : 1 ≤ largest_quotient bound tolerance
  unfolding largest_quotient
  quotient_low =
      ceil_low (block_length bound tolerance * bound) tolerance ranges.tolerance_low
      (mul-le-mul {n₁ = 1} {m₁ = 1} (block_low bound tolerance) ranges.bound_low)

  pub quotient_high : largest_quotient bound tolerance ≤ 65535
  unfolding largest_quotient
  quotient_high = ceil_le (block_length bound tolerance * bound) tolerance 65535 ranges.tolerance_low (by block_holds)
    where
      by : (block_length bound tolerance * bound ≤ tolerance) ⊎ ((block_length bound tolerance ≡ 1) × (tolerance < bound))
          → block_length bound tolerance * bound ≤ 65535 * tolerance
      by (inl h) = omega (arith, ranges.tolerance_low)
      by (inr h) = rw h.0 (omega (arith, ranges.bound_high, ranges.tolerance_low))

  -- so a field is 1 to 16 bits wide
  pub width_high : field_width bound tolerance ≤ 16
  unfolding field_width
  width_high = digits_le (largest_quotient bound tolerance) 16 (omega (arith, quotient_high))

  pub width_low : 1 ≤ field_width bound tolerance
  unfolding field_width
  width_low = by (binary_digits (largest_quotient bound tolerance)) refl
    where
      by : (b : ℕ) → binary_digits (largest_quotient bound tolerance) ≡ b → 1 ≤ binary_digits (largest_quotient bound tolerance)
      by zero e =
          absurd (omega (arith, quotient_low, rw e at (digits_high (largest_quotient bound tolerance))))
      by (suc b) e = omega arith

  -- and holds every quotient
  pub quotient_fits : (q : ℕ) → q ≤ largest_quotient bound tolerance → q < 2 ^ field_width bound tolerance
  unfolding field_width
  quotient_fits q h = omega (arith, digits_high (largest_quotient bound tolerance))
