-- The numbers of a book in two cases, as the code derives them: D below L, and D at least L.
-- Assumes nothing.
use Rattle.std.proofs.Common.{◌≡◌, ℕ, ◌*◌, ◌/◌, ◌<◌, ◌≤◌, sym, ap, ◌∙◌, mul-le-mul, one-mul, le-div_iff_mul-le, div-mul-le_self, arith}
use native.Mathlib.Nat.{div-eq_of_lt, max-eq_right}
use Rattle.ring.specs.Slot.{ring_bytes}
use Rattle.book.specs.declared.shape.Shape.{Shape}
use Rattle.book.specs.Limits.{largest_bound, largest_length}
use Rattle.book.specs.Derived.{ceil_div, block_length, slot_count, largest_quotient, binary_digits, digits_within, field_width, bytes_needed}
use Rattle.book.specs.Shape.{shape_of}
use Rattle.book.specs.Sound.{Ranges}
use Rattle.book.proofs.RoundedUp.{ceil_is, ceil_le}

-- c, s and z with b and B behind them
abbrev pub shape_by : ℕ → ℕ → ℕ → Shape
shape_by block slots largest =
    record { block = block; slots = slots; largest = largest; width = binary_digits largest; bytes = ring_bytes (binary_digits largest) slots }

module _ (bound n tolerance : ℕ) (ranges : Ranges bound n tolerance) where
  -- c and z decide the rest
  shape_from : (block largest : ℕ) → block_length bound tolerance ≡ block → ceil_div (block * bound) tolerance ≡ largest
      → shape_by block (ceil_div n block) largest ≡ shape_of bound n tolerance
  unfolding slot_count largest_quotient field_width bytes_needed
  shape_from block largest block_is largest-is =
      λ i. shape_by (sym block_is i) (ceil_div n (sym block_is i))
      ((sym largest-is ∙ ap (λ (c : ℕ). ceil_div (c * bound) tolerance) (sym block_is)) i)

  -- D below L: a block is one item, and there are n slots
  pub shape_below : tolerance < bound → shape_by 1 n (ceil_div bound tolerance) ≡ shape_of bound n tolerance
  unfolding block_length
  shape_below less =
      ap (λ (s : ℕ). shape_by 1 s (ceil_div bound tolerance)) (sym (ceil_is n 1 n (omega arith) (omega arith) (omega arith)))
      ∙ shape_from 1 (ceil_div bound tolerance) (rw (div-eq_of_lt less)) (rw (one-mul bound))

  pub quotient_small : ceil_div bound tolerance ≤ largest_bound
  quotient_small =
      ceil_le bound tolerance largest_bound ranges.tolerance_low
      (omega (arith, ranges.bound_high, ranges.tolerance_low))

  -- D at least L: a block holds no more than D, so that z is 1
  pub block_some : bound ≤ tolerance → 1 ≤ tolerance / bound
  block_some h = (le-div_iff_mul-le {k = bound} {x = 1} {y = tolerance} ranges.bound_low).1 (omega arith)

  pub slots_few : bound ≤ tolerance → ceil_div n (tolerance / bound) ≤ largest_length
  slots_few h =
      ceil_le n (tolerance / bound) largest_length (block_some h)
      (omega (arith, ranges.length_high, block_some h))

  pub shape_at_least : bound ≤ tolerance → shape_by (tolerance / bound) (ceil_div n (tolerance / bound)) 1 ≡ shape_of bound n tolerance
  unfolding block_length
  shape_at_least h =
      let full : 1 ≤ tolerance / bound * bound = mul-le-mul {n₁ = 1} {m₁ = 1} (block_some h) ranges.bound_low in
      shape_from (tolerance / bound) 1 (max-eq_right (block_some h))
      (ceil_is (tolerance / bound * bound) tolerance 1 ranges.tolerance_low
      (omega (arith, div-mul-le_self tolerance bound)) (omega arith))

  -- and so is b
  pub one_bit : bound ≤ tolerance → (largest_quotient bound tolerance ≡ 1) × (field_width bound tolerance ≡ 1)
  unfolding binary_digits digits_within
  one_bit h =
      let e = shape_at_least h in
      (sym (ap (λ (s : Shape). s.largest) e), sym (ap (λ (s : Shape). s.width) e))
