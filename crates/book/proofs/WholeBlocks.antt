-- Blocks that D fills: where D is a multiple of L a block holds D and no more, and a slot is one bit wide. Then m blocks make one block of a book
-- with tolerance m·D, and the slots of that book are those of one with L 1, a place for each slot, and D m.
-- Assumes nothing.
use Rattle.std.proofs.Common.{◌≡◌, ℕ, ◌+◌, ◌*◌, ◌/◌, ◌%◌, ◌<◌, ◌≤◌, ◌⊎◌, sym, ap, ◌∙◌, ap₂, inl, inr, le_trans, mul-le-mul_right, mul_assoc, mul_comm, le_of_mul-le-mul_right, mul-div_cancel, arith}
use native.Mathlib.Nat.{div-add-mod, mul-mod_left, mod-one, max-eq_right}
use Rattle.ring.specs.Slot.{ring_bytes}
use Rattle.book.specs.Derived.{ceil_div, block_length, slot_count, field_width, bytes_needed}
use Rattle.book.specs.Sound.{Ranges}
use Rattle.book.proofs.RoundedUp.{le_or_lt, ceil_is, ceil_covers, ceil_tight}
use Rattle.book.proofs.NumbersInRange.{block_low, slots_low, slots_high, slots_cover}
use Rattle.book.proofs.ShapeInTwoCases.{one_bit}
use Rattle.book.proofs.StepsInRange.{bytes_needed_lem}

-- a number above 0 that divides without a rest goes in at least once
goes_in : (a b : ℕ) → 1 ≤ a → a % b ≡ 0 → 1 ≤ a / b
goes_in a b some none = by (le_or_lt 1 (a / b))
  where
    by : (1 ≤ a / b) ⊎ (a / b < 1) → 1 ≤ a / b
    by (inl h) = h
    by (inr h) =
        let z : a / b ≡ 0 = omega arith in
        absurd (omega (arith, div-add-mod a b, ap (λ (q : ℕ). b * q) z))

module _ (bound n tolerance : ℕ) (ranges : Ranges bound n tolerance) (whole : tolerance % bound ≡ 0) where
  block_is : block_length bound tolerance ≡ tolerance / bound
  unfolding block_length
  block_is = max-eq_right (goes_in tolerance bound ranges.tolerance_low whole)

  -- a block holds D
  pub whole_block : block_length bound tolerance * bound ≡ tolerance
  whole_block =
      let e : tolerance / bound * bound ≡ tolerance = omega (arith, div-add-mod tolerance bound, mul_comm (tolerance / bound) bound) in
      ap (λ (c : ℕ). c * bound) block_is ∙ e

  -- so that z is 1, and b is 1
  pub whole_width : field_width bound tolerance ≡ 1
  whole_width = (one_bit bound n tolerance ranges (omega (arith, whole_block, mul-le-mul_right bound (block_low bound tolerance)))).1

-- a book that counts in units: a block has as many items as D says
module _ (n times : ℕ) (ranges : Ranges 1 n times) where
  pub unit_block : block_length 1 times ≡ times
  unit_block = omega (arith, whole_block 1 n times ranges (mod-one times))

  pub unit_width : field_width 1 times ≡ 1
  unit_width = whole_width 1 n times ranges (mod-one times)

-- m TIMES THE TOLERANCE, which is still at most n·L
module _ (bound n tolerance : ℕ) (ranges : Ranges bound n tolerance) (whole : tolerance % bound ≡ 0) (times : ℕ) (some : 1 ≤ times)
    (fits : times * tolerance ≤ n * bound) where
  abbrev c : ℕ
  c = block_length bound tolerance

  abbrev s : ℕ
  s = slot_count bound n tolerance

  pub coarser_ranges : Ranges bound n (times * tolerance)
  coarser_ranges =
      record {
        bound_low = ranges.bound_low;
        bound_high = ranges.bound_high;
        length_low = ranges.length_low;
        length_high = ranges.length_high;
        tolerance_low = omega (arith, mul-le-mul_right tolerance some, ranges.tolerance_low);
        tolerance_high = fits;
      }

  in_blocks : times * tolerance ≡ times * c * bound
  in_blocks = ap (λ (d : ℕ). times * d) (sym (whole_block bound n tolerance ranges whole)) ∙ sym (mul_assoc times c bound)

  pub coarser_whole : (times * tolerance) % bound ≡ 0
  coarser_whole = ap (λ (d : ℕ). d % bound) in_blocks ∙ mul-mod_left (times * c) bound

  -- m blocks make a block
  pub coarser_block : block_length bound (times * tolerance) ≡ times * c
  coarser_block =
      block_is bound n (times * tolerance) coarser_ranges coarser_whole
      ∙ ap (λ (d : ℕ). d / bound) in_blocks
      ∙ mul-div_cancel (times * c) ranges.bound_low

  pub coarser_width : field_width bound (times * tolerance) ≡ 1
  coarser_width = whole_width bound n (times * tolerance) coarser_ranges coarser_whole

  -- at least m slots
  enough_slots : times ≤ s
  enough_slots =
      let blocks : times * c ≤ n = le_of_mul-le-mul_right {k = bound} (rw in_blocks at fits) ranges.bound_low in
      le_of_mul-le-mul_right {k = c} (le_trans blocks (slots_cover bound n tolerance ranges)) (block_low bound tolerance)

  pub tally_ranges : Ranges 1 s times
  tally_ranges =
      record {
        bound_low = omega arith;
        bound_high = omega arith;
        length_low = slots_low bound n tolerance ranges;
        length_high = le_trans (slots_high bound n tolerance ranges) ranges.length_high;
        tolerance_low = some;
        tolerance_high = omega (arith, enough_slots);
      }

  -- the slots are those of a book that counts in units, with a place for each of the old slots
  pub coarser_slots : slot_count bound n (times * tolerance) ≡ slot_count 1 s times
  unfolding slot_count
  coarser_slots =
      let k : ℕ = ceil_div s times in
      let low = block_low bound tolerance in
      let m_c : 0 < times * c = omega (arith, mul-le-mul_right c some) in
      let covers : n ≤ k * (times * c) =
      omega (arith, ceil_covers n c low, mul-le-mul_right c (ceil_covers s times some), mul_assoc k times c) in
      let tight : k * (times * c) < n + times * c =
      omega (arith, ceil_tight n c low, mul-le-mul_right c (ceil_tight s times some), mul_assoc k times c, low) in
      ap (λ (b : ℕ). ceil_div n b) coarser_block
      ∙ ceil_is n (times * c) k m_c covers tight
      ∙ ap (λ (b : ℕ). ceil_div s b) (sym (unit_block s times tally_ranges))

  -- and so are the bytes
  pub coarser_bytes_lem : bytes_needed bound n (times * tolerance) ≡ bytes_needed 1 s times
  coarser_bytes_lem =
      bytes_needed_lem bound n (times * tolerance)
      ∙ ap₂ (λ (b k : ℕ). ring_bytes b k) (coarser_width ∙ sym (unit_width s times tally_ranges)) coarser_slots
      ∙ sym (bytes_needed_lem 1 s times)
