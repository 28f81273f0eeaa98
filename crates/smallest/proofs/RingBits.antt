-- WHERE THE RING'S SLOTS HAVE JUST AS MANY BITS (promise C-24.2) as a solid history has blocks: where L divides D, and D/L divides n; and so it is in
-- the box's own setting, with 240 of them in 30 bytes.
-- Assumes nothing.
use Prim.Native.Nat.{ℕ, suc, ◌+◌, ◌-◌, ◌*◌, ◌/◌, ◌%◌, ◌≤◌, ◌<◌}
use native.Mathlib.Nat.{suc-mul, mul-div_cancel, mul_comm, div-add-mod, le_of_mul-le-mul_right, lt_of_mul-lt-mul_right}
use native.Mathlib.Omega.{arith}
use mathlib.Core.Path.{◌≡◌, sym, ap, ◌∙◌}
use Rattle.book.specs.declared.shape.Shape.{Shape}
use Rattle.book.specs.Derived.{block_length, slot_count, field_width, bytes_needed}
use Rattle.book.specs.Sound.{Ranges}
use Rattle.book.proofs.Promises.{rounded_up, in_blocks, block_low, slots_cover, slots_tight, whole_block, whole_width, box_shape}
use Rattle.smallest.specs.SolidHistories.{solid_length, solid_count}

module _ (bound n tolerance : ℕ) (ranges : Ranges bound n tolerance) (whole : tolerance % bound ≡ 0) where
  abbrev c : ℕ
  c = block_length bound tolerance

  -- a block of the book is a solid block …
  same_length : solid_length bound tolerance ≡ c
  same_length =
      let counted : tolerance + (bound - 1) ≡ bound * c + (bound - 1) =
      omega (arith, whole_block bound n tolerance ranges whole, mul_comm bound c) in
      rounded_up tolerance bound ∙ sym (in_blocks counted (omega (arith, ranges.bound_low))).1

  -- … of D/L items
  divided : tolerance / bound ≡ c
  divided = ap (λ (d : ℕ). d / bound) (sym (whole_block bound n tolerance ranges whole)) ∙ mul-div_cancel c ranges.bound_low

  pub ring_bits : n % (tolerance / bound) ≡ 0 → slot_count bound n tolerance * field_width bound tolerance ≡ solid_count bound n tolerance
  ring_bits fills =
      let s : ℕ = slot_count bound n tolerance in
      let t : ℕ = n / c in
      let rest : n % c ≡ 0 = ap (λ (k : ℕ). n % k) (sym divided) ∙ fills in
      let all : n ≡ t * c = omega (arith, div-add-mod n c, mul_comm t c) in
      let low : t ≤ s = le_of_mul-le-mul_right {k = c} (omega (arith, slots_cover bound n tolerance ranges)) (block_low bound tolerance) in
      let high : s < suc t = lt_of_mul-lt-mul_right c (omega (arith, slots_tight bound n tolerance ranges, suc-mul t c)) in
      let slots : s ≡ t = omega arith in
      ap (λ (b : ℕ). s * b) (whole_width bound n tolerance ranges whole) ∙ omega arith ∙ ap (λ (k : ℕ). n / k) (sym same_length)

-- THE BOX'S SETTING, L 600, n 1,440, D 3,600
pub box_bits : (slot_count 600 1440 3600 * field_width 600 3600 ≡ 240) × (solid_count 600 1440 3600 ≡ 240) × (bytes_needed 600 1440 3600 ≡ 30)
box_bits = (
  ap (λ (of : Shape). of.slots * of.width) box_shape,
  ap (λ (k : ℕ). 1440 / k) (rounded_up 3600 600),
  ap (λ (of : Shape). of.bytes) box_shape,
)
