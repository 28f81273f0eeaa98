-- At most 4,096 slots of at most 16 bits.
use Rattle.std.proofs.Common.{◌≡◌, ℕ, ◌+◌, ◌*◌, ◌/◌, ◌%◌, ◌≤◌, min, sym, ap, ◌∙◌, mul-le-mul, arith}
use Rattle.ring.proofs.Promises.{bytes_are}
use Rattle.ring.specs.Slot.{ring_bytes}
use Rattle.book.specs.Limits.{largest_bound, largest_length}
use Rattle.book.specs.Derived.{binary_digits}
use Rattle.book.proofs.DigitsByLeadingZeros.{digits_le}
use Rattle.book.proofs.shape.packed.Goals as goal

bits_le : {slots largest width : ℕ} → (slots ≤ largest_length) × (largest ≤ largest_bound) → width ≡ binary_digits largest
    → slots * width ≤ largest_length * 16
bits_le {slots} {largest} h width_is =
    mul-le-mul {n₂ = largest_length} {m₂ = 16} h.0 (rw width_is (digits_le largest 16 (omega (arith, h.1))))

-- the bytes are what the ring takes
bytes_is : (width slots : ℕ) {bytes : ℕ} → bytes ≡ slots * width / 8 + min 1 (slots * width % 8) → bytes ≡ ring_bytes width slots
bytes_is width slots e =
    let up : slots * width / 8 + min 1 (slots * width % 8) ≡ (slots * width + 7) / 8 = omega arith in
    e ∙ up ∙ sym (bytes_are width slots)

pub overflow_mul-slots : goal.overflow_mul-slots
overflow_mul-slots c = omega (arith, bits_le c.requires c.binary_digits-width.ensures)

pub returns : goal.returns
returns c =
    ap (λ (n : ℕ). record { block = c.args.block; slots = c.args.slots; largest = c.args.largest; width = c.binary_digits-width.result; bytes = n })
    (bytes_is c.binary_digits-width.result c.args.slots c.div_ceil.ensures)
    ∙ rw c.binary_digits-width.ensures
