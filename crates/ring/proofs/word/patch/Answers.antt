-- `ring::word::patch` meets its contract: no step wraps, since the word has at most 24 bits.
-- Assumes nothing.
use Rattle.std.proofs.Common.{ℕ, ◌+◌, ◌*◌, ◌/◌, ◌^◌, ◌<◌, ◌≤◌, arith}
use Rattle.std.proofs.Math.Nat.{mul-le-mul, mul-le-mul_left, div-mul-le_self, mod-lt}
use Rattle.std.proofs.Math.Pow.{pow_pos, pow_mono}
use Rattle.ring.proofs.word.patch.Goals as goal

-- the bits before the value, and the value, stay far below 2^64
high_le : (word width after value : ℕ) → word < 2 ^ 24 → width + after ≤ 24 → value < 2 ^ width
    → (word / 2 ^ (width + after) * 2 ^ width + value) * 2 ^ after ≤ 2 ^ 49
high_le word width after value small within fits =
    mul-le-mul {n₂ = 2 ^ 25} {m₂ = 2 ^ 24}
    (omega (
      arith,
      mul-le-mul_left (word / 2 ^ (width + after)) (pow_mono {i = width} {j = width + after} (omega arith)),
      div-mul-le_self word (2 ^ (width + after)),
      pow_mono {i = width} {j = 24} (omega arith),
    ))
    (pow_mono {j = 24} (omega arith))

pub overflow_mul-result-2 : goal.overflow_mul-result-2
overflow_mul-result-2 c =
    let a = c.args in
    rw (c.power-2.ensures, c.power-3.ensures)
    (omega (arith, high_le a.word a.width a.after a.value (omega arith) (omega arith) (omega arith)))

pub overflow_add-result-2 : goal.overflow_add-result-2
overflow_add-result-2 c =
    let a = c.args in
    rw (c.power-2.ensures, c.power-3.ensures, c.power.ensures)
    (omega (
      arith,
      high_le a.word a.width a.after a.value (omega arith) (omega arith) (omega arith),
      mod-lt a.word (pow_pos a.after),
      pow_mono {i = a.after} {j = 24} (omega arith),
    ))
