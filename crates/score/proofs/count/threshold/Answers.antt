-- `score::count::threshold`: the product has 24 bits at the most.
-- Assumes nothing.
use Rattle.std.proofs.Common.{ℕ, ◌*◌, ◌/◌, ◌≤◌, ap, arith}
use native.Mathlib.Nat.{mul-le-mul}
use Rattle.score.proofs.count.threshold.Goals as goal

pub overflow_mul-result : goal.overflow_mul-result
overflow_mul-result c = let byte : c.from.result ≤ 255 = omega (arith, c.from.ensures) in
    omega (arith, mul-le-mul byte c.requires)

pub returns : goal.returns
returns c = ap (λ (n : ℕ). n * c.args.maxval / 255) c.from.ensures
