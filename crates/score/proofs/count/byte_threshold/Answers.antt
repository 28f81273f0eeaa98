-- `score::count::byte_threshold`: at maxval 255 the allowance is multiplied and divided by one number.
-- Assumes nothing.
use Rattle.std.proofs.Common.{◌≤◌, arith}
use Rattle.score.proofs.Near.{threshold_most}
use Rattle.score.proofs.count.byte_threshold.Goals as goal

pub overflow_cast-result : goal.overflow_cast-result
overflow_cast-result c =
    let byte : c.args.allowance ≤ 255 = omega arith in
    omega (arith, c.threshold.ensures, threshold_most c.args.allowance c.args.maxval byte)
