-- `score::compare::far_at_bit`: a position counts where it is white and its pixels are not near.
-- Assumes nothing.
use Rattle.std.proofs.Common.{arith}
use mathlib.Core.Bool.{not}
use Rattle.score.specs.Rows.{black_bit}
use Rattle.score.proofs.Counts.{one_at_most}
use Rattle.score.proofs.Near.{under_bit}
use Rattle.score.proofs.compare.far_at_bit.Goals as goal

pub white_unless-requires : goal.white_unless-requires
white_unless-requires g c = omega (arith, c.white-white.ensures, one_at_most (not (black_bit c.args.byte c.args.bit)))

pub returns : goal.returns
returns g c = let a = c.args in
    under_bit g.P.Pixel.bytes (g.P.Pixel.number a.threshold) a.first.now a.second.now a.byte a.at a.bit c.near.result
    c.at-x.ensures c.at-y.ensures c.white-white.ensures c.near.ensures c.white_unless.ensures
