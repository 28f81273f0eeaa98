-- `score::compare::far_under_eight`: at a bit the count is that of the bits before it.
-- Assumes nothing.
use Rattle.std.proofs.Common.{◌≡◌}
use Rattle.score.specs.Near.{far_at}
use Rattle.score.specs.Rows.{black_bit, count_from}
use Rattle.score.proofs.compare.far_under_eight.Given as goal

abbrev pub invariant-loop-bit : goal.invariant-loop-bit
invariant-loop-bit g l =
    l.count ≡ count_from (black_bit l.byte) (far_at g.P.Pixel.bytes (g.P.Pixel.number l.threshold) l.first l.second) l.at l.bit
