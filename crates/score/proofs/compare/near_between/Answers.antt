-- `score::compare::near_between`: a turn counts one position more.
-- Assumes nothing.
use Rattle.std.proofs.Common.{arith}
use Rattle.score.proofs.Counts.{one_at_most}
use Rattle.score.proofs.Near.{near_on}
use Rattle.score.proofs.compare.near_between.Goals as goal

pub loop-i-preserved : goal.loop-i-preserved
loop-i-preserved g c =
    let a = c.args in
    let l = c.loop-i in
    record {
      few = omega (arith, c.one_more_if-count.ensures, one_at_most c.near.result);
      so_far =
          rw c.one_more_if-count.ensures
          (near_on g.P.Pixel.bytes (g.P.Pixel.number a.threshold) a.first.now a.second.now a.from (g.P.Pixel.number l.count) l.i
          l.invariant.so_far c.at-x.ensures c.at-y.ensures c.near.ensures);
    }
