-- `score::compare::near_pairs`: all positions are those from 0 on.
-- Assumes nothing.
use Rattle.std.proofs.Common.{arith}
use Rattle.score.specs.Near.{near_at}
use Rattle.score.proofs.Counts.{counted_none}
use Rattle.score.proofs.compare.near_pairs.Goals as goal

pub returns : goal.returns
returns c = let a = c.args in
    omega (arith, c.near_between.ensures, counted_none (near_at 2 a.threshold a.first.now a.second.now))
