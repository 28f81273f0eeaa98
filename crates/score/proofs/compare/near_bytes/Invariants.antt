-- `score::compare::near_bytes`: before each block the count is that of the positions before it.
-- Assumes nothing.
use Rattle.std.proofs.Common.{◌≡◌, ◌*◌}
use Rattle.score.specs.Changed.{counted}
use Rattle.score.specs.Near.{near_at}
use Rattle.score.proofs.compare.near_bytes.Given as goal

abbrev pub invariant-loop-block : goal.invariant-loop-block
invariant-loop-block l = l.count ≡ counted (near_at 1 l.threshold l.first l.second) (l.block * 192)
