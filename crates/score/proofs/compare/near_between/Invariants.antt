-- `score::compare::near_between`: at position i the count is that of the positions from `from` up to i, and at most as many as they are.
-- Assumes nothing.
use Rattle.std.proofs.Common.{◌≡◌, ◌+◌, ◌≤◌}
use Rattle.score.specs.Changed.{counted}
use Rattle.score.specs.Near.{near_at}
use Rattle.score.proofs.compare.near_between.Given as goal

abbrev pub invariant-loop-i : goal.invariant-loop-i
invariant-loop-i g l =
    record {
      few : l.from + g.P.Pixel.number l.count ≤ l.i;
      so_far : counted (near_at g.P.Pixel.bytes (g.P.Pixel.number l.threshold) l.first l.second) l.from + g.P.Pixel.number l.count
          ≡ counted (near_at g.P.Pixel.bytes (g.P.Pixel.number l.threshold) l.first l.second) l.i;
    }
