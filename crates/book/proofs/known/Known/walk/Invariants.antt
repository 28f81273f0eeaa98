-- After each turn one block more is behind, and none of them reached the amount at its end.
use Rattle.std.proofs.Common.{◌-◌}
use Rattle.book.proofs.WalkTurns.{Walking}
use Rattle.book.proofs.known.Known.walk.Given as goal

abbrev pub invariant-loop-behind : goal.invariant-loop-behind
invariant-loop-behind l = Walking l.self.book l.self.shape l.ring l.amount l.slot l.blocks l.total l.quotient l.behind

abbrev pub decreases-loop-behind : goal.decreases-loop-behind
decreases-loop-behind l = l.self.book.kept - l.behind
