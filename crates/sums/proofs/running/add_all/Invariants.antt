-- `sums::running::add_all`: after each part the counts that are left come to the rest.
-- Assumes nothing.
use Rattle.std.proofs.Common.{length}
use Rattle.sums.proofs.RunTurns.{Going}
use Rattle.sums.proofs.running.add_all.Given as goal

abbrev pub invariant-loop-left : goal.invariant-loop-left
invariant-loop-left l = Going l.fn.known.book l.shape l.initial.ring l.initial.row l.counts l.ring l.row l.left l.after l.from

abbrev pub decreases-loop-left : goal.decreases-loop-left
decreases-loop-left l = length l.left
