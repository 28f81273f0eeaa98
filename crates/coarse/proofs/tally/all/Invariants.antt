-- `coarse::tally::all`: after each part the quotients that are left come to the rest.
-- Assumes nothing.
use Rattle.coarse.proofs.TallyTurns.{Going}
use Rattle.coarse.proofs.tally.all.Given as goal

abbrev pub invariant-loop-left : goal.invariant-loop-left
invariant-loop-left l = Going l.known.book l.ring l.blocks l.initial.tally l.initial.second l.initial.row l.tally l.second l.row l.left

abbrev pub decreases-loop-left : goal.decreases-loop-left
decreases-loop-left l = l.left
