-- `salvage::walk::every_slot`: after each slot the slots that are left bring the walk to its end.
-- Assumes nothing.
use Rattle.salvage.specs.Steps.{nth}
use Rattle.salvage.proofs.WalkAround.{walk_of}
use Rattle.salvage.proofs.WalkTurns.{Going}
use Rattle.salvage.proofs.walk.every_slot.Given as goal

abbrev pub invariant-loop-newer : goal.invariant-loop-newer
invariant-loop-newer l = Going l.known.book l.initial.ring l.initial.numbers (walk_of l.ring l.numbers l.found.count (nth l.found.newer)) l.newer
