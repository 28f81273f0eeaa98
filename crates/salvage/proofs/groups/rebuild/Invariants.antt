-- `salvage::groups::rebuild`: after i turns the first i entries are those of the first i groups, the others are as they were lent, and the sum is
-- that of the fields so far.
-- Assumes nothing.
use Rattle.ring.specs.Slot.{field}
use Rattle.salvage.proofs.RowFromFields.{Summed}
use Rattle.salvage.proofs.groups.rebuild.Given as goal

abbrev pub invariant-loop-entry : goal.invariant-loop-entry
invariant-loop-entry l = Summed l.known.shape.slots (field l.known.shape.width l.ring) l.initial.entry-items l.entry-items l.entry-index l.sum l.from
