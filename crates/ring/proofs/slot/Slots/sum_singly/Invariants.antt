-- At each slot the sum is that of the slots before it.
use Rattle.std.proofs.Common.{◌≡◌, ◌-◌}
use Rattle.ring.specs.Slot.{field}
use Rattle.ring.specs.Newest.{sum_newest}
use Rattle.ring.proofs.slot.Slots.sum_singly.Given as goal

abbrev pub invariant-loop-slot : goal.invariant-loop-slot
invariant-loop-slot l = l.sum ≡ sum_newest (field l.self.width l.ring) l.slot l.slot (l.slot - (l.end - l.n))
