-- After each turn one block more is closed, and the counts that are left come to the rest.
use Rattle.std.proofs.Common.{length}
use Rattle.book.proofs.RunTurns.{Going}
use Rattle.book.proofs.known.Known.add_all.Given as goal

abbrev pub invariant-loop-room : goal.invariant-loop-room
invariant-loop-room l = Going l.self.book l.self.shape l.fn.ring l.counts l.ring l.carry l.head l.room l.left

abbrev pub decreases-loop-room : goal.decreases-loop-room
decreases-loop-room l = length l.left
