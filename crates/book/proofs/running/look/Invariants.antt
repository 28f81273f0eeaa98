-- Before each count the top bit tells of those that were looked at.
use Rattle.book.proofs.TopBit.{Looking}
use Rattle.book.proofs.running.look.Given as goal

abbrev pub invariant-loop-count : goal.invariant-loop-count
invariant-loop-count l = Looking l.bound l.counts l.count-index l.seen
