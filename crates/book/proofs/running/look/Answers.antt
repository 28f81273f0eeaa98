-- Before each count the top bit tells of those that were looked at.
use Rattle.std.proofs.Common.{arith}
use Rattle.book.proofs.TopBit.{look_on, look_ends}
use Rattle.book.proofs.running.look.Goals as goal

pub loop-count-preserved : goal.loop-count-preserved
loop-count-preserved c =
    let l = c.loop-count in
    look_on c.args.bound c.args.counts.now c.requires l.count-index l.seen (omega arith) (c.type_inv.counts l.count-index).fits l.invariant

pub returns : goal.returns
returns c = look_ends c.args.bound c.args.counts.now c.loop-count.count-index c.loop-count.seen (omega arith) c.loop-count.invariant
