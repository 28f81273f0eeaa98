-- The ring is lent whole, has the slot and takes the value, so that its call writes it.
use Rattle.std.proofs.Common.{◌∙◌}
use Rattle.ring.proofs.Promises.{write_writes}
use Rattle.book.proofs.Ready.{ready}
use Rattle.book.proofs.StepsInRange.{ready_lent}
use Rattle.book.proofs.RingCalls.{ring_writes}
use Rattle.book.proofs.known.Known.put.Goals as goal

pub unwrap-requires : goal.unwrap-requires
unwrap-requires c =
    ring_writes c.args.self.shape.width c.args.self.shape.slots c.args.ring.now (ready_lent (ready c.args.self c.requires.0)) c.args.slot
    c.requires.1 c.args.value c.requires.2 c.write.result c.write.ensures.0

pub returns : goal.returns
returns c =
    c.write.ensures.1
    ∙ write_writes c.args.self.shape.width c.args.self.shape.slots c.args.ring.now (ready_lent (ready c.args.self c.requires.0)) c.args.slot
    c.requires.1 c.args.value c.requires.2
