-- The ring is lent whole and has the slot, so that its call reads it.
use Rattle.std.proofs.Common.{◌≡◌, Ok}
use Rattle.ring.specs.Slot.{field}
use Rattle.book.proofs.Ready.{ready}
use Rattle.book.proofs.StepsInRange.{ready_lent}
use Rattle.book.proofs.RingCalls.{ring_reads}
use Rattle.book.proofs.known.Known.get.Goals as goal

pub unwrap-requires : goal.unwrap-requires
unwrap-requires c =
    let read : c.read.result ≡ Ok (field c.args.self.shape.width c.args.ring.now c.args.slot) =
    ring_reads c.args.self.shape.width c.args.self.shape.slots c.args.ring.now (ready_lent (ready c.args.self c.requires.0)) c.args.slot
    c.requires.1 c.read.result c.read.ensures in
    rw read

pub returns : goal.returns
returns c =
    let read : c.read.result ≡ Ok (field c.args.self.shape.width c.args.ring.now c.args.slot) =
    ring_reads c.args.self.shape.width c.args.self.shape.slots c.args.ring.now (ready_lent (ready c.args.self c.requires.0)) c.args.slot
    c.requires.1 c.read.result c.read.ensures in
    cc
