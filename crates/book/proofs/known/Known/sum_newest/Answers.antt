-- The ring is lent whole and has the slots, so that its call sums them.
use Rattle.std.proofs.Common.{◌≡◌, Ok}
use Rattle.ring.specs.Slot.{field}
use Rattle.ring.specs.Newest.{sum_newest}
use Rattle.book.proofs.Ready.{ready}
use Rattle.book.proofs.StepsInRange.{ready_lent}
use Rattle.book.proofs.RingCalls.{ring_sums}
use Rattle.book.proofs.known.Known.sum_newest.Goals as goal

pub unwrap-requires : goal.unwrap-requires
unwrap-requires c =
    let sum : c.sum.result ≡ Ok (sum_newest (field c.args.self.shape.width c.args.ring.now) c.args.self.shape.slots c.args.next c.args.j) =
    ring_sums c.args.self.shape.width c.args.self.shape.slots c.args.ring.now (ready_lent (ready c.args.self c.requires.0)) c.args.next
    c.requires.1 c.args.j c.requires.2 c.sum.result c.sum.ensures in
    rw sum

pub returns : goal.returns
returns c =
    let sum : c.sum.result ≡ Ok (sum_newest (field c.args.self.shape.width c.args.ring.now) c.args.self.shape.slots c.args.next c.args.j) =
    ring_sums c.args.self.shape.width c.args.self.shape.slots c.args.ring.now (ready_lent (ready c.args.self c.requires.0)) c.args.next
    c.requires.1 c.args.j c.requires.2 c.sum.result c.sum.ensures in
    cc
