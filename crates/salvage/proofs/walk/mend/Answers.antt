-- `salvage::walk::mend`: every slot is gone through, the bits after the last one are cleared, and the record is made.
-- Assumes nothing.
use Rattle.std.proofs.Common.{arith, ap}
use Rattle.book.specs.declared.shape.Shape.{Shape}
use Rattle.salvage.proofs.AlteredSlots.{how_new_high}
use Rattle.salvage.proofs.TheCalls.{record_is, ring_is}
use Rattle.salvage.proofs.walk.mend.Goals as goal

pub kept-kept-requires : goal.kept-kept-requires
kept-kept-requires c =
    let known = c.args.known in
    omega (arith, c.every_slot-found.ensures.1, how_new_high known.book c.args.ring.now, ap (λ (s : Shape). s.slots) known.derived)

pub returns : goal.returns
returns c =
    let found = c.every_slot-found.ensures in
    let book = c.args.known.book in (
      λ i. record { count = found.0 i; book = record_is book c.args.ring.now found.1 c.kept-kept.ensures i },
      ring_is book c.args.ring.now found.2 c.clear_tail.ensures,
      found.3,
    )
