-- The ring is lent whole, so that its call clears it.
use Rattle.std.proofs.Common.{◌∙◌}
use Rattle.ring.proofs.Promises.{clear_clears}
use Rattle.book.proofs.RingCalls.{ring_cleared}
use Rattle.book.proofs.slots.clear.Goals as goal

pub unwrap-requires : goal.unwrap-requires
unwrap-requires c = ring_cleared c.args.shape.width c.args.shape.slots c.args.ring.now c.requires c.clear.result c.clear.ensures.0

pub returns : goal.returns
returns c = c.clear.ensures.1 ∙ clear_clears c.args.shape.width c.args.shape.slots c.args.ring.now c.requires
