-- `coarse::tally::quotient`: what is read is the j-th newest slot.
-- Assumes nothing.
use Rattle.std.proofs.Common.{sym, ◌∙◌}
use Rattle.sums.proofs.Promises.{oldest_newest, oldest_read, same_ok}
use Rattle.coarse.proofs.AtHand.{known_lent, known_head}
use Rattle.coarse.proofs.tally.quotient.Goals as goal

pub unwrap-requires : goal.unwrap-requires
unwrap-requires c =
    let known = c.args.known in
    let is = oldest_read known.shape.width known.shape.slots known.book.head c.args.j c.args.ring.now c.read.result (known_lent known c.requires.0)
    (known_head known) (c.oldest.ensures ∙ oldest_newest _ _ _ c.requires.1) c.read.ensures in
    rw is

pub returns : goal.returns
returns c =
    let known = c.args.known in
    let is = oldest_read known.shape.width known.shape.slots known.book.head c.args.j c.args.ring.now c.read.result (known_lent known c.requires.0)
    (known_head known) (c.oldest.ensures ∙ oldest_newest _ _ _ c.requires.1) c.read.ensures in
    same_ok (sym c.unwrap.ensures ∙ is)
