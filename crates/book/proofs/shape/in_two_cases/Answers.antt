-- c, s and z in each case, and the rest follows from these.
use Rattle.std.proofs.Common.{◌∙◌, arith}
use Rattle.book.specs.Derived.{ceil_div}
use Rattle.book.proofs.ShapeInTwoCases.{shape_by, shape_below, quotient_small, slots_few, shape_at_least}
use Rattle.book.proofs.shape.in_two_cases.Goals as goal

pub packed-requires : goal.packed-requires
packed-requires c =
    let a = c.args in
    (c.requires.length_high, rw c.ceil_div.ensures (quotient_small a.bound a.length a.tolerance c.requires))

pub returns-then-tolerance-bound : goal.returns-then-tolerance-bound
returns-then-tolerance-bound c =
    let a = c.args in
    c.packed.ensures
    ∙ (λ i. shape_by 1 a.length (c.ceil_div.ensures i))
    ∙ shape_below a.bound a.length a.tolerance c.requires c.if-tolerance-bound.true

pub packed-requires-2 : goal.packed-requires-2
packed-requires-2 c =
    let a = c.args in (
      rw (c.ceil_div-2.ensures, c.div-block.ensures) (slots_few a.bound a.length a.tolerance c.requires c.if-tolerance-bound.false),
      omega arith,
    )

pub returns : goal.returns
returns c =
    let a = c.args in
    c.packed-2.ensures
    ∙ (λ i. shape_by (c.div-block.ensures i) ((c.ceil_div-2.ensures ∙ (λ j. ceil_div a.length (c.div-block.ensures j))) i) 1)
    ∙ shape_at_least a.bound a.length a.tolerance c.requires c.if-tolerance-bound.false
