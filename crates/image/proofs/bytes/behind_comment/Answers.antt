-- `image::bytes::behind_comment`: a byte that ends no line is passed over, one that does ends the comment, and at the end nothing is ahead.
-- Assumes nothing.
use Rattle.std.proofs.Common.{arith, sym, ◌∙◌}
use Rattle.image.proofs.NextSeen.{ahead_none, comment_none, comment_goes_on, comment_ends}
use Rattle.image.proofs.bytes.behind_comment.Goals as goal

pub returns-then-is_line_end-clause-skips : goal.returns-then-is_line_end-clause-skips
returns-then-is_line_end-clause-skips c =
    let ends = sym c.is_line_end.ensures ∙ c.if-is_line_end.true in
    sym (comment_ends c.args.s.now c.loop-at.at (omega arith) ends) ∙ c.loop-at.invariant

pub loop-at-preserved : goal.loop-at-preserved
loop-at-preserved c =
    let inside = sym c.is_line_end.ensures ∙ c.if-is_line_end.false in
    sym (comment_goes_on c.args.s.now c.loop-at.at (omega arith) inside) ∙ c.loop-at.invariant

pub returns-clause-skips : goal.returns-clause-skips
returns-clause-skips c =
    let s = c.args.s.now in
    ahead_none s c.readable-end.result (omega arith) ∙ sym (comment_none s c.loop-at.at (omega arith)) ∙ c.loop-at.invariant
