-- `image::bytes::next`: the first byte that opens no comment is the next one, and past the slice or the limit nothing is ahead.
-- Assumes nothing.
use Rattle.std.proofs.Common.{arith, sym, ap, ◌∙◌}
use Rattle.image.specs.Seen.{end_of}
use Rattle.image.specs.Step.{next_byte, stopped}
use Rattle.image.proofs.NextSeen.{ahead_next, ahead_opens, ahead_none}
use Rattle.image.proofs.bytes.next.Goals as goal

pub returns-then-not-opens_comment : goal.returns-then-not-opens_comment
returns-then-not-opens_comment c =
    let s = c.args.s.now in
    let plain = sym c.opens_comment.ensures ∙ c.if-not-opens_comment.true in
    ap (next_byte (end_of s)) (sym (ahead_next s c.loop-at.at (omega arith) plain) ∙ c.loop-at.invariant)

pub loop-at-preserved : goal.loop-at-preserved
loop-at-preserved c =
    let opens = sym c.opens_comment.ensures ∙ c.if-not-opens_comment.false in
    c.behind_comment-at.ensures.skips ∙ sym (ahead_opens c.args.s.now c.loop-at.at (omega arith) opens) ∙ c.loop-at.invariant

pub returns : goal.returns
returns c =
    let s = c.args.s.now in
    ap stopped c.end_of.ensures ∙ ap (next_byte (end_of s)) (sym (ahead_none s c.loop-at.at (omega arith)) ∙ c.loop-at.invariant)
