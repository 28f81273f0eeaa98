-- `image::fields::skip_white`: a white byte opens no comment, so that it is the next one ahead.
-- Assumes nothing.
use Rattle.std.proofs.Common.{arith, length, get_or, sym, ap, ◌∙◌}
use Rattle.image.specs.Step.{next_byte}
use Rattle.image.proofs.FirstByteSeen.{opens_none}
use Rattle.image.proofs.NextSeen.{ahead_next}
use Rattle.image.proofs.PlainBytes.{white_is_no_hash}
use Rattle.image.proofs.ReadByNext.{white_first}
use Rattle.image.proofs.fields.skip_white.Goals as goal

pub loop-at-preserved : goal.loop-at-preserved
loop-at-preserved c =
    let at = c.loop-at.at in
    let byte = get_or c.args.s.now at 0 in
    let w = sym c.is_white.ensures ∙ c.if-not-is_white.false in
    let seen = ahead_next c.args.s.now at (omega arith) (opens_none at byte (λ two. white_is_no_hash byte w)) in
    record {
      run = white_first 0 _ (ap (next_byte 0) (sym seen)) w ∙ c.loop-at.invariant.run;
      fewer = omega (arith, ap length seen, c.loop-at.invariant.fewer);
    }
