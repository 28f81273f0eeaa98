-- `image::fields::first_digit`: the next byte is the digit, or white, or refused.
-- Assumes nothing.
use Rattle.std.proofs.Common.{arith, sym, ap, ◌∙◌}
use Rattle.std.proofs.lemmas.Result.{err_from_is_err_and}
use Rattle.decimals.specs.Decimal.{digit}
use Rattle.image.specs.Seen.{ahead, end_of}
use Rattle.image.specs.Fields.{one_of}
use Rattle.image.proofs.ReadByNext.{next_fewer, first_none, first_found, first_wrong, white_first}
use Rattle.image.proofs.fields.first_digit.Goals as goal

pub returns-in_err-took-clause-reads : goal.returns-in_err-took-clause-reads
returns-in_err-took-clause-reads c =
    let p = err_from_is_err_and c.from_residual.result c.from_residual.ensures.1 in
    rw (p.1, p.2) (first_none _ _ c.in_err-took.ensures ∙ ap (one_of digit (end_of c.args.s.now)) c.loop-took.invariant)

pub returns-then-is_ascii_digit : goal.returns-then-is_ascii_digit
unfolding digit
returns-then-is_ascii_digit c =
    let d = sym c.is_ascii_digit.ensures.value ∙ c.if-is_ascii_digit.true in
    record {
      reads = first_found _ _ c.in_ok-took.ensures d ∙ ap (one_of digit (end_of c.args.s.now)) c.loop-took.invariant;
      is_digit = d;
    }

pub returns-then-not-is_white-clause-reads : goal.returns-then-not-is_white-clause-reads
unfolding digit
returns-then-not-is_white-clause-reads c =
    let w = sym c.is_white.ensures ∙ c.if-not-is_white.true in
    let d = sym c.is_ascii_digit.ensures.value ∙ c.if-is_ascii_digit.false in
    first_wrong _ _ c.in_ok-took.ensures w d ∙ ap (one_of digit (end_of c.args.s.now)) c.loop-took.invariant

pub loop-took-smaller : goal.loop-took-smaller
loop-took-smaller c = omega (arith, next_fewer _ (ahead c.args.s.now c.loop-took.at) c.in_ok-took.ensures, c.skip_white-at.ensures.fewer)

pub loop-took-preserved : goal.loop-took-preserved
loop-took-preserved c =
    let w = sym c.is_white.ensures ∙ c.if-not-is_white.false in
    c.skip_white-at.ensures.run ∙ white_first _ _ c.in_ok-took.ensures w ∙ c.loop-took.invariant
