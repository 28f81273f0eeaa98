-- `image::fields::number`: the first digit, and what each byte behind it makes of the number. The value stops above every range, where the
-- definition cannot tell it from a larger one.
-- Assumes nothing.
use Rattle.std.proofs.Common.{arith, refl, sym, ◌∙◌}
use Rattle.std.proofs.lemmas.Result.{err_from_is_err_and}
use Rattle.decimals.specs.Decimal.{digit, with_digit}
use Rattle.decimals.proofs.WritesAndReads.{digit_range}
use Rattle.image.specs.Seen.{ahead, end_of}
use Rattle.image.specs.Fields.{number_field}
use Rattle.image.proofs.FieldsOfBytes.{saturates}
use Rattle.image.proofs.ReadByNext.{next_fewer, more_none, more_digit, more_over, more_wrong}
use Rattle.image.proofs.fields.number.Goals as goal

pub returns-in_err-first-clause-reads : goal.returns-in_err-first-clause-reads
unfolding number_field
returns-in_err-first-clause-reads c =
    let p = err_from_is_err_and c.from_residual.result c.from_residual.ensures.1 in
    rw (p.1, p.2, sym c.in_err-first.ensures.reads) refl

pub overflow_sub-first : goal.overflow_sub-first
overflow_sub-first c = (digit_range c.in_ok-first.first.value c.in_ok-first.ensures.is_digit).0

pub loop-took-init : goal.loop-took-init
unfolding number_field
loop-took-init c = record {
  small = omega (arith, c.from-value.ensures, digit_range c.in_ok-first.first.value c.in_ok-first.ensures.is_digit);
  same = rw (sym c.in_ok-first.ensures.reads, c.from-value.ensures) refl;
}

pub returns-in_err-took-clause-reads : goal.returns-in_err-took-clause-reads
returns-in_err-took-clause-reads c =
    let p = err_from_is_err_and c.from_residual-in_err-took.result c.from_residual-in_err-took.ensures.1 in
    rw (p.1, p.2) (more_none _ _ _ _ c.in_err-took.ensures ∙ c.loop-took.invariant.same)

pub grown-value-requires : goal.grown-value-requires
unfolding digit
grown-value-requires c = (c.loop-took.invariant.small, sym c.is_ascii_digit.ensures.value ∙ c.if-is_ascii_digit.true)

pub loop-took-smaller : goal.loop-took-smaller
loop-took-smaller c = omega (arith, next_fewer _ (ahead c.args.s.now c.loop-took.at) c.in_ok-took.ensures)

pub loop-took-preserved : goal.loop-took-preserved
unfolding digit
loop-took-preserved c =
    let took = c.in_ok-took.took in
    let more = with_digit c.loop-took.value took.value in
    let d = sym c.is_ascii_digit.ensures.value ∙ c.if-is_ascii_digit.true in
    record {
      small = omega (arith, c.grown-value.ensures);
      same =
          rw (c.grown-value.ensures, saturates (end_of c.args.s.now) c.args.top more (ahead c.args.s.now took.used) c.requires)
          (more_digit _ _ _ _ c.in_ok-took.ensures d ∙ c.loop-took.invariant.same);
    }

pub returns-then-is_white-clause-reads : goal.returns-then-is_white-clause-reads
returns-then-is_white-clause-reads c =
    let w = sym c.is_white.ensures ∙ c.if-is_white.true in
    c.judge.ensures.judges c.args.s.now ∙ more_over _ _ _ _ c.in_ok-took.ensures w ∙ c.loop-took.invariant.same

pub returns-else-is_white-clause-reads : goal.returns-else-is_white-clause-reads
unfolding digit
returns-else-is_white-clause-reads c =
    let w = sym c.is_white.ensures ∙ c.if-is_white.false in
    let d = sym c.is_ascii_digit.ensures.value ∙ c.if-is_ascii_digit.false in
    more_wrong _ _ _ _ c.in_ok-took.ensures w d ∙ c.loop-took.invariant.same
