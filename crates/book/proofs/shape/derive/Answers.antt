-- A refusal comes with zeros, and without one the numbers are derived.
use Rattle.std.proofs.Common.{◌≡◌, Err, sym, refl, ap, ◌∙◌, rules}
use Rattle.refusals.specs.Refused.{number_in}
use Rattle.refusals.proofs.Numbers.{number_not_0}
use Rattle.refusals.proofs.Calls.{result_taken, result_refused}
use Rattle.book.specs.declared.shape.Shape.{Shape}
use Rattle.book.specs.Shape.{shape_call}
use Rattle.book.specs.Told.{as_shaped}
use Rattle.book.proofs.shape.derive.Goals as goal

pub returns-in_err-numbers_in_range : goal.returns-in_err-numbers_in_range
unfolding shape_call
returns-in_err-numbers_in_range c =
    let refusal = c.in_err-numbers_in_range.field-0.0 in
    let back : c.from_residual.result ≡ Err refusal = search rules in
    ap as_shaped back
    ∙ result_refused (shape_call c.args.bound c.args.length c.args.tolerance) (sym (ap number_in c.in_err-numbers_in_range.was) ∙ c.numbers_in_range.ensures) (number_not_0 refusal)

pub returns : goal.returns
unfolding shape_call
returns c =
    ap (λ (s : Shape). record { refusal = 0; shape = s }) c.in_two_cases.ensures
    ∙ result_taken (shape_call c.args.bound c.args.length c.args.tolerance) (sym (ap number_in c.in_ok-numbers_in_range.was) ∙ c.numbers_in_range.ensures) refl
