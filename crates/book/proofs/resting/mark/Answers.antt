-- A record that is no book is refused with 8, and any other gets the mark.
use Rattle.std.proofs.Common.{◌≡◌, Err, sym, refl, ap, ◌∙◌, rules}
use Rattle.refusals.specs.Refused.{number_in}
use Rattle.refusals.proofs.Numbers.{number_not_0}
use Rattle.refusals.proofs.Calls.{result_taken, result_refused}
use Rattle.book.specs.Calls.{mark_call}
use Rattle.book.specs.Told.{as_updated}
use Rattle.book.proofs.resting.mark.Goals as goal

pub returns-in_err-known : goal.returns-in_err-known
unfolding mark_call
returns-in_err-known c =
    let refusal = c.in_err-known.field-0.0 in
    let back : c.from_residual.result ≡ Err refusal = search rules in
    ap (as_updated c.args.book) back
    ∙ result_refused (mark_call c.args.book c.args.mark) (sym (ap number_in c.in_err-known.was) ∙ c.known.ensures.refusal_is) (number_not_0 refusal)

pub returns : goal.returns
unfolding mark_call
returns c =
    result_taken (mark_call c.args.book c.args.mark) (sym (ap number_in c.in_ok-known.was) ∙ c.known.ensures.refusal_is) refl
