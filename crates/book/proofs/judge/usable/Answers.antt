-- The record is judged first, then the room.
use Rattle.std.proofs.Common.{◌≡◌, [], Err, sym, ap, ◌∙◌, rules}
use Rattle.refusals.specs.Refused.{number_in}
use Rattle.refusals.proofs.Numbers.{number_not_0}
use Rattle.book.proofs.JudgedFirst.{judged_refused}
use Rattle.book.proofs.WhenTaken.{no_record}
use Rattle.book.proofs.judge.usable.Goals as goal

pub returns-in_err-known : goal.returns-in_err-known
returns-in_err-known c =
    let refusal = c.in_err-known.field-0.0 in
    let back : c.from_residual.result ≡ Err refusal = search rules in
    judged_refused c.args.book c.args.lent [] refusal
    (no_record c.args.book c.args.lent (sym (ap number_in c.in_err-known.was) ∙ c.known.ensures.refusal_is) (number_not_0 refusal)) back
