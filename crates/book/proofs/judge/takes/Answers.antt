-- The book and its ring are judged first, then the mark.
use Rattle.std.proofs.Common.{◌≡◌, [], ◌∷◌, Err, sym, ap, ◌∙◌, rules}
use Rattle.refusals.specs.Refused.{number_in}
use Rattle.refusals.proofs.Laws.{first_stops}
use Rattle.refusals.proofs.Numbers.{number_not_0}
use Rattle.book.specs.Calls.{book_faults, rest_fault}
use Rattle.book.proofs.JudgedFirst.{judged_refused}
use Rattle.book.proofs.judge.takes.Goals as goal

pub returns-in_err-known : goal.returns-in_err-known
returns-in_err-known c =
    let book = c.args.book in
    let refusal = c.in_err-known.field-0.0 in
    let back : c.from_residual.result ≡ Err refusal = search rules in
    judged_refused book c.args.lent (rest_fault book ∷ []) refusal
    (first_stops (book_faults book c.args.lent) (rest_fault book ∷ []) _ (sym (ap number_in c.in_err-known.was) ∙ c.usable.ensures.refusal_is)
    (number_not_0 refusal)) back
