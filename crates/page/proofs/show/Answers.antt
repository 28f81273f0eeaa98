-- `page::show`: what is picked, with its length and the age of the picture that is shown.
use Rattle.std.proofs.Common.{ℕ, sym, ap, ◌∙◌}
use Rattle.std.proofs.lemmas.Result.{err_from_is_err_and}
use Rattle.refusals.proofs.Numbers.{number_not_0}
use Rattle.page.specs.Answers.{Picked}
use Rattle.page.specs.Ages.{age_of}
use Rattle.page.specs.Shown.{age_shown}
use Rattle.page.specs.Told.{as_picture}
use Rattle.page.specs.Calls.{lent_by, choice_of, no_choice}
use Rattle.page.proofs.PickedFirst.{picked_lies, show_refused, show_taken}
use Rattle.page.proofs.show.Goals as goal

abbrev refusal : Picked → ℕ
refusal picked = picked.refusal

pub returns-in_err-picked : goal.returns-in_err-picked
returns-in_err-picked c = let p = err_from_is_err_and c.from_residual.result c.from_residual.ensures.1 in
    let a = c.args in
    let own = ap refusal c.in_err-picked.ensures in
    rw (p.1, p.2)
    (ap no_choice own
    ∙ show_refused a.book a.window a.amount (lent_by a.ring a.newest a.older) a.ticks
    (λ none. number_not_0 c.in_err-picked.field-0.0 (own ∙ none)))

pub overflow_sub-result : goal.overflow_sub-result
overflow_sub-result c = let a = c.args in
    let lies = picked_lies a.book a.window a.amount (lent_by a.ring a.newest a.older) in
    rw (sym c.in_ok-picked.ensures) at lies.order

pub returns : goal.returns
returns c = let a = c.args in
    let picked = c.in_ok-picked.ensures in
    let of_code = c.in_ok-picked.picked in
    let age = c.age.ensures ∙ ap (age_of a.ticks.present) c.of_shown-own.ensures in
    ap (choice_of (as_picture of_code.picture) of_code.start of_code.end) age
    ∙ (λ i. choice_of (picked i).picture (picked i).start (picked i).end (age_shown a.ticks (picked i).picture))
    ∙ show_taken a.book a.window a.amount (lent_by a.ring a.newest a.older) a.ticks (sym (ap refusal picked))
