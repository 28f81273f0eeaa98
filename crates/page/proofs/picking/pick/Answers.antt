-- `page::picking::pick`: the first refusal ends it, and without one it goes by the verdict.
use Rattle.std.proofs.Common.{◌≡◌, ℕ, Ok, sym, ap, ◌∙◌}
use Rattle.std.proofs.lemmas.Result.{err_from_is_err_and}
use Rattle.refusals.proofs.Numbers.{number_not_0}
use Rattle.book.specs.Verdict.{refusal_in}
use Rattle.image.specs.declared.Layout.{Layout}
use Rattle.image.specs.declared.told.Numbers.{Numbers}
use Rattle.image.specs.Reading.{numbers_of}
use Rattle.image.specs.Refused.{as_numbers}
use Rattle.page.specs.Shown.{ruling_on, picture_in, of_shown}
use Rattle.page.specs.Calls.{lent_by}
use Rattle.page.specs.Told.{as_picture}
use Rattle.page.specs.Picked.{picked_of, no_picture, pick_call}
use Rattle.page.proofs.InOrder.{verdict_first, newest_next, older_last, then_shown}
use Rattle.page.proofs.Pictures.{of_shown_made}
use Rattle.page.proofs.picking.pick.Goals as goal

abbrev refusal : Numbers → ℕ
refusal numbers = numbers.refusal

abbrev view : Layout → Numbers
view layout = as_numbers (Ok layout)

pub returns-in_err-notice : goal.returns-in_err-notice
unfolding pick_call
returns-in_err-notice c = let p = err_from_is_err_and c.from_residual.result c.from_residual.ensures.1 in
    let own = ap refusal_in (c.in_err-notice.ensures) in
    rw (p.1, p.2)
    (ap no_picture own
    ∙ verdict_first c.args.book c.args.window c.args.amount (lent_by c.args.ring c.args.newest c.args.older) _ no_picture
    (λ none. number_not_0 c.in_err-notice.field-0.0 (own ∙ none)))

pub returns-in_err-of_newest : goal.returns-in_err-of_newest
unfolding pick_call
returns-in_err-of_newest c = let p = err_from_is_err_and c.from_residual-in_err-of_newest.result c.from_residual-in_err-of_newest.ensures.1 in
    let own = ap refusal (c.in_err-of_newest.ensures) in
    rw (p.1, p.2)
    (ap no_picture own
    ∙ newest_next c.args.book c.args.window c.args.amount (lent_by c.args.ring c.args.newest c.args.older) _ no_picture
    (sym (ap refusal_in (c.in_ok-notice.ensures)))
    (λ none. number_not_0 c.in_err-of_newest.field-0.0 (own ∙ none)))

pub returns-in_err-of_older : goal.returns-in_err-of_older
unfolding pick_call
returns-in_err-of_older c = let p = err_from_is_err_and c.from_residual-in_err-of_older.result c.from_residual-in_err-of_older.ensures.1 in
    let own = ap refusal (c.in_err-of_older.ensures) in
    rw (p.1, p.2)
    (ap no_picture own
    ∙ older_last c.args.book c.args.window c.args.amount (lent_by c.args.ring c.args.newest c.args.older) _ no_picture
    (sym (ap refusal_in (c.in_ok-notice.ensures)))
    (sym (ap refusal (c.in_ok-of_newest.ensures)))
    (λ none. number_not_0 c.in_err-of_older.field-0.0 (own ∙ none)))

pub returns : goal.returns
unfolding pick_call
returns c = let a = c.args in
    let lent = lent_by a.ring a.newest a.older in
    let ruling = ruling_on a.book a.ring.now a.window a.amount in
    let picture : as_picture c.from-picture.result ≡ picture_in ruling = c.from-picture.ensures ∙ ap picture_in c.in_ok-notice.ensures in
    let numbers : view c.of_shown-shown.result ≡ numbers_of (of_shown (picture_in ruling) lent.newest lent.older) =
    ap view c.of_shown-shown.ensures
    ∙ of_shown_made view _ c.in_ok-of_newest.of_newest c.in_ok-of_older.of_older
    ∙ (λ i. of_shown (picture i) (c.in_ok-of_newest.ensures i) (c.in_ok-of_older.ensures i))
    ∙ sym (of_shown_made numbers_of (picture_in ruling) lent.newest lent.older) in
    (λ i. picked_of (picture i) (numbers i).start (numbers i).used)
    ∙ then_shown a.book a.window a.amount lent _ no_picture (sym (ap refusal_in c.in_ok-notice.ensures)) (sym (ap refusal c.in_ok-of_newest.ensures))
    (sym (ap refusal c.in_ok-of_older.ensures))
