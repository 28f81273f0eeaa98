-- `watch::turns::counted`: a score or an item that is refused ends the run, and any other is shown.
-- Assumes nothing.
use Rattle.std.proofs.Common.{◌≡◌, Err, refl, ap, ◌∙◌, rules}
use Rattle.refusals.proofs.Numbers.{number_not_0}
use Rattle.watch.proofs.Deciding.{comes_to, refused_item_leaves, counted_unscored, counted_refused, counted_added}
use Rattle.watch.proofs.turns.counted.Goals as goal

pub returns-in_err-score : goal.returns-in_err-score
returns-in_err-score c = let a = c.args in
    let refusal = c.in_err-score.field-0.0 in
    let back : c.from_residual.result ≡ Err refusal = search rules in
    rw back (comes_to (refl, refl) (counted_unscored a.state a.ring.now a.last.now a.image.now c.in_err-score.ensures (number_not_0 refusal)))

pub returns-in_err-book : goal.returns-in_err-book
returns-in_err-book c = let a = c.args in
    let refusal = c.in_err-book.field-0.0 in
    let back : c.from_residual-in_err-book.result ≡ Err refusal = search rules in
    let adds = c.in_err-book.ensures in
    let left =
    refused_item_leaves a.state.book a.ring.now c.in_ok-score.score (λ e. number_not_0 refusal (ap (λ u. u.refusal) adds.0 ∙ e)) in
    rw back
    (comes_to (refl, adds.1 ∙ left)
    (counted_refused a.state a.ring.now a.last.now a.image.now c.in_ok-score.ensures refl adds.0 (number_not_0 refusal)))

pub returns : goal.returns
returns c = let a = c.args in
    let adds = c.in_ok-book.ensures in
    comes_to (c.shown.ensures, refl)
    (counted_added a.state a.ring.now a.last.now a.image.now c.in_ok-score.ensures refl adds.0 refl adds.1)
