-- `watch::turns::shown`: a total that is refused ends the run, and any other is shown with the verdict.
-- Assumes nothing.
use Rattle.std.proofs.Common.{◌≡◌, Err, refl, rules}
use Rattle.refusals.proofs.Numbers.{number_not_0}
use Rattle.watch.proofs.Deciding.{shown_refused, shown_row}
use Rattle.watch.proofs.turns.shown.Goals as goal

pub returns-in_err-total : goal.returns-in_err-total
returns-in_err-total c = let a = c.args in
    let refusal = c.in_err-total.field-0.0 in
    let back : c.from_residual.result ≡ Err refusal = search rules in
    rw back (shown_refused a.state a.ring.now a.score a.used c.in_err-total.ensures (number_not_0 refusal))

pub returns : goal.returns
returns c = let a = c.args in
    let said = rw c.verdict.ensures at c.word_of-word.ensures in
    shown_row a.state a.ring.now a.score a.used c.in_ok-total.ensures refl (search rules) said
