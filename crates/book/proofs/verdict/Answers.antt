-- A refusal comes with its number, and without one the verdict goes by the figure.
use Rattle.std.proofs.Common.{◌≡◌, ℕ, List, [], ◌∷◌, length, Result, Err, refl, ap, ◌∙◌, arith, rules, le-ltb, lt-ltb, eq-eqb, ne_eqb}
use Rattle.refusals.specs.declared.Refusal.{Refusal}
use Rattle.refusals.specs.declared.Refusal.TheVariants.{ZeroAsked, WindowTooLong}
use Rattle.book.specs.declared.Book.{Book}
use Rattle.book.specs.declared.known.Known.{Known}
use Rattle.book.specs.declared.verdicts.Verdict.{Verdict}
use Rattle.book.specs.Answers.{Told}
use Rattle.book.specs.Figure.{figure}
use Rattle.book.specs.Verdict.{verdict_now}
use Rattle.book.specs.Calls.{zero_fault, window_fault, verdict_call}
use Rattle.book.specs.Judged.{Judged}
use Rattle.book.specs.Told.{as_ruling}
use Rattle.book.proofs.JudgedFirst.{JudgedFirst, judged_first}
use Rattle.book.proofs.verdict.Goals as goal

judged : (book : Book) (ring : List ℕ) (window amount : ℕ) {found : Result Known Refusal} → Judged book (length ring) found
    → JudgedFirst book ring found (zero_fault amount ∷ zero_fault window ∷ window_fault book window ∷ []) (verdict_call book ring window amount)
unfolding verdict_call
judged book ring window amount told = judged_first book ring _ _ (verdict_call book ring window amount) refl told

pub returns-in_err-known : goal.returns-in_err-known
unfolding verdict_call
returns-in_err-known c =
    let back : c.from_residual.result ≡ Err c.in_err-known.field-0.0 = search rules in
    ap as_ruling back ∙ ((judged c.args.book c.args.ring.now c.args.window c.args.amount c.usable.ensures).refused _ c.in_err-known.was).0

pub returns-then-amount-eq0 : goal.returns-then-amount-eq0
unfolding verdict_call
returns-then-amount-eq0 c =
    let zero = eq-eqb c.args.amount 0 c.if-amount-eq0.true in
    ((judged c.args.book c.args.ring.now c.args.window c.args.amount c.usable.ensures).own_refused _ c.in_ok-known.was ZeroAsked (rw zero)).0

pub returns-then-window-eq0 : goal.returns-then-window-eq0
unfolding verdict_call
returns-then-window-eq0 c =
    let some = ne_eqb c.args.amount 0 c.if-amount-eq0.false in
    let zero = eq-eqb c.args.window 0 c.if-window-eq0.true in
    ((judged c.args.book c.args.ring.now c.args.window c.args.amount c.usable.ensures).own_refused _ c.in_ok-known.was ZeroAsked (rw (some, zero))).0

pub returns-then-book-window : goal.returns-then-book-window
unfolding verdict_call
returns-then-book-window c =
    let some_amount = ne_eqb c.args.amount 0 c.if-amount-eq0.false in
    let some_window = ne_eqb c.args.window 0 c.if-window-eq0.false in
    let long = lt-ltb c.args.book.kept c.args.window (omega arith) in
    ((judged c.args.book c.args.ring.now c.args.window c.args.amount c.usable.ensures).own_refused _ c.in_ok-known.was WindowTooLong
    (rw (some_amount, some_window, long))).0

pub returns : goal.returns
unfolding verdict_call
returns c =
    let some_amount = ne_eqb c.args.amount 0 c.if-amount-eq0.false in
    let some_window = ne_eqb c.args.window 0 c.if-window-eq0.false in
    let short = le-ltb c.args.book.kept c.args.window (omega arith) in
    let j = judged c.args.book c.args.ring.now c.args.window c.args.amount c.usable.ensures in
    let told = c.figure-figure.ensures ∙ ap (λ (b : Book). figure b c.args.ring.now c.args.window) (j.same _ c.in_ok-known.was) in
    let same = j.same _ c.in_ok-known.was in
    ap (λ (v : Verdict). Told (record { window = c.args.window; verdict = v }))
    (c.verdict.ensures ∙ ap (λ (b : Book). verdict_now b c.args.amount c.figure-figure.result) same ∙ ap (verdict_now c.args.book c.args.amount) told)
    ∙ (j.taken _ c.in_ok-known.was (rw (some_amount, some_window, short))).0
