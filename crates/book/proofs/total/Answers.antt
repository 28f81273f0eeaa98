-- A refusal comes with 0, and without one the figure is there.
use Rattle.std.proofs.Common.{◌≡◌, ℕ, List, [], ◌∷◌, length, Result, Err, refl, ap, ◌∙◌, arith, rules, le-ltb, lt-ltb}
use Rattle.refusals.specs.declared.Refusal.{Refusal}
use Rattle.refusals.specs.declared.Refusal.TheVariants.{WindowTooLong}
use Rattle.book.specs.declared.Book.{Book}
use Rattle.book.specs.declared.known.Known.{Known}
use Rattle.book.specs.Figure.{figure}
use Rattle.book.specs.Calls.{window_fault, total_call}
use Rattle.book.specs.Judged.{Judged}
use Rattle.book.specs.Told.{as_figure}
use Rattle.book.proofs.JudgedFirst.{JudgedFirst, judged_first}
use Rattle.book.proofs.total.Goals as goal

judged : (book : Book) (ring : List ℕ) (window : ℕ) {found : Result Known Refusal} → Judged book (length ring) found
    → JudgedFirst book ring found (window_fault book window ∷ []) (total_call book ring window)
unfolding total_call
judged book ring window told = judged_first book ring _ _ (total_call book ring window) refl told

pub returns-in_err-known : goal.returns-in_err-known
unfolding total_call
returns-in_err-known c =
    let back : c.from_residual.result ≡ Err c.in_err-known.field-0.0 = search rules in
    ap as_figure back ∙ ((judged c.args.book c.args.ring.now c.args.window c.usable.ensures).refused _ c.in_err-known.was).0

pub returns-then-book-window : goal.returns-then-book-window
unfolding total_call
returns-then-book-window c =
    let long = lt-ltb c.args.book.kept c.args.window (omega arith) in
    ((judged c.args.book c.args.ring.now c.args.window c.usable.ensures).own_refused _ c.in_ok-known.was WindowTooLong (rw long)).0

pub returns : goal.returns
unfolding total_call
returns c =
    let short = le-ltb c.args.book.kept c.args.window (omega arith) in
    let j = judged c.args.book c.args.ring.now c.args.window c.usable.ensures in
    ap (λ (f : ℕ). record { refusal = 0; figure = f })
    (c.figure.ensures ∙ ap (λ (b : Book). figure b c.args.ring.now c.args.window) (j.same _ c.in_ok-known.was))
    ∙ (j.taken _ c.in_ok-known.was (rw short)).0
