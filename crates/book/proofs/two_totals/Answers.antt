-- A refusal comes with zeros, and without one both figures are there.
use Rattle.std.proofs.Common.{◌≡◌, ℕ, ◌+◌, ◌<◌, List, [], ◌∷◌, length, Result, Ok, Err, refl, ap, ◌∙◌, arith, rules, le-ltb, lt-ltb}
use Rattle.refusals.specs.declared.Refusal.{Refusal}
use Rattle.refusals.specs.declared.Refusal.TheVariants.{WindowTooLong}
use Rattle.refusals.specs.Call.{result_of}
use Rattle.refusals.specs.Numbers.{window_too_long}
use Rattle.book.specs.declared.Book.{Book}
use Rattle.book.specs.declared.BothFigures.{BothFigures}
use Rattle.book.specs.declared.known.Known.{Known}
use Rattle.book.specs.Answers.{Figures}
use Rattle.book.specs.Figure.{figure}
use Rattle.book.specs.Calls.{window_fault, two_totals_call}
use Rattle.book.specs.Judged.{Judged}
use Rattle.book.specs.Told.{as_figures}
use Rattle.book.proofs.JudgedFirst.{JudgedFirst, judged_first}
use Rattle.book.proofs.two_totals.Goals as goal

module _ (book : Book) (ring : List ℕ) (window more : ℕ) {found : Result Known Refusal} (told : Judged book (length ring) found) where
  judged : JudgedFirst book ring found (window_fault book (window + more) ∷ []) (two_totals_call book ring window more)
  unfolding two_totals_call
  judged = judged_first book ring _ _ (two_totals_call book ring window more) refl told

  -- 5, where the longer window is above kept
  too_long : {known : Known} → found ≡ Ok known → book.kept < window + more
      → record { refusal = window_too_long; shorter = 0; longer = 0 } ≡ result_of (two_totals_call book ring window more)
  unfolding two_totals_call
  too_long passed above = (judged.own_refused _ passed WindowTooLong (rw (lt-ltb book.kept (window + more) above))).0

pub returns-in_err-known : goal.returns-in_err-known
unfolding two_totals_call
returns-in_err-known c =
    let back : c.from_residual.result ≡ Err c.in_err-known.field-0.0 = search rules in
    ap as_figures back ∙ ((judged c.args.book c.args.ring.now c.args.window c.args.more c.usable.ensures).refused _ c.in_err-known.was).0

pub returns-then-book-window : goal.returns-then-book-window
returns-then-book-window c = too_long c.args.book c.args.ring.now c.args.window c.args.more c.usable.ensures c.in_ok-known.was (omega arith)

pub returns-then-book-window-2 : goal.returns-then-book-window-2
returns-then-book-window-2 c = too_long c.args.book c.args.ring.now c.args.window c.args.more c.usable.ensures c.in_ok-known.was (omega arith)

abbrev both : List ℕ → ℕ → ℕ → Book → Figures
both ring window more book = record { refusal = 0; shorter = figure book ring window; longer = figure book ring (window + more) }

pub returns : goal.returns
unfolding two_totals_call
returns c =
    let short = le-ltb c.args.book.kept (c.args.window + c.args.more) (omega arith) in
    let j = judged c.args.book c.args.ring.now c.args.window c.args.more c.usable.ensures in
    ap (λ (both : BothFigures). record { refusal = 0; shorter = both.shorter; longer = both.longer }) c.figures.ensures
    ∙ ap {B = Figures} (both c.args.ring.now c.args.window c.args.more) (j.same _ c.in_ok-known.was)
    ∙ (j.taken _ c.in_ok-known.was (rw short)).0
