-- The verdict for window w and amount v, and what the page is told: SCOPE, Verdict and Dark hours.
use Rattle.std.specs.Prelude.{ℕ, ◌+◌, ◌-◌, cond, nat_le, nat_lt}
use Rattle.book.specs.declared.Book.{Book}
use Rattle.book.specs.declared.verdicts.Verdict.{Verdict}
use Rattle.book.specs.declared.verdicts.Verdict.TheVariants.{Live, Frozen, Undecided, Resting}
use Rattle.book.specs.Answers.{Ruling}
use Rattle.book.specs.Answers.{Told, Refused}
use Rattle.book.specs.Resting.{rests}

-- with figure f: live if f ≥ v; frozen if f + D − 1 < v; otherwise undecided
unfoldable pub verdict_of : ℕ → ℕ → ℕ → Verdict
verdict_of tolerance amount figure =
    cond (nat_le amount figure) (Live figure)
    (cond (nat_lt (figure + tolerance - 1) amount) (Frozen figure) (Undecided figure))

-- of a book: while it rests the verdict is resting, whatever v is; otherwise it goes by the figure
unfoldable pub verdict_now : Book → ℕ → ℕ → Verdict
verdict_now book amount figure = cond (rests book) (Resting figure) (verdict_of book.tolerance amount figure)

-- the number and the figure of each case of a verdict
abbrev pub case_of : Verdict → ℕ × ℕ
case_of (Live figure) = (1, figure)
case_of (Frozen figure) = (2, figure)
case_of (Undecided figure) = (3, figure)
case_of (Resting figure) = (4, figure)

abbrev pub verdict_number : Verdict → ℕ
verdict_number verdict = (case_of verdict).0

abbrev pub figure_in : Verdict → ℕ
figure_in verdict = (case_of verdict).1

-- the numbers of an answer: the refusal, 0 where a verdict is told …
abbrev pub refusal_in : Ruling → ℕ
refusal_in (Told notice) = 0
refusal_in (Refused refusal) = refusal

-- … the window, 0 where it is refused …
abbrev pub window_in : Ruling → ℕ
window_in (Told notice) = notice.window
window_in (Refused refusal) = 0

-- … the figure, 0 where it is refused …
abbrev pub value_in : Ruling → ℕ
value_in (Told notice) = figure_in notice.verdict
value_in (Refused refusal) = 0

-- … and the verdict's number, 0 where it is refused
abbrev pub ruling_number : Ruling → ℕ
ruling_number (Told notice) = verdict_number notice.verdict
ruling_number (Refused refusal) = 0
