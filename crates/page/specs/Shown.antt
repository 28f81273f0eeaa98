-- Which of two pictures the page shows (SCOPE, Page: which one), and what belongs to it.
use Rattle.std.specs.Prelude.{ℕ, List}
use Rattle.refusals.specs.Call.{result_of}
use Rattle.book.specs.declared.Book.{Book}
use Rattle.book.specs.declared.verdicts.Verdict.{Verdict}
use Rattle.book.specs.declared.verdicts.Verdict.TheVariants.{Live, Frozen, Undecided, Resting}
use Rattle.book.specs.Answers.{Ruling}
use Rattle.book.specs.Answers.{Told, Refused}
use Rattle.book.specs.Calls.{verdict_call}
use Rattle.page.specs.Answers.{Picture}
use Rattle.page.specs.Answers.{Neither, Newest, Older}
use Rattle.page.specs.declared.Ticks.{Ticks}
use Rattle.page.specs.Ages.{age_of}

-- the newest if the verdict is live, otherwise the older one …
abbrev pub picture_by : Verdict → Picture
picture_by (Live figure) = Newest
picture_by (Frozen figure) = Older
picture_by (Undecided figure) = Older
picture_by (Resting figure) = Older

-- … and neither where there is no verdict
abbrev pub picture_in : Ruling → Picture
picture_in (Told notice) = picture_by notice.verdict
picture_in (Refused refusal) = Neither

-- what the page asks the book: the verdict on a window and an amount
abbrev pub ruling_on : Book → List ℕ → ℕ → ℕ → Ruling
ruling_on book ring window amount = result_of (verdict_call book ring window amount)

-- of two things, of which one belongs to the newest picture and the other to the older one: that of the picture which is shown. Where neither is,
-- the newest's: there a refused call has its empty part
abbrev pub of_shown : {A : Type 0} → Picture → (newest older : A) → A
of_shown Neither newest older = newest
of_shown Newest newest older = newest
of_shown Older newest older = older

-- its age: by its own tick and the tick now
abbrev pub age_shown : Ticks → Picture → ℕ
age_shown ticks picture = age_of ticks.present (of_shown picture ticks.newest ticks.older)

-- the number of each case, for callers that take no enum
abbrev pub picture_number : Picture → ℕ
picture_number Neither = 0
picture_number Newest = 1
picture_number Older = 2
