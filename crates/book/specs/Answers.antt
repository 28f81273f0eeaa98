-- Answers of calls in numbers, of those calls that C has not, or has in another form: what the calls' rows give (specs/Calls.antt).
use Rattle.std.specs.Prelude.{ℕ}
use Rattle.book.specs.declared.verdicts.Notice.{Notice}

-- a refusal, 0 for none, and the figures of two windows
pub record Figures : Type 0 where
  pub refusal : ℕ
  pub shorter : ℕ
  pub longer : ℕ

-- what the page is told, or the number of the refusal
pub data Ruling : Type 0 where
  Told : Notice → Ruling
  Refused : ℕ → Ruling
