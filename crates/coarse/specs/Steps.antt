-- What the private functions hand to each other. A device of the code: the contracts of private functions cite it, and no reader needs it.
use Rattle.std.specs.Prelude.{ℕ, ◌≤◌, List, [], ◌∷◌, ◌++◌, ◌≡◌}
use Rattle.refusals.specs.First.{Fault, first_of}
use Rattle.book.specs.declared.Book.{Book}
use Rattle.book.specs.Resting.{awake}
use Rattle.book.specs.Sound.{Usable}
use Rattle.sums.specs.Row.{entries_of}
use Rattle.sums.specs.Calls.{row_fault}
use Rattle.coarse.specs.declared.judge.Judged.{Judged}
use Rattle.coarse.specs.Calls.{coarser_bytes, coarser_entries, coarse_faults}

-- all that is asked before anything is changed, 18 last
abbrev pub row_faults : Book → ℕ → ℕ → ℕ → ℕ → List Fault
row_faults book lent times second row = coarse_faults book lent times second ++ row_fault (coarser_entries book times) row ∷ []

-- what is known once that is asked and nothing is refused
pub record Passed (book : Book) (lent times second row : ℕ) (judged : Judged) : Type 0 where
  pub nothing : 0 ≡ first_of (row_faults book lent times second row)
  pub same : judged.known.book ≡ book
  pub room : judged.known.shape.bytes ≤ lent
  pub bytes_are : judged.bytes ≡ coarser_bytes book times

-- a tally that takes quotients, where so many bytes of its ring and so many numbers of its row are lent
pub record Takes (tally : Book) (second row : ℕ) : Type 0 where
  pub usable : Usable tally second
  pub room : entries_of tally ≤ row
  pub up : tally.resting ≡ awake
  pub units : tally.bound ≡ 1
