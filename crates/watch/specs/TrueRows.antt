-- What the rows of a run mean (SCOPE, Program and Demands): the book's items are the scores that the rows print, and each row's total and
-- verdict are true of them.
use Rattle.std.specs.Prelude.{Option, None, Some, ℕ, ◌+◌, ◌≤◌, ◌<◌, min, List, [], ◌∷◌, ◌++◌, ◌≡◌, length}
use Rattle.demands.specs.History.{true_total}
use Rattle.rows.specs.declared.Word.TheVariants as words
use Rattle.watch.specs.declared.Line.{Line}
use Rattle.watch.specs.Setting as setting

-- the score that a row prints; the first frame's has none
abbrev pub score_in : Option ℕ → List ℕ
score_in None = []
score_in (Some score) = score ∷ []

-- the scores of rows, both with the newest first
abbrev pub scores_of : List Line → List ℕ
scores_of [] = []
scores_of (line ∷ earlier) = score_in line.score ++ scores_of earlier

-- a row, where `scores` are its own score and those of the rows before it
pub record TrueRow (scores : List ℕ) (line : Line) : Type 0 where
  -- kept is the number of scores, or n where there are more
  pub kept : line.state.book.kept ≡ min setting.length (length scores)
  -- the total is never above what truly changed over the frames kept, and short of it by less than D
  pub never_above : line.total ≤ true_total line.state.book.kept scores
  pub short_by_less : true_total line.state.book.kept scores < line.total + setting.tolerance
  -- `early` is said exactly while fewer frames are kept than the verdict's window has
  pub early_only : line.word ≡ words.Early → line.state.book.kept < setting.window
  pub early_while : line.state.book.kept < setting.window → line.word ≡ words.Early
  -- `live` and `frozen` mean it of what truly changed over that window
  pub live : line.word ≡ words.Live → setting.amount ≤ true_total setting.window scores
  pub frozen : line.word ≡ words.Frozen → true_total setting.window scores < setting.amount
  -- no row says `resting`
  pub never_resting : line.word ≡ words.Resting → ⊥
