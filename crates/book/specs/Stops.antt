-- Where the walk of "how far back" stops. A device of the code: the contracts of private functions cite it, and no reader needs it.
use Rattle.std.specs.Prelude.{◌≡◌, ℕ, zero, suc, ◌+◌, ◌-◌, ◌*◌, ◌/◌, ◌<◌, ◌≤◌, ◌⊎◌}
use Rattle.ring.specs.Newest.{newest, sum_newest}
use Rattle.book.specs.declared.Book.{Book}
use Rattle.book.specs.declared.distance.Stop.{Stop}
use Rattle.book.specs.Record.{block_of, slots_of}

module _ (book : Book) (held : ℕ → ℕ) where
  -- the carry with D times the j newest slots
  abbrev pub gathered : ℕ → ℕ
  gathered j = book.carry + book.tolerance * sum_newest held (slots_of book) book.head j

  -- the figure where j blocks end
  abbrev pub end_figure : ℕ → ℕ
  end_figure j = gathered j - (book.tolerance - 1)

  -- the quotient of the oldest of j blocks: of the open block, how often its carry passes D
  abbrev pub oldest : ℕ → ℕ
  oldest zero = book.carry / book.tolerance
  oldest (suc j) = held (newest (slots_of book) book.head (suc j))

  -- the walk stops at the first block whose end reaches v, or where all that is kept is behind it
  pub record Stopped (v : ℕ) (stop : Stop) : Type 0 where
    pub total_is : stop.total ≡ gathered stop.blocks
    pub quotient_is : stop.quotient ≡ oldest stop.blocks
    pub earlier : (k : ℕ) → k < stop.blocks → end_figure k < v
    pub done : (v ≤ end_figure stop.blocks) ⊎ (book.kept ≤ book.phase + stop.blocks * block_of book)
    pub few : stop.blocks ≤ slots_of book

-- how far before the end of j blocks a window can lie: the open block has no window of 0
abbrev pub furthest : Book → ℕ → ℕ
furthest book zero = book.phase - 1
furthest book (suc j) = block_of book - 1
