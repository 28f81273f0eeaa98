-- What a book is left with after a history: the book is opened, and the items are added by one call each (SCOPE, No smaller book).
use Rattle.std.specs.Prelude.{ℕ, List, ◌⊎◌, ◌≡◌}
use Rattle.refusals.specs.Call.{result_of, left_of}
use Rattle.book.specs.declared.Book.{Book}
use Rattle.book.specs.OneByOne.{OneByOne}
use Rattle.book.specs.Calls.{open_call, run_call, total_call}

-- a record and its ring, in one
pub record Left : Type 0 where
  pub book : Book
  pub ring : List ℕ

-- the figure that the call `total` reads off them
abbrev pub figure_from : Left → ℕ → ℕ
figure_from left window = (result_of (total_call left.book left.ring window)).figure

-- A DIFFERENT RECORD OR DIFFERENT RING BYTES
abbrev pub Differ : Left → Left → Type 0
Differ one other = (one.book ≡ other.book → ⊥) ⊎ (one.ring ≡ other.ring → ⊥)

module _ (bound n tolerance : ℕ) (lent : List ℕ) where
  -- what the opening gives and leaves, with L, n, D and this ring
  abbrev pub at_opening : Left
  at_opening = record { book = (result_of (open_call bound n tolerance lent)).book; ring = left_of (open_call bound n tolerance lent) }

  -- FROM THIS OPENING the items, the oldest first, are added by one call each; none is refused; and they leave this
  abbrev pub LeavesBehind : List ℕ → Left → Type 0
  LeavesBehind items left = OneByOne at_opening.book at_opening.ring items left.book left.ring

  -- the same by one run of all items: a run is adding them one by one (promise C-11.1)
  abbrev pub left_by_run : List ℕ → Left
  left_by_run items =
      record {
        book = (result_of (run_call at_opening.book at_opening.ring items)).book;
        ring = left_of (run_call at_opening.book at_opening.ring items);
      }
