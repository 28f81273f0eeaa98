-- States that are rows of bits (SCOPE, No smaller book), and a book that is saved as one.
use Rattle.std.specs.Prelude.{ℕ, ◌≤◌, Bool, List, ◌≡◌, length}
use Rattle.smallest.specs.SolidHistories.{items_of, FullRow}
use Rattle.smallest.specs.Leaving.{Left, left_by_run}
use Rattle.smallest.specs.Storing.{state_after}

-- the state after a solid history never has more than `most` bits
abbrev pub AtMostBits : ℕ → ℕ → ℕ → (List ℕ → List Bool) → ℕ → Type 0
AtMostBits bound n tolerance store most =
    (row : List Bool) → FullRow bound n tolerance row → length (state_after bound n tolerance store row) ≤ most

module _ (bound n tolerance : ℕ) (lent : List ℕ) where
  -- A BOOK IS SAVED: after these items its record and its ring together are written as bits …
  abbrev pub saved : (Left → List Bool) → List ℕ → List Bool
  saved write items = write (left_by_run bound n tolerance lent items)

  -- … in any way in which they can be read back after each solid history
  abbrev pub ReadsBack : (Left → List Bool) → (List Bool → Left) → Type 0
  ReadsBack write read =
      (row : List Bool) → FullRow bound n tolerance row
      → read (saved write (items_of bound n tolerance row)) ≡ left_by_run bound n tolerance lent (items_of bound n tolerance row)
