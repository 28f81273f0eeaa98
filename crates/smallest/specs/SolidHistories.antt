-- The histories of SCOPE, No smaller book: each block of ceil(D/L) items has nothing but 0 or nothing but L in it, and what is left over behind the
-- last block is 0. Such a block is called solid here: the blocks of a book (c, SCOPE, Numbers) are another thing, and may be one item shorter.
use Rattle.std.specs.Prelude.{ℕ, ◌/◌, ◌%◌, Bool, cond, List, [], ◌∷◌, ◌++◌, ◌≡◌, length, replicate}
use Rattle.book.specs.Derived.{ceil_div}

-- how many items a solid block has: ceil(D/L)
abbrev pub solid_length : ℕ → ℕ → ℕ
solid_length bound tolerance = ceil_div tolerance bound

-- how many solid blocks n items make: floor(n/ceil(D/L))
abbrev pub solid_count : ℕ → ℕ → ℕ → ℕ
solid_count bound n tolerance = n / solid_length bound tolerance

-- and how many items are left over
abbrev pub leftover : ℕ → ℕ → ℕ → ℕ
leftover bound n tolerance = n % solid_length bound tolerance

module _ (bound n tolerance : ℕ) where
  -- a solid block: with true all of its items are L, with false all are 0
  abbrev pub solid : Bool → List ℕ
  solid bit = replicate (solid_length bound tolerance) (cond bit bound 0)

  -- a history by its row of bits, one for each block, the oldest first: block after block, and at the end the leftover items, which are 0
  unfoldable pub items_of : List Bool → List ℕ
  items_of [] = replicate (leftover bound n tolerance) 0
  items_of (bit ∷ later) = solid bit ++ items_of later

  -- a row with a bit for each block
  abbrev pub FullRow : List Bool → Type 0
  FullRow row = length row ≡ solid_count bound n tolerance

  -- SOLID HISTORIES: the items, the oldest first, are those of such a row
  pub record SolidHistory (items : List ℕ) : Type 0 where
    pub row : List Bool
    pub full : FullRow row
    pub items_are : items ≡ items_of row
