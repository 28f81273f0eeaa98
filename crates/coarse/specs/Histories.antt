-- THE SENTENCE OF THE REQUEST (SCOPE, Coarser): the coarser record and ring are those of a fresh book had the history begun at the oldest wholly kept
-- block, with the carry at some remainder below D. Which histories are meant, and what it is that they leave.
use Rattle.std.specs.Prelude.{ℕ, ◌+◌, ◌*◌, ◌<◌, false, cond, List, [], ◌∷◌, ◌≡◌, eqb, length}
use Rattle.refusals.specs.Call.{result_of, left_of}
use Rattle.ring.specs.Slot.{cleared}
use Rattle.book.specs.declared.Book.{Book}
use Rattle.book.specs.Derived.{field_width, slot_count}
use Rattle.book.specs.Resting.{marked}
use Rattle.book.specs.Record.{block_of, record_with, opened}
use Rattle.book.specs.Adding.{quotient_of, added}
use Rattle.book.specs.RunOfCounts.{any_above, added_all}
use Rattle.book.specs.OneByOne.{OneByOne}
use Rattle.sums.specs.Row.{cleared_row}
use Rattle.sums.specs.OneByOne as with_row
use Rattle.coarse.specs.Quotients.{blocks_kept, old_quotients}
use Rattle.coarse.specs.Calls.{coarsen_call, coarsen_row_call}

-- the record of a fresh book whose carry starts at r
abbrev pub started_at : ℕ → ℕ → ℕ → ℕ → Book
started_at bound n tolerance r = record_with (opened bound n tolerance) r 0 0 0

-- the quotients with which blocks close while a book takes items one after the other: each goes into slot head (SCOPE, Adding)
unfoldable pub closings : Book → List ℕ → List ℕ
closings book [] = []
closings book (item ∷ later) =
    cond (eqb (book.phase + 1) (block_of book)) (quotient_of book item ∷ closings (added book item) later) (closings (added book item) later)

-- THE OLD BOOK as it was at the oldest wholly kept block, had its history begun there with the carry at r …
abbrev pub begun : Book → ℕ → Book
begun book r = started_at book.bound book.length book.tolerance r

-- … and a fresh book of tolerance m·D that began there in its stead, in the second ring and with a row of its own
abbrev pub begun_coarser : Book → ℕ → ℕ → Book
begun_coarser book times r = started_at book.bound book.length (times * book.tolerance) r

abbrev pub begun_ring : Book → ℕ → List ℕ → List ℕ
begun_ring book times second =
    cleared (field_width book.bound (times * book.tolerance)) (slot_count book.bound book.length (times * book.tolerance)) second

abbrev pub begun_row : Book → ℕ → List ℕ → List ℕ
begun_row book times row = cleared_row (slot_count book.bound book.length (times * book.tolerance)) row

module _ (book : Book) (ring : List ℕ) where
  -- A HISTORY THAT GIVES THE OLD QUOTIENTS AND R: it begins with a remainder r below D and has J·c + p items, of which none is above L. With them
  -- blocks close with the old quotients, and R is the carry in the end
  pub record Gives (r : ℕ) (items : List ℕ) : Type 0 where
    pub below : r < book.tolerance
    pub count_is : length items ≡ blocks_kept book * block_of book + book.phase
    pub items_small : any_above book.bound items ≡ false
    pub quotients_are : closings (begun book r) items ≡ old_quotients book ring
    pub carry_is : (added_all (begun book r) items).carry ≡ book.carry

  -- there is one
  pub record SomeHistory : Type 0 where
    pub start : ℕ
    pub items : List ℕ
    pub gives : Gives start items

  module _ (times : ℕ) (second : List ℕ) where
    -- WHAT THE CALL GIVES AND LEAVES is what the fresh book comes to, when the history is added to it one by one and no item is refused; but for the
    -- mark, which is the old book's
    pub record AsFresh (r : ℕ) (items : List ℕ) : Type 0 where
      pub last : Book
      pub adding : OneByOne (begun_coarser book times r) (begun_ring book times second) items last (left_of (coarsen_call book ring times second))
      pub record_is : (result_of (coarsen_call book ring times second)).book ≡ marked last book.resting

    -- the same with a row
    pub record AsFreshWithRow (row : List ℕ) (r : ℕ) (items : List ℕ) : Type 0 where
      pub last : Book
      pub adding : with_row.OneByOne (begun_coarser book times r) (record { ring = begun_ring book times second; row = begun_row book times row }) items
          last (left_of (coarsen_row_call book ring times second row))
      pub record_is : (result_of (coarsen_row_call book ring times second row)).book ≡ marked last book.resting
