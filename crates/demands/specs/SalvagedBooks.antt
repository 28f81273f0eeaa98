-- What a book is after salvage (SCOPE, Salvage): where all fields that it left were true, a good one, with the same items, so that demands 2 and 3
-- hold of it for the windows that are kept then.
use Rattle.std.specs.Prelude.{ℕ, ◌<◌, List, ◌≡◌}
use Rattle.book.specs.declared.Book.{Book}
use Rattle.salvage.specs.Altered.{how_new}
use Rattle.salvage.specs.Salvaged.{kept_for}
use Rattle.salvage.specs.After.{book_after, ring_after, book_after_row, both_after}
use Rattle.demands.specs.LeftTrue.{LeftTrue}
use Rattle.demands.specs.History.{Good}
use Rattle.demands.specs.HistoryWithRow.{GoodWithRow}
use Rattle.demands.specs.Demand2.{Demand2}
use Rattle.demands.specs.Demand3.{Demand3}
use Rattle.demands.specs.DemandsWithRow.{Demand2WithRow}

-- ALL FIELDS IT LEFT WERE TRUE: there is a good book with this record and these items, and the ring that salvage goes through agrees with its ring
-- in every slot that is not altered, among those of which an item is kept
pub record FieldsTrue (book : Book) (ring items : List ℕ) : Type 0 where
  pub truth : List ℕ
  pub good : Good book truth items
  pub left_true : LeftTrue book ring truth

module _ (book : Book) (ring numbers : List ℕ) where
  -- A SALVAGED BOOK that is good, with the same items: demands 2 and 3 hold with the kept that it has then
  pub record SalvagedGood (items : List ℕ) : Type 0 where
    pub good : Good (book_after book ring numbers) (ring_after book ring numbers) items
    pub kept_is : (book_after book ring numbers).kept ≡ kept_for book (how_new book ring)
    pub demand_2 : Demand2 (book_after book ring numbers) (ring_after book ring numbers) items
    pub demand_3 : (v : ℕ) → 0 < v → Demand3 (book_after book ring numbers) (ring_after book ring numbers) items v

  -- with a row it is kept with that row from then on
  pub record SalvagedGoodWithRow (row items : List ℕ) : Type 0 where
    pub good : GoodWithRow (book_after_row book ring numbers row) (both_after book ring numbers row) items
    pub kept_is : (book_after_row book ring numbers row).kept ≡ kept_for book (how_new book ring)
    pub demand_2 : Demand2WithRow (book_after_row book ring numbers row) (both_after book ring numbers row) items
    pub demand_3 : (v : ℕ) → 0 < v → Demand3 (book_after_row book ring numbers row) (both_after book ring numbers row).ring items v
