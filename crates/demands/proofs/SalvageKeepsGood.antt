-- SALVAGED, A BOOK IS GOOD where all fields that were left are true (SCOPE, Salvage), with the items that it had: kept is as salvage shortens it,
-- and demands 2 and 3 hold of it from then on. With a row it is kept with that row. Totals by the rebuilt row are the walk's, of any book.
-- Assumes nothing.
use Prim.Native.Nat.{ℕ}
use mathlib.Core.List.{List}
use mathlib.Core.Path.{◌≡◌, ap, ◌∙◌}
use Rattle.refusals.specs.Call.{refusal_of, result_of, left_of}
use Rattle.book.specs.declared.Book.{Book}
use Rattle.sums.specs.Calls.{RingAndRow, add_row_call}
use Rattle.sums.specs.OneByOne.{OneByOne, none, first}
use Rattle.salvage.specs.declared.told.Salvaged.{Salvaged}
use Rattle.salvage.specs.Altered.{how_new}
use Rattle.salvage.specs.Salvaged.{kept_for}
use Rattle.salvage.specs.Calls.{salvage_call, salvage_row_call}
use Rattle.salvage.specs.After.{book_after, ring_after, book_after_row, both_after}
use Rattle.salvage.proofs.Promises.{salvage_refused, salvage_row_refused}
use Rattle.salvage.proofs.Promises.{salvage_gives, salvage_row_known, salvaged_is}
use Rattle.demands.specs.History.{Good, salvaging}
use Rattle.demands.specs.HistoryWithRow.{GoodWithRow}
use Rattle.demands.specs.HistoryWithRow as with_row
use Rattle.demands.specs.DemandsWithRow.{SameTotal}
use Rattle.demands.specs.SalvagedBooks.{FieldsTrue, SalvagedGood, SalvagedGoodWithRow}
use Rattle.demands.proofs.Demand2.{demand_2}
use Rattle.demands.proofs.Demand3.{demand_3}
use Rattle.demands.proofs.RowsKept.{RowWithRoom, item_keeps_row, salvage_keeps_row, salvage_row_same}
use Rattle.demands.proofs.RowsKept.{same_total_kept, demand_2_with_row, demand_3_with_row}

-- what is kept then
kept_then : (book : Book) (ring numbers : List ℕ) → refusal_of (salvage_call book ring numbers) ≡ 0
    → (book_after book ring numbers).kept ≡ kept_for book (how_new book ring)
kept_then book ring numbers taken =
    ap (λ (b : Book). b.kept) (ap (λ (r : Salvaged). r.book) (salvage_gives book ring numbers taken).0 ∙ salvaged_is book ring)

module _ (book : Book) (ring items : List ℕ) (fields : FieldsTrue book ring items) (numbers : List ℕ) where
  -- the same items, and the demands with the kept that it has then
  pub salvage_keeps_good : refusal_of (salvage_call book ring numbers) ≡ 0 → SalvagedGood book ring numbers items
  salvage_keeps_good taken =
      let after = salvaging book ring fields.truth items fields.good fields.left_true numbers taken in
      record {
        good = after;
        kept_is = kept_then book ring numbers taken;
        demand_2 = demand_2 _ _ _ after;
        demand_3 = demand_3 _ _ _ after;
      }

  -- WITH A ROW, which is rebuilt
  pub salvage_row_keeps_good : (row : List ℕ) → refusal_of (salvage_row_call book ring numbers row) ≡ 0
      → SalvagedGoodWithRow book ring numbers row items
  salvage_row_keeps_good row taken =
      let after = with_row.salvaging book ring fields.truth items fields.good fields.left_true numbers row taken in
      let same = salvage_row_same book ring numbers row taken in
      record {
        good = after;
        kept_is = ap (λ (b : Book). b.kept) same.0 ∙ kept_then book ring numbers (salvage_row_known book ring numbers row taken).0;
        demand_2 = demand_2_with_row _ _ _ after;
        demand_3 = demand_3_with_row _ _ _ after;
      }

-- REFUSED, a good book is as good as it was, with its row and without
pub refused_salvage_stays_good : (book : Book) (ring items : List ℕ) → Good book ring items → (numbers : List ℕ)
    → (refusal_of (salvage_call book ring numbers) ≡ 0 → ⊥) → Good (book_after book ring numbers) (ring_after book ring numbers) items
refused_salvage_stays_good book ring items good numbers some =
    let back = salvage_refused book ring numbers some in
    rw (back.0, back.1) good

pub refused_salvage_keeps_row : (book : Book) (ring row items : List ℕ) → GoodWithRow book (record { ring = ring; row = row }) items
    → (numbers : List ℕ) → (refusal_of (salvage_row_call book ring numbers row) ≡ 0 → ⊥)
    → GoodWithRow (book_after_row book ring numbers row) (both_after book ring numbers row) items
refused_salvage_keeps_row book ring row items good numbers some =
    let back = salvage_row_refused book ring numbers row some in
    rw (back.0, back.1) good

-- TOTALS BY THE REBUILT ROW, of any book, good or not. A row with room that is kept stays so while items are added with it
items_keep_row : (book : Book) (lent : RingAndRow) (counts : List ℕ) (last : Book) (left : RingAndRow) → OneByOne book lent counts last left
    → RowWithRoom book lent → RowWithRoom last left
items_keep_row book lent counts last left (none b l) row = row
items_keep_row book lent counts last left (first b l count later m n taken rest) row =
    items_keep_row (result_of (add_row_call b l.ring l.row count)).book (left_of (add_row_call b l.ring l.row count)) later m n rest
    (item_keeps_row b l row count taken)

-- so they are the walk's, then and after further items
pub salvaged_totals : (book : Book) (ring numbers row : List ℕ) → refusal_of (salvage_row_call book ring numbers row) ≡ 0
    → (counts : List ℕ) (last : Book) (left : RingAndRow)
    → OneByOne (book_after_row book ring numbers row) (both_after book ring numbers row) counts last left
    → (window : ℕ) → SameTotal last left window
salvaged_totals book ring numbers row taken counts last left adds window =
    let then = items_keep_row (book_after_row book ring numbers row) (both_after book ring numbers row) counts last left adds
    (salvage_keeps_row book ring numbers row taken) in
    same_total_kept last left then.room then.kept window
