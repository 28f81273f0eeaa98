-- A book kept with a row of running sums (SCOPE, Running sums), with the items that it accepted since its opening: what the demands ask for of calls
-- with a row, beside a good start.
use Rattle.std.specs.Prelude.{ℕ, List, [], ◌∷◌, ◌⊎◌, ◌≡◌}
use Rattle.refusals.specs.Call.{Call, refusal_of, result_of, left_of}
use Rattle.book.specs.declared.Book.{Book}
use Rattle.book.specs.Calls.{rest_call, wake_call}
use Rattle.sums.specs.Calls.{RingAndRow, open_row_call, add_row_call}
use Rattle.coarse.specs.Calls.{coarsen_row_call}
use Rattle.salvage.specs.Calls.{salvage_row_call}
use Rattle.salvage.specs.After.{book_after_row, both_after}
use Rattle.demands.specs.LeftTrue.{LeftTrue}
use Rattle.demands.specs.History.{Upon, OnlyAsks, Good}

-- GoodWithRow book lent items: the record, and ring and row in `lent`, as the last call left them, and all accepted items, the newest first.
-- It is opened with the row, or a good book was made coarser with the row, or a ring was salvaged with the row, whether the book had been kept
-- with a row or not: its old row is not looked at.
-- Every item since is taken with the row, as the last call left it; resting and waking leave ring, row and items; and there may be any call upon
-- record, ring and row that is refused or only asks.
-- A run of counts with a row comes to its items, one by one.
pub data GoodWithRow : Book → RingAndRow → List ℕ → Type 0 where
  start : (bound n tolerance : ℕ) (lent : RingAndRow) → refusal_of (open_row_call bound n tolerance lent.ring lent.row) ≡ 0
      → GoodWithRow (result_of (open_row_call bound n tolerance lent.ring lent.row)).book
      (left_of (open_row_call bound n tolerance lent.ring lent.row)) []
  adding : (book : Book) (lent : RingAndRow) (items : List ℕ) → GoodWithRow book lent items → (item : ℕ)
      → refusal_of (add_row_call book lent.ring lent.row item) ≡ 0
      → GoodWithRow (result_of (add_row_call book lent.ring lent.row item)).book (left_of (add_row_call book lent.ring lent.row item))
      (item ∷ items)
  resting : (book : Book) (lent : RingAndRow) (items : List ℕ) → GoodWithRow book lent items → refusal_of (rest_call book) ≡ 0
      → GoodWithRow (result_of (rest_call book)).book lent items
  waking : (book : Book) (lent : RingAndRow) (items : List ℕ) → GoodWithRow book lent items → refusal_of (wake_call book) ≡ 0
      → GoodWithRow (result_of (wake_call book)).book lent items
  coarsening : (book : Book) (ring items : List ℕ) → Good book ring items → (times : ℕ) (second : RingAndRow)
      → refusal_of (coarsen_row_call book ring times second.ring second.row) ≡ 0
      → GoodWithRow (result_of (coarsen_row_call book ring times second.ring second.row)).book
      (left_of (coarsen_row_call book ring times second.ring second.row)) items
  salvaging : (book : Book) (ring truth items : List ℕ) → Good book truth items → LeftTrue book ring truth → (numbers row : List ℕ)
      → refusal_of (salvage_row_call book ring numbers row) ≡ 0
      → GoodWithRow (book_after_row book ring numbers row) (both_after book ring numbers row) items
  otherwise : (book : Book) (lent : RingAndRow) (items : List ℕ) → GoodWithRow book lent items → (call : Call Book RingAndRow) → Upon book lent call
      → (refusal_of call ≡ 0 → ⊥) ⊎ OnlyAsks book lent call → GoodWithRow (result_of call) (left_of call) items

-- a call that is lent the ring alone, with the row left beside it as it is
abbrev pub row_aside : {Result : Type 0} → List ℕ → Call Result (List ℕ) → Call Result RingAndRow
row_aside row call =
    record {
      faults = call.faults;
      given = call.given;
      left = record { ring = call.left; row = row };
      back = call.back;
      lent = record { ring = call.lent; row = row };
    }
