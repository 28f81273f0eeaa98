-- Adding counts one by one with a row, by the call `add` with the row: what a run with a row is held to.
use Rattle.std.specs.Prelude.{ℕ, List, [], ◌∷◌, ◌≡◌}
use Rattle.refusals.specs.Call.{refusal_of, result_of, left_of}
use Rattle.book.specs.declared.Book.{Book}
use Rattle.sums.specs.Calls.{RingAndRow, add_row_call}

-- OneByOne book lent counts last left: beginning with `book` and with ring and row as in `lent`, the counts are added by one call each, every call
-- with the record, the ring and the row as the one before it gave and left them; none is refused; and the last one gives `last` and leaves `left`.
-- Without counts there is no call, and these are `book` and `lent`
pub data OneByOne : Book → RingAndRow → List ℕ → Book → RingAndRow → Type 0 where
  none : (book : Book) (lent : RingAndRow) → OneByOne book lent [] book lent
  first : (book : Book) (lent : RingAndRow) (count : ℕ) (later : List ℕ) (last : Book) (left : RingAndRow)
      → refusal_of (add_row_call book lent.ring lent.row count) ≡ 0
      → OneByOne (result_of (add_row_call book lent.ring lent.row count)).book (left_of (add_row_call book lent.ring lent.row count)) later last left
      → OneByOne book lent (count ∷ later) last left
