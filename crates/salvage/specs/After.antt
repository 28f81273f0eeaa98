-- Short names for what a call of salvage gives and leaves.
use Rattle.std.specs.Prelude.{ℕ, List}
use Rattle.refusals.specs.Call.{result_of, left_of}
use Rattle.book.specs.declared.Book.{Book}
use Rattle.sums.specs.Calls.{RingAndRow}
use Rattle.salvage.specs.Calls.{RingNumbersAndRow, salvage_call, salvage_row_call}

module _ (book : Book) (ring numbers : List ℕ) where
  -- the record that the call gives and the ring that it leaves …
  abbrev pub book_after : Book
  book_after = (result_of (salvage_call book ring numbers)).book

  abbrev pub ring_after : List ℕ
  ring_after = (left_of (salvage_call book ring numbers)).ring

  -- … and with a row of running sums: all that it leaves, and ring and row together
  abbrev pub book_after_row : List ℕ → Book
  book_after_row row = (result_of (salvage_row_call book ring numbers row)).book

  abbrev pub left_after_row : List ℕ → RingNumbersAndRow
  left_after_row row = left_of (salvage_row_call book ring numbers row)

  abbrev pub both_after : List ℕ → RingAndRow
  both_after row = record { ring = (left_after_row row).ring; row = (left_after_row row).row }
