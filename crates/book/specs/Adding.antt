-- Adding x to a book: SCOPE, Adding.
use Rattle.std.specs.Prelude.{ℕ, ◌+◌, ◌-◌, ◌*◌, ◌/◌, min, cond, List, ◌==◌}
use Rattle.ring.specs.Slot.{written}
use Rattle.book.specs.declared.Book.{Book}
use Rattle.book.specs.Record.{block_of, slots_of, width_of, record_with}

-- R grows by x
abbrev pub carry_with : Book → ℕ → ℕ
carry_with book item = book.carry + item

-- kept grows by 1 unless it is n
abbrev pub kept_more : Book → ℕ
kept_more book = min book.length (book.kept + 1)

-- head moves on by one, from s − 1 to 0
unfoldable pub slot_after : ℕ → ℕ → ℕ
slot_after slots head = cond (head + 1 == slots) 0 (head + 1)

-- q = floor(R/D)
abbrev pub quotient_of : Book → ℕ → ℕ
quotient_of book item = carry_with book item / book.tolerance

-- the record where p + 1 is not c: the block stays open
abbrev pub added_open : Book → ℕ → Book
added_open book item = record_with book (carry_with book item) (book.phase + 1) (kept_more book) book.head

-- the record where p + 1 is c: the block closes, and R becomes R − q·D
abbrev pub added_closed : Book → ℕ → Book
added_closed book item =
    record_with book (carry_with book item - quotient_of book item * book.tolerance) 0 (kept_more book)
    (slot_after (slots_of book) book.head)

-- the record after adding
unfoldable pub added : Book → ℕ → Book
added book item = cond (book.phase + 1 == block_of book) (added_closed book item) (added_open book item)

-- the ring after adding: where the block closes, q goes into slot head
unfoldable pub added_ring : Book → List ℕ → ℕ → List ℕ
added_ring book ring item =
    cond (book.phase + 1 == block_of book) (written (width_of book) ring book.head (quotient_of book item)) ring
