-- The record of a book (SCOPE, Record): L, n, D, the carry R, the phase p, kept, head and the resting mark. Its derived numbers, and how
-- adding makes a changed record.
use Rattle.std.specs.Prelude.{ℕ, List}
use Rattle.ring.specs.Slot.{field}
use Rattle.book.specs.declared.Book.{Book}
use Rattle.book.specs.declared.shape.Shape.{Shape}
use Rattle.book.specs.Derived.{block_length, slot_count, largest_quotient, field_width, bytes_needed}
use Rattle.book.specs.Shape.{shape_of}
use Rattle.book.specs.Resting.{awake}

-- c, s, z, b and B of a record, together and each by itself
abbrev pub shape_for : Book → Shape
shape_for book = shape_of book.bound book.length book.tolerance

abbrev pub block_of : Book → ℕ
block_of book = block_length book.bound book.tolerance

abbrev pub slots_of : Book → ℕ
slots_of book = slot_count book.bound book.length book.tolerance

abbrev pub largest_of : Book → ℕ
largest_of book = largest_quotient book.bound book.tolerance

abbrev pub width_of : Book → ℕ
width_of book = field_width book.bound book.tolerance

abbrev pub bytes_of : Book → ℕ
bytes_of book = bytes_needed book.bound book.length book.tolerance

-- what the slots of a book's ring hold
abbrev pub held_in : Book → List ℕ → ℕ → ℕ
held_in book ring = field (width_of book) ring

-- the record with another carry, phase, kept and head: what adding changes
abbrev pub record_with : Book → ℕ → ℕ → ℕ → ℕ → Book
record_with book carry phase kept head =
    record {
      bound = book.bound;
      length = book.length;
      tolerance = book.tolerance;
      carry = carry;
      phase = phase;
      kept = kept;
      head = head;
      resting = book.resting;
    }

-- the record that opening makes: R, p, kept and head are 0, and so is the mark
abbrev pub opened : ℕ → ℕ → ℕ → Book
opened bound length tolerance =
    record { bound = bound; length = length; tolerance = tolerance; carry = 0; phase = 0; kept = 0; head = 0; resting = awake }

-- the record of all zeros
abbrev pub no_book_at_all : Book
no_book_at_all = opened 0 0 0
