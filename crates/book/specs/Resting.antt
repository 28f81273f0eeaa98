-- The resting mark of a record: SCOPE, Dark hours.
use Rattle.std.specs.Prelude.{ℕ, Bool, nat_lt}
use Rattle.book.specs.declared.Book.{Book}

-- the mark of a book that is awake, which opening gives and waking sets …
abbrev pub awake : ℕ
awake = 0

-- … and the one that resting sets
abbrev pub at_rest : ℕ
at_rest = 1

-- a book rests where its mark is above 0: any number but 0 is a mark of rest
abbrev pub rests : Book → Bool
rests book = nat_lt awake book.resting

-- the record with another mark, and nothing else in it changed
abbrev pub marked : Book → ℕ → Book
marked book mark =
    record {
      bound = book.bound;
      length = book.length;
      tolerance = book.tolerance;
      carry = book.carry;
      phase = book.phase;
      kept = book.kept;
      head = book.head;
      resting = mark;
    }
