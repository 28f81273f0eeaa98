-- What both calls of salvage give and leave, for every input, with their refusals in the order of SCOPE, Refusals. The mark is not asked for.
use Rattle.std.specs.Prelude.{ℕ, List, [], ◌∷◌, ◌++◌, ltb, length}
use Rattle.refusals.specs.Numbers.{numbers_too_short}
use Rattle.refusals.specs.First.{Fault, ◌gives◌}
use Rattle.refusals.specs.Call.{Call}
use Rattle.book.specs.declared.Book.{Book}
use Rattle.book.specs.Record.{slots_of, held_in}
use Rattle.book.specs.Calls.{book_faults}
use Rattle.sums.specs.Row.{entries_of}
use Rattle.sums.specs.Calls.{row_fault}
use Rattle.salvage.specs.declared.told.Salvaged.{Salvaged}
use Rattle.salvage.specs.Altered.{altered}
use Rattle.salvage.specs.Salvaged.{salvaged_ring, listed, salvaged_record}
use Rattle.salvage.specs.Rebuilt.{rebuilt_row}

-- what is lent: the ring's bytes and the row of slot numbers …
pub record RingAndNumbers : Type 0 where
  pub ring : List ℕ
  pub numbers : List ℕ

-- … and the row of running sums
pub record RingNumbersAndRow : Type 0 where
  pub ring : List ℕ
  pub numbers : List ℕ
  pub row : List ℕ

-- 21: the row of slot numbers has fewer than s entries
abbrev pub numbers_fault : Book → ℕ → Fault
numbers_fault book lent = ltb lent (slots_of book) gives numbers_too_short

-- Salvage: 8, 4, 21. It gives how many slots are altered and the record to go on with; a refusal hands the record back as it came, with 0 slots
unfoldable pub salvage_call : Book → List ℕ → List ℕ → Call Salvaged RingAndNumbers
salvage_call book ring numbers =
    record {
      faults = book_faults book (length ring) ++ numbers_fault book (length numbers) ∷ [];
      given = record { refusal = 0; count = length (altered book ring); book = salvaged_record book ring };
      left = record { ring = salvaged_ring book ring; numbers = listed (altered book ring) numbers };
      back = λ refusal. record { refusal = refusal; count = 0; book = book };
      lent = record { ring = ring; numbers = numbers };
    }

-- with a row of running sums: 18 comes last, and the row is rebuilt from the fields that the ring has then
unfoldable pub salvage_row_call : Book → List ℕ → List ℕ → List ℕ → Call Salvaged RingNumbersAndRow
salvage_row_call book ring numbers row =
    record {
      faults = book_faults book (length ring) ++ numbers_fault book (length numbers) ∷ row_fault (entries_of book) (length row) ∷ [];
      given = record { refusal = 0; count = length (altered book ring); book = salvaged_record book ring };
      left =
          record {
            ring = salvaged_ring book ring;
            numbers = listed (altered book ring) numbers;
            row = rebuilt_row (slots_of book) (held_in book (salvaged_ring book ring)) row;
          };
      back = λ refusal. record { refusal = refusal; count = 0; book = book };
      lent = record { ring = ring; numbers = numbers; row = row };
    }
