-- What each call with a row gives and leaves, for every input: the book's own call with the row beside it. Refusals: 18 directly after 4 (SCOPE,
-- Refusals).
use Rattle.std.specs.Prelude.{ℕ, List, [], ◌∷◌, ◌++◌, ltb, length}
use Rattle.refusals.specs.Numbers.{row_too_short}
use Rattle.refusals.specs.First.{Fault, ◌gives◌}
use Rattle.refusals.specs.Call.{Call}
use Rattle.book.specs.declared.Book.{Book}
use Rattle.book.specs.declared.told.Updated.{Updated}
use Rattle.book.specs.declared.told.Ran.{Ran}
use Rattle.book.specs.Derived.{slot_count, bytes_needed}
use Rattle.book.specs.Shape.{number_faults}
use Rattle.book.specs.Calls.{room_fault, book_faults, rest_fault, item_fault, counts_fault, window_fault, open_call, add_call, run_call}
use Rattle.sums.specs.declared.told.Summed.{Summed}
use Rattle.sums.specs.Row.{entries_for, entries_of, added_row, added_all_row, cleared_row}
use Rattle.sums.specs.Rule.{fields_for, sums_for, figure_by_row}

-- what is lent: the ring's bytes and the row's numbers
pub record RingAndRow : Type 0 where
  pub ring : List ℕ
  pub row : List ℕ

-- 18: the row has fewer entries than there are groups
abbrev pub row_fault : ℕ → ℕ → Fault
row_fault entries lent = ltb lent entries gives row_too_short

-- A call of the book with the row beside it: what it gives, hands back and leaves of the ring is the book's own. `earlier` are its faults up to
-- 4, 18 comes next, then the others; `after` is the row where none of them holds
abbrev pub with_row : {Result : Type 0} → Call Result (List ℕ) → List Fault → Fault → List Fault → List ℕ → List ℕ → Call Result RingAndRow
with_row own earlier short later row after =
    record {
      faults = earlier ++ short ∷ later;
      given = own.given;
      left = record { ring = own.left; row = after };
      back = own.back;
      lent = record { ring = own.lent; row = row };
    }

-- Opening: 1, 2, 3, 4, 18. It clears the used entries of the row
unfoldable pub open_row_call : ℕ → ℕ → ℕ → List ℕ → List ℕ → Call Updated RingAndRow
open_row_call bound n tolerance ring row =
    let slots = slot_count bound n tolerance in
    with_row (open_call bound n tolerance ring)
    (number_faults bound n tolerance ++ room_fault (bytes_needed bound n tolerance) (length ring) ∷ [])
    (row_fault (entries_for slots) (length row))
    []
    row (cleared_row slots row)

-- Adding: 8, 4, 18, 17, 7
unfoldable pub add_row_call : Book → List ℕ → List ℕ → ℕ → Call Updated RingAndRow
add_row_call book ring row item =
    with_row (add_call book ring item)
    (book_faults book (length ring))
    (row_fault (entries_of book) (length row))
    (rest_fault book ∷ item_fault book item ∷ [])
    row (added_row book ring row item)

-- A run of counts: 8, 4, 18, 17, 7
unfoldable pub run_row_call : Book → List ℕ → List ℕ → List ℕ → Call Ran RingAndRow
run_row_call book ring row counts =
    with_row (run_call book ring counts)
    (book_faults book (length ring))
    (row_fault (entries_of book) (length row))
    (rest_fault book ∷ counts_fault book counts ∷ [])
    row (added_all_row book ring row counts)

-- Total: 8, 4, 18, 5. It gives the figure by the rule, and how many fields and stored sums the rule reads
unfoldable pub total_row_call : Book → List ℕ → List ℕ → ℕ → Call Summed RingAndRow
total_row_call book ring row window =
    record {
      faults = book_faults book (length ring) ++ row_fault (entries_of book) (length row) ∷ window_fault book window ∷ [];
      given =
          record {
            refusal = 0;
            figure = figure_by_row book ring row window;
            fields = fields_for book window;
            sums = sums_for book window;
          };
      left = record { ring = ring; row = row };
      back = λ refusal. record { refusal = refusal; figure = 0; fields = 0; sums = 0 };
      lent = record { ring = ring; row = row };
    }
