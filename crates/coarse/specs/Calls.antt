-- What the calls that make a book coarser give and leave, for every input, with their refusals in the order of SCOPE, Refusals. The first ring is
-- only read.
use Rattle.std.specs.Prelude.{ℕ, ◌*◌, ◌%◌, not, ◌||◌, List, [], ◌∷◌, ◌++◌, ltb, eqb, length}
use Rattle.refusals.specs.Numbers.{bad_tolerance, cannot_coarsen}
use Rattle.refusals.specs.First.{Fault, ◌gives◌, outside}
use Rattle.refusals.specs.Call.{Call}
use Rattle.book.specs.declared.Book.{Book}
use Rattle.book.specs.Derived.{slot_count, bytes_needed}
use Rattle.book.specs.Calls.{room_fault, book_faults}
use Rattle.sums.specs.Row.{entries_for}
use Rattle.sums.specs.Calls.{RingAndRow, row_fault, with_row}
use Rattle.coarse.specs.declared.told.Coarser.{Coarser}
use Rattle.coarse.specs.Coarsens.{fewest_times, most_times}
use Rattle.coarse.specs.Coarser.{coarsened, coarsened_ring, coarsened_row}

-- the bytes that the second ring takes, and the entries that its row uses: those of a book with tolerance m·D
abbrev pub coarser_bytes : Book → ℕ → ℕ
coarser_bytes book times = bytes_needed book.bound book.length (times * book.tolerance)

abbrev pub coarser_entries : Book → ℕ → ℕ
coarser_entries book times = entries_for (slot_count book.bound book.length (times * book.tolerance))

-- 19: D is no multiple of L, or m is not 2 to 16
abbrev pub times_fault : Book → ℕ → Fault
times_fault book times = (not (eqb (book.tolerance % book.bound) 0) || outside fewest_times most_times times) gives cannot_coarsen

-- 3: m·D is above n·L
abbrev pub tolerance_fault : Book → ℕ → Fault
tolerance_fault book times = ltb (book.length * book.bound) (times * book.tolerance) gives bad_tolerance

-- 8, 4 for the first ring, 19, 3, 4 for the second ring
abbrev pub coarse_faults : Book → ℕ → ℕ → ℕ → List Fault
coarse_faults book lent times second =
    book_faults book lent ++ times_fault book times ∷ tolerance_fault book times ∷ room_fault (coarser_bytes book times) second ∷ []

-- Making a book coarser. It gives the coarser record and the bytes that its ring takes, and leaves that ring in the second one; a refusal hands the
-- record back as it came, with 0 bytes
unfoldable pub coarsen_call : Book → List ℕ → ℕ → List ℕ → Call Coarser (List ℕ)
coarsen_call book ring times second =
    record {
      faults = coarse_faults book (length ring) times (length second);
      given = record { refusal = 0; bytes = coarser_bytes book times; book = coarsened book ring times };
      left = coarsened_ring book ring times second;
      back = λ refusal. record { refusal = refusal; bytes = 0; book = book };
      lent = second;
    }

-- with a row for the new ring: 18 comes last
unfoldable pub coarsen_row_call : Book → List ℕ → ℕ → List ℕ → List ℕ → Call Coarser RingAndRow
coarsen_row_call book ring times second row =
    with_row (coarsen_call book ring times second)
    (coarse_faults book (length ring) times (length second))
    (row_fault (coarser_entries book times) (length row))
    []
    row (coarsened_row book ring times second row)
