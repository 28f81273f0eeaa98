-- A coarser book: the record and the ring of a book with tolerance m·D, made of one with tolerance D (SCOPE, Coarser). Its own history is not at
-- hand; that every history which gives the old quotients and R leaves these is a theorem (specs/Histories.antt).
-- THE TALLY. m old blocks make one new block, and m times D is passed once for every m times that D is. So the old quotients are the items of a small
-- book that counts in units of D: with L 1, a place for each old slot, and D m. Its ring is the new ring, and its carry is how often D was passed
-- since m·D was last passed before the open block.
use Rattle.std.specs.Prelude.{ℕ, ◌+◌, ◌*◌, List}
use Rattle.ring.specs.Slot.{cleared}
use Rattle.book.specs.declared.Book.{Book}
use Rattle.book.specs.Record.{block_of, slots_of, width_of, opened}
use Rattle.book.specs.RunOfCounts.{added_all, added_all_ring}
use Rattle.sums.specs.Row.{cleared_row, added_all_row}
use Rattle.coarse.specs.Quotients.{blocks_kept, old_quotients}

-- the tally before it has taken anything …
abbrev pub fresh_tally : Book → ℕ → Book
fresh_tally book times = opened 1 (slots_of book) times

abbrev pub fresh_ring : Book → ℕ → List ℕ → List ℕ
fresh_ring book times second = cleared (width_of (fresh_tally book times)) (slots_of (fresh_tally book times)) second

abbrev pub fresh_row : Book → ℕ → List ℕ → List ℕ
fresh_row book times row = cleared_row (slots_of (fresh_tally book times)) row

-- … and after all old quotients
unfoldable pub tally : Book → List ℕ → ℕ → Book
tally book ring times = added_all (fresh_tally book times) (old_quotients book ring)

-- the record: L and n as before, and m·D. The carry has D for each unit of the tally's; the phase has the items of the old blocks that are in the
-- open one; what is kept begins with the oldest wholly kept block; the mark is carried over
unfoldable pub coarsened : Book → List ℕ → ℕ → Book
coarsened book ring times =
    record {
      bound = book.bound;
      length = book.length;
      tolerance = times * book.tolerance;
      carry = book.carry + book.tolerance * (tally book ring times).carry;
      phase = book.phase + (tally book ring times).phase * block_of book;
      kept = book.phase + blocks_kept book * block_of book;
      head = (tally book ring times).head;
      resting = book.resting;
    }

-- the second ring: its first bytes cleared, as many as it takes, and then the tally's quotients in its slots
unfoldable pub coarsened_ring : Book → List ℕ → ℕ → List ℕ → List ℕ
coarsened_ring book ring times second = added_all_ring (fresh_tally book times) (fresh_ring book times second) (old_quotients book ring)

-- the row of running sums, where one is lent: its used entries cleared, and then the sums of the groups that are finished
unfoldable pub coarsened_row : Book → List ℕ → ℕ → List ℕ → List ℕ → List ℕ
coarsened_row book ring times second row =
    added_all_row (fresh_tally book times) (fresh_ring book times second) (fresh_row book times row) (old_quotients book ring)
