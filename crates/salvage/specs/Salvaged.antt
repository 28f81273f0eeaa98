-- What salvage leaves (SCOPE, Salvage): the ring, the row of slot numbers and the record.
use Rattle.std.specs.Prelude.{ℕ, zero, suc, ◌+◌, ◌-◌, ◌*◌, min, List, [], ◌∷◌, ◌++◌, length, drop}
use Rattle.bits.specs.Row.{with_part}
use Rattle.ring.specs.Slot.{written}
use Rattle.book.specs.declared.Book.{Book}
use Rattle.book.specs.Record.{block_of, slots_of, largest_of, width_of, bytes_of, record_with}
use Rattle.salvage.specs.Altered.{altered, how_new}

-- THE RING: z goes into each of these slots …
unfoldable pub capped : Book → List ℕ → List ℕ → List ℕ
capped book ring [] = ring
capped book ring (slot ∷ later) = capped book (written (width_of book) ring slot (largest_of book)) later

-- … and 0 into the bits after the last slot, up to the end of byte B − 1
unfoldable pub tail_cleared : Book → List ℕ → List ℕ
tail_cleared book ring = with_part (slots_of book * width_of book) (bytes_of book * 8 - slots_of book * width_of book) 0 ring

unfoldable pub salvaged_ring : Book → List ℕ → List ℕ
salvaged_ring book ring = tail_cleared book (capped book ring (altered book ring))

-- THE ROW OF SLOT NUMBERS: these go into its first entries, and its other entries stay
abbrev pub listed : List ℕ → List ℕ → List ℕ
listed slots numbers = slots ++ drop (length slots) numbers

-- KEPT: as it is where no slot is altered, and otherwise the smaller of kept and p + (u − 1)·c
unfoldable pub kept_for : Book → ℕ → ℕ
kept_for book zero = book.kept
kept_for book (suc newer) = min book.kept (book.phase + newer * block_of book)

-- THE RECORD: nothing but kept changes, and the mark stays
unfoldable pub salvaged_record : Book → List ℕ → Book
salvaged_record book ring = record_with book book.carry book.phase (kept_for book (how_new book ring)) book.head
