-- What a coarser book is made of (SCOPE, Coarser): the quotients of the blocks that are wholly kept, the oldest first.
use Rattle.std.specs.Prelude.{ℕ, zero, suc, ◌-◌, ◌/◌, List, [], ◌∷◌}
use Rattle.ring.specs.Newest.{newest}
use Rattle.book.specs.declared.Book.{Book}
use Rattle.book.specs.Record.{block_of, slots_of, held_in}

-- J, the blocks of which every item is kept: floor((kept − p)/c)
abbrev pub blocks_kept : Book → ℕ
blocks_kept book = (book.kept - book.phase) / block_of book

-- the quotients of the j newest blocks, the oldest of these first
unfoldable pub quotients : Book → List ℕ → ℕ → List ℕ
quotients book ring zero = []
quotients book ring (suc j) = held_in book ring (newest (slots_of book) book.head (suc j)) ∷ quotients book ring j

-- the old quotients: those of the J blocks
abbrev pub old_quotients : Book → List ℕ → List ℕ
old_quotients book ring = quotients book ring (blocks_kept book)
