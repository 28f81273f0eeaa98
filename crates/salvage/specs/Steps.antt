-- The walk of the code. Only contracts of private functions and their proofs speak of this; no reader needs it.
use Rattle.std.specs.Prelude.{ℕ, zero, suc, ◌+◌, cond, List, set, Option, Some, None}
use Rattle.ring.specs.Slot.{written}
use Rattle.book.specs.declared.Book.{Book}
use Rattle.book.specs.Record.{largest_of, width_of}
use Rattle.salvage.specs.Altered.{newest_slot, too_large}

-- u, where so many slots are newer than the u-th newest; 0 for none
abbrev pub nth : Option ℕ → ℕ
nth None = 0
nth (Some newer) = suc newer

-- what goes round: the ring, the row of slot numbers, how many are in it, and u where the last of them is the u-th newest slot
pub record Walk : Type 0 where
  pub ring : List ℕ
  pub numbers : List ℕ
  pub count : ℕ
  pub nth : ℕ

-- one slot: a field above z becomes z, and the slot's number goes into the next entry
unfoldable pub step : Book → ℕ → Walk → Walk
step book j walk =
    let slot = newest_slot book j in
    cond (too_large book walk.ring slot)
    (record {
      ring = written (width_of book) walk.ring slot (largest_of book);
      numbers = set walk.numbers walk.count slot;
      count = walk.count + 1;
      nth = j;
    })
    walk

-- the j newest slots, from the oldest of them round to the newest
unfoldable pub walked : Book → ℕ → Walk → Walk
walked book zero walk = walk
walked book (suc j) walk = walked book j (step book (suc j) walk)

-- before the first slot
abbrev pub set_out : List ℕ → List ℕ → Walk
set_out ring numbers = record { ring = ring; numbers = numbers; count = 0; nth = 0 }
