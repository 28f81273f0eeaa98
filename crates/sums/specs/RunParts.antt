-- A run of counts in parts. A device of the code: the contracts of private functions cite it, and no reader needs it.
use Rattle.std.specs.Prelude.{ℕ, ◌-◌, ◌*◌, ◌≤◌, false, List, ◌≡◌, ◌≢◌}
use Rattle.refusals.specs.Numbers.{book_rests}
use Rattle.refusals.specs.Refused.{number_of}
use Rattle.ring.specs.Slot.{field}
use Rattle.book.specs.declared.Book.{Book}
use Rattle.book.specs.declared.RunRefusal.{RunRefusal}
use Rattle.book.specs.declared.RunRefusal.TheVariants.{Refused, CountTooLarge}
use Rattle.book.specs.declared.shape.Shape.{Shape}
use Rattle.book.specs.Resting.{awake}
use Rattle.book.specs.declared.known.Known.{Known}
use Rattle.book.specs.Record.{block_of, slots_of}
use Rattle.book.specs.RunOfCounts.{any_above, FirstAbove}
use Rattle.sums.specs.Row.{entries_for, group_end, sum_to}
use Rattle.sums.specs.Rule.{stored_at}

-- how many items come until the last slot of head's group is written
unfoldable pub items_left : Book → ℕ
items_left book = (group_end (slots_of book) book.head - book.head) * block_of book - book.phase

-- a judged book that takes these counts, where so many bytes of the ring and so many numbers of the row are lent
pub record Taking (known : Known) (ring row : ℕ) (counts : List ℕ) : Type 0 where
  pub ring_room : known.shape.bytes ≤ ring
  pub row_room : entries_for known.shape.slots ≤ row
  pub up : known.book.resting ≡ awake
  pub small : any_above known.book.bound counts ≡ false

-- the row has the sum of the present fields up to this end
abbrev pub Stands : Shape → List ℕ → List ℕ → ℕ → Type 0
Stands shape ring row end = stored_at row end ≡ sum_to (field shape.width ring) end

-- why a run that passes 8, 4 and 18 is refused: the book rests, or a count is above L
abbrev pub RefusedFor : Book → List ℕ → RunRefusal → Type 0
RefusedFor book counts (Refused refusal) = (book.resting ≢ awake) × (number_of refusal ≡ book_rests)
RefusedFor book counts (CountTooLarge place) = (book.resting ≡ awake) × FirstAbove book.bound counts place
