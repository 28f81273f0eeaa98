-- A run from an opening: the accepted items added one after the other to the book that was opened, and nothing else that changes a book but
-- its mark. What holds of such runs alone stands here, apart from what every good book has; of the mark only that a call sets such a one.
use Rattle.std.specs.Prelude.{ℕ, suc, ◌+◌, ◌*◌, ◌/◌, ◌%◌, ◌≤◌, ◌<◌, min, List, [], ◌∷◌, ◌⊎◌, ◌≡◌, length, get_or, drop}
use Rattle.bits.specs.Row.{bits}
use Rattle.refusals.specs.Call.{refusal_of}
use Rattle.ring.specs.Slot.{cleared}
use Rattle.ring.specs.Newest.{newest}
use Rattle.book.specs.declared.Book.{Book}
use Rattle.book.specs.Derived.{field_width, slot_count, bytes_needed}
use Rattle.book.specs.Resting.{awake, at_rest, marked}
use Rattle.book.specs.Record.{block_of, slots_of, held_in, opened}
use Rattle.book.specs.Adding.{added, added_ring}
use Rattle.book.specs.Calls.{open_call}
use Rattle.demands.specs.History.{older}

-- the record, for a book opened with L, n and D (the newest item comes first in the list)
unfoldable pub replayed : ℕ → ℕ → ℕ → List ℕ → Book
replayed bound n tolerance [] = opened bound n tolerance
replayed bound n tolerance (item ∷ older) = added (replayed bound n tolerance older) item

-- the ring, which was lent with any bytes when the book was opened
unfoldable pub replayed_ring : ℕ → ℕ → ℕ → List ℕ → List ℕ → List ℕ
replayed_ring bound n tolerance lent [] = cleared (field_width bound tolerance) (slot_count bound n tolerance) lent
replayed_ring bound n tolerance lent (item ∷ older) =
    added_ring (replayed bound n tolerance older) (replayed_ring bound n tolerance lent older) item

-- no item is above L
abbrev pub UpTo : ℕ → List ℕ → Type 0
UpTo bound [] = Unit {0}
UpTo bound (item ∷ older) = (item ≤ bound) × UpTo bound older

-- opened with L, n, D and this ring, and every number of the record but its mark, and every byte of the ring, follow from the items: with the
-- mark cleared the record is the replay. The mark is one that opening, resting or waking sets
pub record FromOpening (bound n tolerance : ℕ) (lent : List ℕ) (book : Book) (ring items : List ℕ) : Type 0 where
  pub opening_taken : refusal_of (open_call bound n tolerance lent) ≡ 0
  pub items_small : UpTo bound items
  pub mark_set : (book.resting ≡ awake) ⊎ (book.resting ≡ at_rest)
  pub record_is : marked book awake ≡ replayed bound n tolerance items
  pub ring_is : ring ≡ replayed_ring bound n tolerance lent items

-- L, n and D are those of the opening; kept is the smaller of n and the number of accepted items, and phase and head follow from that
-- number; the carry is what has come in since D was last passed before the open block
pub record RecordFollows (bound n tolerance : ℕ) (book : Book) (items : List ℕ) : Type 0 where
  pub bound_is : book.bound ≡ bound
  pub length_is : book.length ≡ n
  pub tolerance_is : book.tolerance ≡ tolerance
  pub kept_is : book.kept ≡ min n (length items)
  pub phase_is : book.phase ≡ length items % block_of book
  pub head_is : book.head ≡ length items / block_of book % slots_of book
  pub carry_is : book.carry + tolerance * (older book.phase items / tolerance) ≡ older 0 items

-- the j-th newest slot holds how often D was passed while its block came in, for each block of which an item is kept; the bits after the
-- last slot are 0; the bytes from B on are as they were lent
pub record RingFollows (bound n tolerance : ℕ) (lent : List ℕ) (book : Book) (ring items : List ℕ) : Type 0 where
  pub block_in_its_slot : (j : ℕ) → book.phase + j * block_of book < book.kept
      → held_in book ring (newest (slots_of book) book.head (suc j)) + older (book.phase + suc j * block_of book) items / tolerance
      ≡ older (book.phase + j * block_of book) items / tolerance
  pub tail_0 : (i : ℕ) → slot_count bound n tolerance * field_width bound tolerance ≤ i → i < bytes_needed bound n tolerance * 8
      → get_or (bits ring) i 0 ≡ 0
  pub rest_as_lent : drop (bytes_needed bound n tolerance) ring ≡ drop (bytes_needed bound n tolerance) lent
