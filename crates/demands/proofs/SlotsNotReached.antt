-- The slots that no block has reached, of a book that has taken all its items since its opening: they hold 0, as they were cleared.
-- Assumes nothing.
use Prim.Native.Nat.{ℕ, suc, ◌+◌, ◌*◌, ◌%◌, ◌^◌, ◌≤◌, ◌<◌}
use native.Mathlib.Nat.{mod-eq_of_lt, mul_comm, lt_of_mul-lt-mul_left, zero-add}
use native.Mathlib.Omega.{arith}
use mathlib.Core.List.{List, [], ◌∷◌}
use mathlib.Core.Logic.{◌≢◌}
use mathlib.Core.Path.{◌≡◌, sym, ◌∙◌}
use lib.ListN.{length}
use Rattle.ring.specs.Slot.{cleared}
use Rattle.ring.proofs.Promises.{Lent, cleared_reads_0, other_stays}
use Rattle.book.specs.declared.Book.{Book}
use Rattle.book.specs.Derived.{field_width, slot_count}
use Rattle.book.specs.Record.{block_of, slots_of, width_of, held_in, opened}
use Rattle.book.specs.Sound.{Usable}
use Rattle.book.specs.Adding.{quotient_of, added, added_ring}
use Rattle.book.proofs.Promises.{book_lent, adding_cases, quotient_in, Counted, counted_fresh, counted_more}
use Rattle.demands.specs.History.{after_run}

-- how many items there are after a run
pub length_after : (counts items : List ℕ) → length (after_run counts items) ≡ length counts + length items
unfolding after_run
length_after [] items = sym (zero-add (length items))
length_after (count ∷ later) items = length_after later (count ∷ items) ∙ omega arith

-- the block that goes into a slot is not closed while the items are fewer than all blocks up to it have
pub record NotReached (book : Book) (ring items : List ℕ) : Type 0 where
  pub counted : Counted book (length items)
  pub rest : (slot : ℕ) → length items < (slot + 1) * block_of book → slot < slots_of book → held_in book ring slot ≡ 0

-- a fresh book
pub fresh_not_reached : (bound n tolerance : ℕ) (lent : List ℕ) → Lent (field_width bound tolerance) (slot_count bound n tolerance) (length lent)
    → NotReached (opened bound n tolerance) (cleared (field_width bound tolerance) (slot_count bound n tolerance) lent) []
fresh_not_reached bound n tolerance lent whole =
    record {
      counted = counted_fresh bound n tolerance;
      rest = λ slot behind inside. cleared_reads_0 (field_width bound tolerance) (slot_count bound n tolerance) lent whole slot inside;
    }

-- an item: where a block closes, another slot is written
pub more_not_reached : (book : Book) (ring items : List ℕ) (item : ℕ) → NotReached book ring items → Usable book (length ring) → item ≤ book.bound
    → NotReached (added book item) (added_ring book ring item) (item ∷ items)
more_not_reached book ring items item h usable small =
    record {
      counted = counted_more book (length items) item usable.sound.ranges h.counted;
      rest =
          adding_cases (λ b r. (slot : ℕ) → suc (length items) < (slot + 1) * block_of b → slot < slots_of b → held_in b r slot ≡ 0) book ring item
          (λ closes slot behind inside.
          (let fits : quotient_of book item < 2 ^ width_of book = quotient_in book usable.sound item small closes in
          let whole = book_lent book.bound book.length book.tolerance (length ring) usable.sound.ranges usable.room in
          other_stays (width_of book) (slots_of book) ring whole book.head usable.sound.head_high (quotient_of book item) fits slot
          (other slot closes behind inside)
          ∙ h.rest slot (omega arith) inside))
          (λ more slot behind inside. h.rest slot (omega arith) inside);
    }
  where
    other : (slot : ℕ) → book.phase + 1 ≡ block_of book → suc (length items) < (slot + 1) * block_of book → slot < slots_of book → slot ≢ book.head
    other slot closes behind inside same =
        let blocks : ℕ = h.counted.blocks in
        let past : blocks + 1 < slot + 1 =
        lt_of_mul-lt-mul_left (block_of book) (omega (arith, h.counted.count_is, mul_comm (slot + 1) (block_of book))) in
        let there : blocks % slots_of book ≡ blocks = mod-eq_of_lt (omega arith) in
        omega (arith, h.counted.head_is)
