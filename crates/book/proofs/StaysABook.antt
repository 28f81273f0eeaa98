-- Opening makes a book, and adding keeps it one, with its numbers, its mark and its ring: the record that comes back passes refusals 8 and 4
-- again. So does one with another mark.
-- Assumes nothing.
use Rattle.std.proofs.Common.{◌≡◌, ℕ, ◌+◌, ◌-◌, ◌*◌, ◌%◌, ◌^◌, ◌<◌, ◌≤◌, List, [], length, refl, mod-lt, mul_comm, arith}
use native.Mathlib.Nat.{div-add-mod}
use Rattle.ring.proofs.Promises.{length_written}
use Rattle.book.specs.declared.Book.{Book}
use Rattle.book.specs.Resting.{marked}
use Rattle.book.specs.Record.{block_of, slots_of, width_of, opened}
use Rattle.book.specs.Sound.{Ranges, Sound, Usable}
use Rattle.book.specs.Adding.{carry_with, quotient_of, added_open, added_closed, added, added_ring}
use Rattle.book.proofs.NumbersInRange.{block_low, block_high, slots_low}
use Rattle.book.proofs.StepsInRange.{book_lent, quotient_in}
use Rattle.book.proofs.NextSlot.{slot_after_lt}
use Rattle.book.proofs.AddingInTwoCases.{adding_cases}

pub opened_sound : (bound n tolerance : ℕ) → Ranges bound n tolerance → Sound (opened bound n tolerance)
opened_sound bound n tolerance r =
    record {
      ranges = r;
      kept_high = omega arith;
      kept_low = omega arith;
      phase_high = block_low bound tolerance;
      head_high = slots_low bound n tolerance r;
      carry_high = omega arith;
    }

module _ (book : Book) (sound : Sound book) (item : ℕ) (small : item ≤ book.bound) where
  -- what is left of the carry when a block closes is its remainder by D
  pub closed_carry : carry_with book item - quotient_of book item * book.tolerance ≡ carry_with book item % book.tolerance
  closed_carry =
      let whole = div-add-mod (carry_with book item) book.tolerance in
      let same = mul_comm (quotient_of book item) book.tolerance in
      omega arith

  pub open_sound : (book.phase + 1 ≡ block_of book → ⊥) → Sound (added_open book item)
  open_sound more =
      let c_high = block_high book.bound book.length book.tolerance sound.ranges in
      record {
        ranges = sound.ranges;
        kept_high = omega arith;
        kept_low = omega (arith, sound.phase_high, sound.kept_low);
        phase_high = omega (arith, sound.phase_high, more);
        head_high = sound.head_high;
        carry_high = omega (arith, sound.carry_high);
      }

  pub closed_sound : Sound (added_closed book item)
  closed_sound =
      record {
        ranges = sound.ranges;
        kept_high = omega arith;
        kept_low = omega arith;
        phase_high = block_low book.bound book.tolerance;
        head_high = slot_after_lt (slots_of book) book.head sound.head_high;
        carry_high = omega (arith, closed_carry, mod-lt (carry_with book item) sound.ranges.tolerance_low);
      }

-- L, n and D of a record are those of another …
pub record SameNumbers (book book' : Book) : Type 0 where
  pub bound_same : book'.bound ≡ book.bound
  pub length_same : book'.length ≡ book.length
  pub tolerance_same : book'.tolerance ≡ book.tolerance

-- … and adding leaves them
pub added_same : (book : Book) (item : ℕ) → SameNumbers book (added book item)
added_same book item =
    adding_cases (λ b r. SameNumbers book b) book [] item
    (λ closes. record { bound_same = refl; length_same = refl; tolerance_same = refl })
    (λ more. record { bound_same = refl; length_same = refl; tolerance_same = refl })

-- adding leaves the mark too
pub added_mark : (book : Book) (item : ℕ) → (added book item).resting ≡ book.resting
added_mark book item = adding_cases (λ b r. b.resting ≡ book.resting) book [] item (λ closes. refl) (λ more. refl)

-- with another mark a book is a book
pub marked_sound : (book : Book) (mark : ℕ) → Sound book → Sound (marked book mark)
marked_sound book mark sound =
    record {
      ranges = sound.ranges;
      kept_high = sound.kept_high;
      kept_low = sound.kept_low;
      phase_high = sound.phase_high;
      head_high = sound.head_high;
      carry_high = sound.carry_high;
    }

pub marked_usable : (book : Book) (lent mark : ℕ) → Usable book lent → Usable (marked book mark) lent
marked_usable book lent mark usable = record { sound = marked_sound book mark usable.sound; room = usable.room }

-- after an item that is taken the record is a book still, and the ring, which is as long as it was, is lent whole
pub added_usable : (book : Book) (ring : List ℕ) (item : ℕ) → Usable book (length ring) → item ≤ book.bound
    → Usable (added book item) (length (added_ring book ring item))
added_usable book ring item usable small =
    adding_cases (λ b r. Usable b (length r)) book ring item
    (λ closes. (let fits : quotient_of book item < 2 ^ width_of book = quotient_in book usable.sound item small closes in
    let whole = book_lent book.bound book.length book.tolerance (length ring) usable.sound.ranges usable.room in
    record {
      sound = closed_sound book usable.sound item small;
      room = rw (length_written (width_of book) (slots_of book) ring whole book.head usable.sound.head_high (quotient_of book item) fits)
          usable.room;
    }))
    (λ more. record { sound = open_sound book usable.sound item small more; room = usable.room })
