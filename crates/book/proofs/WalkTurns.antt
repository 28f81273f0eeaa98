-- The walk's turns: what holds after each block, and where the walk stops.
-- Assumes nothing.
use Rattle.std.proofs.Common.{◌≡◌, ℕ, zero, suc, ◌+◌, ◌-◌, ◌*◌, ◌/◌, ◌^◌, ◌<◌, ◌≤◌, ◌⊎◌, List, length, sym, ap, ◌∙◌, inl, inr, mul-le-mul_right, suc-mul, div-le_self, add-one, arith}
use Rattle.ring.specs.Slot.{field}
use Rattle.ring.specs.Newest.{slot_before, newest, sum_newest}
use Rattle.ring.proofs.Promises.{sum_none, sum_more, newest_none, newest_more, newest_lt}
use Rattle.book.specs.declared.Book.{Book}
use Rattle.book.specs.declared.shape.Shape.{Shape}
use Rattle.book.specs.Record.{block_of, slots_of, held_in}
use Rattle.book.specs.Sound.{Sound}
use Rattle.book.proofs.Ready.{Ready}
use Rattle.book.specs.Stops.{gathered, end_figure, oldest}
use Rattle.book.proofs.RoundedUp.{le_or_lt}
use Rattle.book.proofs.NumbersInRange.{slots_cover}
use Rattle.book.proofs.StepsInRange.{ready_block, times_top, carry_top, sum_top, held_le}

-- after some blocks of a book that is ready, none of which reached v at its end; `behind` items are walked over
pub record Walking (book : Book) (shape : Shape) (ring : List ℕ) (v slot blocks total quotient behind : ℕ) : Type 0 where
  pub ready : Ready book shape (length ring)
  pub behind_is : behind ≡ book.phase + blocks * block_of book
  pub few : blocks ≤ slots_of book
  pub slot_is : slot ≡ newest (slots_of book) book.head blocks
  pub total_is : total ≡ gathered book (held_in book ring) blocks
  pub quotient_is : quotient ≡ oldest book (held_in book ring) blocks
  pub earlier : (k : ℕ) → k < blocks → end_figure book (held_in book ring) k < v

pub walking_start : {book : Book} {shape : Shape} (ring : List ℕ) (v : ℕ) {quotient : ℕ} → Ready book shape (length ring)
    → quotient ≡ book.carry / book.tolerance → Walking book shape ring v book.head 0 book.carry quotient book.phase
walking_start {book} ring v ready quotient_is =
    record {
      ready = ready;
      behind_is = omega arith;
      few = omega arith;
      slot_is = sym (newest_none (slots_of book) book.head);
      total_is = omega (arith, ap (λ (n : ℕ). book.tolerance * n) (sum_none (held_in book ring) (slots_of book) book.head));
      quotient_is = quotient_is;
      earlier = λ k h. absurd (omega arith);
    }

-- what is gathered stays far below 2^64
pub gathered_top : (book : Book) (ring : List ℕ) → Sound book → (j : ℕ) → j ≤ slots_of book → gathered book (held_in book ring) j ≤ 2 ^ 57
gathered_top book ring sound j h =
    omega (
      arith,
      carry_top book sound,
      times_top book sound (sum_newest (held_in book ring) (slots_of book) book.head j) 268431360 (sum_top book ring sound j h),
    )

-- and so does a quotient
pub oldest_top : (book : Book) (ring : List ℕ) → Sound book → (j : ℕ) → oldest book (held_in book ring) j ≤ 536862720
oldest_top book ring sound zero = omega (arith, div-le_self book.carry book.tolerance, carry_top book sound)
oldest_top book ring sound (suc j) = omega (arith, held_le book ring sound (newest (slots_of book) book.head (suc j)))

module _ {book : Book} {shape : Shape} {ring : List ℕ} {v slot blocks total quotient behind : ℕ}
    (w : Walking book shape ring v slot blocks total quotient behind) where
  sound : Sound book
  sound = w.ready.usable.sound

  -- where an item that is kept is not walked over yet, there is a slot more; and the next block's end is far from 2^64
  module _ (more : behind < book.kept) where
    one_more : blocks < slots_of book
    one_more = by (le_or_lt (slots_of book) blocks)
      where
        by : (slots_of book ≤ blocks) ⊎ (blocks < slots_of book) → blocks < slots_of book
        by (inl all) =
            absurd (omega (
              arith,
              w.behind_is,
              sound.kept_high,
              mul-le-mul_right (block_of book) all,
              slots_cover book.bound book.length book.tolerance sound.ranges,
            ))
        by (inr few) = few

    pub behind_top : behind + shape.block ≤ 8192
    behind_top = omega (arith, ready_block w.ready, sound.kept_high, sound.ranges.length_high)

  pub slot_in : slot < shape.slots
  slot_in = rw (w.ready.shape_is, w.slot_is) (newest_lt (slots_of book) book.head blocks sound.head_high)

  -- the next slot, and what it holds
  module _ {next : ℕ} (next_is : next ≡ slot_before shape.slots slot) where
    place : next ≡ newest (slots_of book) book.head (suc blocks)
    place =
        next_is ∙ (λ i. slot_before (w.ready.shape_is i).slots (w.slot_is i)) ∙ sym (newest_more (slots_of book) book.head blocks)

    pub next_in : next < shape.slots
    next_in = rw (w.ready.shape_is, place) (newest_lt (slots_of book) book.head (suc blocks) sound.head_high)

    module _ {value : ℕ} (value_is : value ≡ field shape.width ring next) where
      held : value ≡ held_in book ring next
      held = value_is ∙ ap (λ (s : Shape). field s.width ring next) w.ready.shape_is

      pub total_top : total + book.tolerance * value ≤ 2 ^ 58
      total_top =
          omega (
            arith,
            w.total_is,
            gathered_top book ring sound blocks w.few,
            times_top book sound value 65535 (rw held (held_le book ring sound next)),
          )

      -- one block more
      pub walking_step : behind < book.kept → {end : ℕ} → end ≡ total - (book.tolerance - 1) → end < v
          → Walking book shape ring v next (blocks + 1) (total + book.tolerance * value) value (behind + shape.block)
      walking_step more end_is short =
          let oldest_is : value ≡ held_in book ring (newest (slots_of book) book.head (suc blocks)) = held ∙ ap (held_in book ring) place in
          rw (add-one blocks)
          (record {
            ready = w.ready;
            behind_is = omega (arith, w.behind_is, (ready_block w.ready).0, suc-mul blocks (block_of book));
            few = one_more more;
            slot_is = place;
            total_is =
                omega (
                  arith,
                  w.total_is,
                  ap (λ (n : ℕ). book.tolerance * n) oldest_is,
                  ap (λ (n : ℕ). book.tolerance * n) (sum_more (held_in book ring) (slots_of book) book.head blocks),
                );
            quotient_is = oldest_is;
            earlier = λ k h. by k (le_or_lt blocks k) h;
          })
        where
          by : (k : ℕ) → (blocks ≤ k) ⊎ (k < blocks) → k < suc blocks → end_figure book (held_in book ring) k < v
          by k (inl le) h =
              let e : k ≡ blocks = omega arith in
              rw e (rw (end_is, w.total_is) at short)
          by k (inr lt) h = w.earlier k lt
