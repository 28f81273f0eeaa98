-- A book that was judged: head is a slot, its numbers are small, and where a ring with its bytes is lent, that is lent whole.
-- Assumes nothing.
use Rattle.std.proofs.Common.{◌≡◌, ℕ, ◌≤◌, ◌<◌, sym, ap, ◌∙◌, arith, le_trans}
use Rattle.ring.specs.Lent.{Lent}
use Rattle.book.specs.declared.shape.Shape.{Shape}
use Rattle.book.specs.declared.known.Known.{Known}
use Rattle.book.specs.Record.{width_of}
use Rattle.book.proofs.Promises.{ready, book_lent, block_high, slots_top, times_top, carry_top}

pub known_head : (known : Known) → known.book.head < known.shape.slots
known_head known = rw known.derived known.sound.head_high

-- its numbers are far from 2^64
pub record Sizes (known : Known) : Type 0 where
  pub tolerance_top : known.book.tolerance ≤ 268431360
  pub carry_top : known.book.carry ≤ 536862720
  pub phase_top : known.book.phase ≤ 4096
  pub block_top : known.shape.block ≤ 4096
  pub slots_high : known.shape.slots ≤ 4096

pub known_sizes : (known : Known) → Sizes known
known_sizes known =
    let book = known.book in
    let ranges = known.sound.ranges in
    record {
      tolerance_top = omega (arith, times_top book known.sound 1 1 (omega arith));
      carry_top = carry_top book known.sound;
      phase_top = omega (arith, known.sound.kept_low, known.sound.kept_high, ranges.length_high);
      block_top = rw known.derived (le_trans (block_high book.bound book.length book.tolerance ranges) ranges.length_high);
      slots_high = rw known.derived (slots_top book known.sound);
    }

pub known_lent : (known : Known) {lent : ℕ} → known.shape.bytes ≤ lent → Lent known.shape.width known.shape.slots lent
known_lent known {lent} room =
    let book = known.book in
    rw known.derived (book_lent book.bound book.length book.tolerance lent known.sound.ranges (ready known room).usable.room)

-- a slot of one bit, as the book's own numbers have it
pub one_bit : (known : Known) → known.shape.width ≡ 1 → width_of known.book ≡ 1
one_bit known thin = sym (ap (λ (s : Shape). s.width) known.derived) ∙ thin
