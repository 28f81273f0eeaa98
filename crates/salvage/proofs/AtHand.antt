-- A book that was judged: head is a slot, z fits a slot, all its numbers are small; and where its ring has the bytes, it is lent whole.
-- Assumes nothing.
use Prim.Native.Nat.{ℕ, ◌^◌, ◌≤◌, ◌<◌}
use native.Mathlib.Nat.{le_trans}
use native.Mathlib.Omega.{arith}
use mathlib.Core.Path.{◌≡◌, ap}
use lib.Pow.{pow_mono}
use Rattle.ring.specs.Lent.{Lent}
use Rattle.book.specs.declared.shape.Shape.{Shape}
use Rattle.book.specs.declared.known.Known.{Known}
use Rattle.book.specs.Record.{largest_of}
use Rattle.book.specs.Sound.{Usable}
use Rattle.book.proofs.Promises.{ready, book_lent, block_high, slots_top, quotient_fits}
use Rattle.sums.specs.Row.{entries_for, entries_of}

module _ (known : Known) where
  pub known_head : known.book.head < known.shape.slots
  known_head = rw known.derived known.sound.head_high

  pub known_fits : known.shape.largest < 2 ^ known.shape.width
  known_fits =
      let book = known.book in
      rw known.derived (quotient_fits book.bound book.length book.tolerance known.sound.ranges (largest_of book) (omega arith))

  pub known_entries : entries_for known.shape.slots ≡ entries_of known.book
  known_entries = ap (λ (s : Shape). entries_for s.slots) known.derived

  -- slots, a block and the open block have at most 4,096
  pub known_slots : known.shape.slots ≤ 4096
  known_slots = rw known.derived (slots_top known.book known.sound)

  pub known_block : known.shape.block ≤ 4096
  known_block =
      let book = known.book in
      let ranges = known.sound.ranges in
      rw known.derived (le_trans (block_high book.bound book.length book.tolerance ranges) ranges.length_high)

  pub known_phase : known.book.phase ≤ 4096
  known_phase = omega (arith, known.sound.kept_low, known.sound.kept_high, known.sound.ranges.length_high)

module _ (known : Known) {lent : ℕ} (room : known.shape.bytes ≤ lent) where
  pub known_usable : Usable known.book lent
  known_usable = (ready known room).usable

  pub known_lent : Lent known.shape.width known.shape.slots lent
  known_lent =
      let book = known.book in
      rw known.derived (book_lent book.bound book.length book.tolerance lent known.sound.ranges known_usable.room)

  -- z is below 65,536
  pub known_top : known.shape.largest < 65536
  known_top = omega (arith, known_fits known, pow_mono {i = known.shape.width} {j = 16} known_lent.width_high)
