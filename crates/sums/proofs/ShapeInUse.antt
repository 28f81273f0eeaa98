-- A book in use with its numbers at hand: its ring is lent whole, its block has 1 to 4,096 items, its head is a slot.
-- Assumes nothing.
use Prim.Native.Nat.{ℕ, ◌≤◌, ◌<◌}
use native.Mathlib.Nat.{le_trans}
use mathlib.Core.Path.{◌≡◌, refl}
use Rattle.ring.specs.Lent.{Lent}
use Rattle.book.specs.declared.Book.{Book}
use Rattle.book.specs.declared.shape.Shape.{Shape}
use Rattle.book.specs.declared.known.Known.{Known}
use Rattle.book.specs.Record.{block_of, slots_of, shape_for}
use Rattle.book.specs.Sound.{Sound}
use Rattle.book.proofs.Promises.{block_low, block_high, slots_top, ready, ready_lent}

module _ {book : Book} {shape : Shape} (is : shape ≡ shape_for book) (sound : Sound book) where
  pub use_block : (shape.block ≡ block_of book) × (1 ≤ shape.block) × (shape.block ≤ 4096)
  use_block =
      let r = sound.ranges in
      rw is
      (refl, block_low book.bound book.tolerance, le_trans (block_high book.bound book.length book.tolerance r) r.length_high)

  pub use_slots : (shape.slots ≡ slots_of book) × (shape.slots ≤ 4096) × (book.head < shape.slots)
  use_slots = rw is (refl, slots_top book sound, sound.head_high)

-- of a judged book, where the bytes of its ring are lent
pub lent_whole : (known : Known) {lent : ℕ} → known.shape.bytes ≤ lent → Lent known.shape.width known.shape.slots lent
lent_whole known room = ready_lent (ready known room)
