-- How large a coarser book can be: at most 2,048 slots, so 64 entries of a row and 256 bytes.
-- Assumes nothing.
use Prim.Native.Nat.{ℕ, zero, suc, ◌+◌, ◌*◌, ◌/◌, ◌≤◌, ◌<◌}
use native.Mathlib.Nat.{mul-le-mul, mul-le-mul_right, suc-mul}
use native.Mathlib.Omega.{arith}
use mathlib.Core.Path.{◌≡◌, ap, ◌∙◌}
use Rattle.ring.proofs.Promises.{bytes_are}
use Rattle.book.specs.declared.Book.{Book}
use Rattle.book.specs.Derived.{block_length, slot_count, field_width}
use Rattle.book.specs.Sound.{Ranges}
use Rattle.book.proofs.Promises.{block_low, slots_tight, bytes_needed_lem}
use Rattle.coarse.specs.Coarsens.{Coarsens}
use Rattle.coarse.specs.Calls.{coarser_bytes, coarser_entries}
use Rattle.coarse.proofs.CoarserNumbers.{new_in_range, new_block, new_width, tally_width}

-- slots that cover at most 4,096 items, by blocks of at least 2, are at most 2,048
few_slots : (slots block n : ℕ) → 2 ≤ block → n ≤ 4096 → slots * block < n + block → slots ≤ 2048
few_slots zero block n two most tight = omega arith
few_slots (suc slots) block n two most tight = omega (arith, mul-le-mul_right slots two, suc-mul slots block)

module _ (book : Book) (ranges : Ranges book.bound book.length book.tolerance) (times : ℕ) (can : Coarsens book times) where
  abbrev new_tolerance : ℕ
  new_tolerance = times * book.tolerance

  slots_top : slot_count book.bound book.length new_tolerance ≤ 2048
  slots_top =
      let two : 2 ≤ block_length book.bound new_tolerance =
      omega (
        arith,
        new_block book ranges times can,
        mul-le-mul {n₁ = 2} {m₁ = 1} can.times_low (block_low book.bound book.tolerance),
      ) in
      few_slots (slot_count book.bound book.length new_tolerance) (block_length book.bound new_tolerance) book.length two
      ranges.length_high (slots_tight book.bound book.length new_tolerance (new_in_range book ranges times can))

  -- so that it has at most 64 groups of slots
  pub entries_top : coarser_entries book times ≤ 64
  entries_top = omega (arith, slots_top)

  -- and its ring, of one bit a slot, at most 256 bytes
  pub bytes_top : coarser_bytes book times ≤ 256
  bytes_top =
      let slots = slot_count book.bound book.length new_tolerance in
      let one : field_width book.bound new_tolerance ≡ 1 = new_width book ranges times can ∙ tally_width book ranges times can in
      let size : coarser_bytes book times ≡ (slots * 1 + 7) / 8 =
      bytes_needed_lem book.bound book.length new_tolerance ∙ bytes_are (field_width book.bound new_tolerance) slots
      ∙ ap (λ (b : ℕ). (slots * b + 7) / 8) one in
      omega (arith, size, slots_top)
