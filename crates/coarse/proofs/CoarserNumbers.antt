-- The numbers of a coarser book: c, s, b, B and the ranges of one with tolerance m·D, and of the tally, of which slots, width and bytes are the same.
-- Assumes nothing.
use Prim.Native.Nat.{ℕ, ◌*◌, ◌≤◌}
use native.Mathlib.Omega.{arith}
use mathlib.Core.List.{List}
use mathlib.Core.Path.{◌≡◌, ap, ap₂, sym, ◌∙◌}
use Rattle.ring.specs.Slot.{cleared}
use Rattle.book.specs.declared.Book.{Book}
use Rattle.book.specs.Derived.{block_length, slot_count, field_width}
use Rattle.book.specs.Record.{block_of, slots_of, width_of, bytes_of}
use Rattle.book.specs.Sound.{Ranges}
use Rattle.book.proofs.Promises.{whole_block, whole_width, unit_block, unit_width, tally_ranges}
use Rattle.book.proofs.Promises.{coarser_ranges, coarser_block, coarser_width, coarser_slots, coarser_bytes_lem}
use Rattle.sums.specs.Row.{cleared_row}
use Rattle.coarse.specs.Coarsens.{Coarsens}
use Rattle.coarse.specs.Coarser.{fresh_tally, fresh_ring, fresh_row}
use Rattle.coarse.specs.Calls.{coarser_bytes}
use Rattle.coarse.specs.Histories.{begun_ring, begun_row}

module _ (book : Book) (ranges : Ranges book.bound book.length book.tolerance) (times : ℕ) (can : Coarsens book times) where
  -- m is not 0
  pub some_times : 1 ≤ times
  some_times = omega (arith, can.times_low)

  -- THE OLD BOOK: a block holds D, and a slot has one bit
  pub old_block_holds : block_of book * book.bound ≡ book.tolerance
  old_block_holds = whole_block book.bound book.length book.tolerance ranges can.whole

  pub old_width : width_of book ≡ 1
  old_width = whole_width book.bound book.length book.tolerance ranges can.whole

  -- THE TALLY: its numbers are in their ranges, a block takes m quotients, and a slot has one bit
  pub tally_in_range : Ranges 1 (slots_of book) times
  tally_in_range = tally_ranges book.bound book.length book.tolerance ranges can.whole times some_times can.tolerance_high

  pub tally_block : block_of (fresh_tally book times) ≡ times
  tally_block = unit_block (slots_of book) times tally_in_range

  pub tally_width : width_of (fresh_tally book times) ≡ 1
  tally_width = unit_width (slots_of book) times tally_in_range

  -- THE COARSER BOOK: its numbers are in their ranges, m blocks make a block, and slots, width and bytes are the tally's
  pub new_in_range : Ranges book.bound book.length (times * book.tolerance)
  new_in_range = coarser_ranges book.bound book.length book.tolerance ranges can.whole times some_times can.tolerance_high

  pub new_block : block_length book.bound (times * book.tolerance) ≡ times * block_of book
  new_block = coarser_block book.bound book.length book.tolerance ranges can.whole times some_times can.tolerance_high

  pub new_slots : slot_count book.bound book.length (times * book.tolerance) ≡ slots_of (fresh_tally book times)
  new_slots = coarser_slots book.bound book.length book.tolerance ranges can.whole times some_times can.tolerance_high

  pub new_width : field_width book.bound (times * book.tolerance) ≡ width_of (fresh_tally book times)
  new_width =
      coarser_width book.bound book.length book.tolerance ranges can.whole times some_times can.tolerance_high ∙ sym tally_width

  pub new_bytes : coarser_bytes book times ≡ bytes_of (fresh_tally book times)
  new_bytes = coarser_bytes_lem book.bound book.length book.tolerance ranges can.whole times some_times can.tolerance_high

  -- so that its cleared ring and row are the tally's
  pub same_fresh_ring : (second : List ℕ) → begun_ring book times second ≡ fresh_ring book times second
  same_fresh_ring second = ap₂ (λ (b s : ℕ). cleared b s second) new_width new_slots

  pub same_fresh_row : (row : List ℕ) → begun_row book times row ≡ fresh_row book times row
  same_fresh_row row = ap (λ (s : ℕ). cleared_row s row) new_slots
