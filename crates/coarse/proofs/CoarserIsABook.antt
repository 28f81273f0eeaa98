-- A COARSER BOOK IS A BOOK WITH ITS RING (promise C-19.3): it passes refusals 8 and 4 again, its row, where one is lent, is kept and has room, and
-- its slots are those of the tally.
-- Assumes nothing.
use Prim.Native.Nat.{ℕ, ◌+◌, ◌*◌, ◌≤◌, ◌<◌}
use native.Mathlib.Nat.{add-zero, mul_comm, mul-le-mul_right}
use native.Mathlib.Omega.{arith}
use mathlib.Core.Bool.{false}
use mathlib.Core.List.{List}
use mathlib.Core.Path.{◌≡◌, sym, ap, subst, ◌∙◌}
use lib.ListN.{length}
use Rattle.ring.specs.Slot.{field}
use Rattle.ring.proofs.Promises.{length_cleared}
use Rattle.book.specs.declared.Book.{Book}
use Rattle.book.specs.Derived.{block_length, field_width, slot_count, bytes_needed}
use Rattle.book.specs.Record.{block_of, slots_of, width_of, held_in}
use Rattle.book.specs.Sound.{Ranges, Usable}
use Rattle.book.specs.RunOfCounts.{any_above}
use Rattle.book.proofs.Promises.{block_low, slots_cover, book_lent, opened_sound, Counted, counted_fresh, counted_all}
use Rattle.sums.specs.Row.{entries_for, entries_of}
use Rattle.sums.specs.RowKept.{Kept, RowKept}
use Rattle.sums.proofs.Promises.{Stays, still_a_book, kept_by_opening, kept_by_run, cleared_rest}
use Rattle.coarse.specs.Quotients.{blocks_kept, old_quotients}
use Rattle.coarse.specs.Coarsens.{Coarsens}
use Rattle.coarse.specs.Coarser.{fresh_tally, fresh_ring, fresh_row, tally, coarsened, coarsened_ring, coarsened_row}
use Rattle.coarse.specs.Calls.{coarser_bytes, coarser_entries}
use Rattle.coarse.proofs.TallyNumbers.{kept_whole, few_blocks, phase_fits, carry_fits}
use Rattle.coarse.proofs.CoarserNumbers.{some_times, old_block_holds, old_width, tally_in_range}
use Rattle.coarse.proofs.CoarserNumbers.{new_in_range, new_block, new_slots, new_width, new_bytes}
use Rattle.coarse.proofs.CoarserNumbers as numbers
use Rattle.coarse.proofs.OldQuotients.{length_quotients, quotients_small}

-- a row that is kept for slots that hold the same
same_kept : {slots slots' : ℕ} {held held' : ℕ → ℕ} → slots ≡ slots' → held ≡ held' → (head : ℕ) (row : List ℕ)
    → Kept slots head held row × (entries_for slots ≤ length row) → Kept slots' head held' row × (entries_for slots' ≤ length row)
same_kept {slots} {slots'} {held} same see head row h =
    subst (λ (f : ℕ → ℕ). Kept slots' head f row × (entries_for slots' ≤ length row)) see
    (subst (λ (k : ℕ). Kept k head held row × (entries_for k ≤ length row)) same h)

module _ (book : Book) (ring : List ℕ) (times : ℕ) (usable : Usable book (length ring)) (can : Coarsens book times) where
  abbrev L : ℕ
  L = book.bound

  abbrev n : ℕ
  n = book.length

  abbrev D : ℕ
  D = book.tolerance

  abbrev c : ℕ
  c = block_of book

  ranges : Ranges L n D
  ranges = usable.sound.ranges

  often : 1 ≤ times
  often = some_times book ranges times can

  -- NUMBERS. The blocks that are wholly kept lie within what is kept, and there are no more of them than slots
  pub whole_blocks_kept : book.phase + blocks_kept book * block_of book ≤ book.kept
  whole_blocks_kept = kept_whole book.kept book.phase c usable.sound.kept_low

  pub blocks_have_slots : blocks_kept book ≤ slots_of book
  blocks_have_slots =
      few_blocks (blocks_kept book) c n (slots_of book) (block_low L D)
      (omega (arith, whole_blocks_kept, usable.sound.kept_high)) (slots_cover L n D ranges)

  pub fresh_ranges : Ranges 1 (slots_of book) times
  fresh_ranges = tally_in_range book ranges times can

  -- no old quotient is above the tally's bound
  pub old_quotients_small : any_above 1 (old_quotients book ring) ≡ false
  old_quotients_small = quotients_small book ring (old_width book ranges times can) (blocks_kept book)

  -- m blocks make a block of the coarser book, and its slots are those of the fresh tally
  pub block_of_coarser : block_of (coarsened book ring times) ≡ times * block_of book
  unfolding coarsened
  block_of_coarser = new_block book ranges times can

  slots_of_coarser : slots_of (coarsened book ring times) ≡ slots_of (fresh_tally book times)
  unfolding coarsened
  slots_of_coarser = new_slots book ranges times can

  width_of_coarser : width_of (coarsened book ring times) ≡ width_of (fresh_tally book times)
  unfolding coarsened
  width_of_coarser = new_width book ranges times can

  -- THE TALLY, with a ring that has room
  module _ (second : List ℕ) (room : coarser_bytes book times ≤ length second) where
    pub fresh_room : bytes_needed 1 (slots_of book) times ≤ length second
    fresh_room = rw (new_bytes book ranges times can) at room

    pub fresh_usable : Usable (fresh_tally book times) (length (fresh_ring book times second))
    fresh_usable =
        let whole = book_lent 1 (slots_of book) times (length second) fresh_ranges fresh_room in
        record {
          sound = opened_sound 1 (slots_of book) times fresh_ranges;
          room = rw (length_cleared (field_width 1 times) (slot_count 1 (slots_of book) times) second whole) fresh_room;
        }

    -- it is a book with the new ring, with L 1, a place for each old slot, and D m
    pub tally_stays : Stays (fresh_tally book times) (tally book ring times) (coarsened_ring book ring times second)
    unfolding tally coarsened_ring
    tally_stays = still_a_book (fresh_tally book times) (fresh_ring book times second) (old_quotients book ring) fresh_usable old_quotients_small

    -- and has taken an item for each block
    pub tally_counted : Counted (tally book ring times) (blocks_kept book)
    unfolding tally
    tally_counted =
        let all : length (old_quotients book ring) + 0 ≡ blocks_kept book = add-zero _ ∙ length_quotients book ring (blocks_kept book) in
        rw all at (counted_all (fresh_tally book times) (old_quotients book ring) 0 fresh_ranges (counted_fresh 1 (slots_of book) times))

    -- its blocks have m items, and its slots are those of the coarser book
    pub tally_block : block_of (tally book ring times) ≡ times
    tally_block =
        (λ i. block_length (tally_stays.bound_same i) (tally_stays.tolerance_same i)) ∙ numbers.tally_block book ranges times can

    pub tally_slots : slots_of (tally book ring times) ≡ slots_of (coarsened book ring times)
    tally_slots =
        (λ i. slot_count (tally_stays.bound_same i) (tally_stays.length_same i) (tally_stays.tolerance_same i)) ∙ sym slots_of_coarser

    pub tally_width : width_of (tally book ring times) ≡ width_of (coarsened book ring times)
    tally_width =
        (λ i. field_width (tally_stays.bound_same i) (tally_stays.tolerance_same i)) ∙ sym width_of_coarser

    -- so that both see the same in every slot
    pub tally_held : (bytes : List ℕ) → held_in (tally book ring times) bytes ≡ held_in (coarsened book ring times) bytes
    tally_held bytes = ap (λ (width : ℕ). field width bytes) tally_width

    -- the tally has kept every item
    pub tally_kept : (tally book ring times).kept ≡ blocks_kept book
    tally_kept = omega (arith, tally_counted.kept_is, tally_stays.length_same, blocks_have_slots)

    -- its phase is below m, and at most J
    pub tally_phase : ((tally book ring times).phase < times) × ((tally book ring times).phase ≤ blocks_kept book)
    tally_phase = (rw tally_block at tally_counted.phase_lt, omega (arith, tally_counted.count_is))

    -- there are no more of its closed blocks than slots
    pub tally_blocks : tally_counted.blocks ≤ slots_of (tally book ring times)
    tally_blocks =
        let K : Book = tally book ring times in
        let blocks : ℕ = tally_counted.blocks in
        let covers = slots_cover K.bound K.length K.tolerance tally_stays.usable.sound.ranges in
        few_blocks blocks times (slots_of book) (slots_of K) often
        (omega (arith, tally_counted.count_is, ap (λ (m : ℕ). m * blocks) tally_block, mul_comm blocks times, blocks_have_slots))
        (omega (arith, covers, tally_stays.length_same, ap (λ (m : ℕ). slots_of K * m) tally_block))

    -- THE COARSER BOOK
    pub coarsened_usable : Usable (coarsened book ring times) (length (coarsened_ring book ring times second))
    unfolding coarsened
    coarsened_usable =
        let K : Book = tally book ring times in
        let low = usable.sound in
        let units = tally_stays.usable.sound in
        let few = tally_phase in
        record {
          sound =
              record {
                ranges = new_in_range book ranges times can;
                kept_high = omega (arith, whole_blocks_kept, low.kept_high);
                kept_low = omega (arith, mul-le-mul_right c few.1);
                phase_high = rw block_of_coarser (phase_fits book.phase c K.phase times low.phase_high few.0);
                head_high = rw tally_slots at units.head_high;
                carry_high = carry_fits book.carry D L book.phase c K.phase K.carry times ranges.tolerance_low often
                    (old_block_holds book ranges times can) low.carry_high
                    (rw (tally_stays.bound_same, tally_stays.tolerance_same) at units.carry_high);
              };
          room =
              rw (new_bytes book ranges times can)
              (rw (tally_stays.bound_same, tally_stays.length_same, tally_stays.tolerance_same) at tally_stays.usable.room);
        }

    -- ITS ROW, where one is lent that has room
    pub coarsened_row_lem : (row : List ℕ) → coarser_entries book times ≤ length row
        → RowKept (coarsened book ring times) (coarsened_ring book ring times second) (coarsened_row book ring times second row)
        × (entries_of (coarsened book ring times) ≤ length (coarsened_row book ring times second row))
    unfolding tally coarsened coarsened_ring coarsened_row
    coarsened_row_lem row entries =
        let s = slot_count 1 (slots_of book) times in
        let fresh : entries_for s ≤ length row = rw slots_of_coarser at entries in
        same_kept tally_slots (tally_held (coarsened_ring book ring times second)) (tally book ring times).head
        (coarsened_row book ring times second row)
        (kept_by_run (fresh_tally book times) (fresh_ring book times second) (fresh_row book times row) (old_quotients book ring) fresh_usable
        old_quotients_small
        (kept_by_opening 1 (slots_of book) times second row fresh_ranges fresh_room, rw (cleared_rest s row fresh).same_length fresh))
