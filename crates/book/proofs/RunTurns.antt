-- The turns of a run: what holds after each block that was closed, and where the last counts leave the block open.
-- Assumes nothing.
use Rattle.std.proofs.Common.{◌≡◌, ℕ, ◌+◌, ◌-◌, ◌*◌, ◌/◌, ◌^◌, ◌<◌, ◌≤◌, min, false, sum, List, ◌++◌, length, take, drop, sym, refl, ap, ◌∙◌, subst, ap₂, arith, length-drop, take-append-drop, length-take}
use Rattle.ring.specs.Slot.{written}
use Rattle.ring.proofs.Promises.{length_written}
use Rattle.book.specs.declared.Book.{Book}
use Rattle.book.specs.declared.adding.Closed.{Closed}
use Rattle.book.specs.declared.shape.Shape.{Shape}
use Rattle.book.specs.Record.{record_with}
use Rattle.book.specs.Sound.{Sound}
use Rattle.book.proofs.Ready.{Ready}
use Rattle.book.specs.Adding.{slot_after}
use Rattle.book.specs.RunOfCounts.{any_above, added_all, added_all_ring}
use Rattle.book.proofs.StepsInRange.{ready_lent, ready_block, ready_head, carry_top}
use Rattle.book.proofs.LookingAtAll.{above_mono, above_take, above_drop}
use Rattle.book.proofs.GatheringCounts.{carry_after, carry_sum, sum_small}
use Rattle.book.proofs.RunInParts.{added_all_apart, added_ring_apart}
use Rattle.book.proofs.BlockOfCounts.{with_open, with_closed, same_record, left_open, Fills, fills}

-- the record after so many counts, where the open block still takes `room` items
abbrev standing : Book → Shape → ℕ → ℕ → ℕ → ℕ → Book
standing book shape carry head room taken = record_with book carry (shape.block - room) (min book.length (book.kept + taken)) head

-- the counts that are left, added to it, come to what all counts do
pub record Going (book : Book) (shape : Shape) (lent counts ring : List ℕ) (carry head room : ℕ) (left : List ℕ) : Type 0 where
  pub ready : Ready (standing book shape carry head room (length counts - length left)) shape (length ring)
  pub room_low : 1 ≤ room
  pub room_high : room ≤ shape.block
  pub within : length left ≤ length counts
  pub long : length ring ≡ length lent
  pub small : any_above book.bound left ≡ false
  pub book_left_lem : added_all (standing book shape carry head room (length counts - length left)) left ≡ added_all book counts
  pub ring_left_lem : added_all_ring (standing book shape carry head room (length counts - length left)) ring left ≡ added_all_ring book lent counts

module _ {book : Book} {shape : Shape} {lent counts ring : List ℕ} {carry head room : ℕ} {left : List ℕ}
    (g : Going book shape lent counts ring carry head room left) where
  abbrev now_book : Book
  now_book = standing book shape carry head room (length counts - length left)

  -- the ring has its bytes
  pub room_still : shape.bytes ≤ length ring
  room_still = rw g.ready.shape_is g.ready.usable.room

  -- the carry with a block's counts is far from 2^64
  fits_in : (counts : List ℕ) → any_above book.bound counts ≡ false → length counts ≤ 4096 → carry + sum counts < 2 ^ 64
  fits_in counts none few =
      omega (
        arith,
        carry_top now_book g.ready.usable.sound,
        few,
        sum_small counts (above_mono book.bound 65535 counts g.ready.usable.sound.ranges.bound_high none),
      )

  -- ONE BLOCK MORE, where the counts that are left fill it
  module _ (enough : room ≤ length left) {block : List ℕ} (block_is : block ≡ take room left) where
    block_length : length block ≡ room
    block_length = ap length block_is ∙ length-take room left ∙ omega (arith, enough)

    block_small : any_above book.bound block ≡ false
    block_small = ap (any_above book.bound) block_is ∙ above_take book.bound room left g.small

    pub block_fits : carry + sum block < 2 ^ 64
    block_fits = fits_in block block_small (omega (arith, block_length, g.room_high, (ready_block g.ready).2))

    pub whole_block : Fills ring now_book block
    whole_block =
        fills ring now_book block g.ready.usable.sound (omega (arith, block_length, g.room_low)) block_small
        (omega (arith, block_length, g.room_high, (ready_block g.ready).0))

    pub quotient_fits : {whole : ℕ} → whole ≡ carry + sum block → whole / book.tolerance < 2 ^ shape.width
    quotient_fits whole_is = rw (g.ready.shape_is, whole_is, carry_sum carry block) whole_block.fits

    module _ {whole room' : ℕ} {later ring' : List ℕ} (summed : whole ≡ carry + sum block) (later_is : later ≡ drop room left)
        (room_is : room' ≡ shape.block) (ring_is : ring' ≡ written shape.width ring head (whole / book.tolerance)) where
      whole_is : whole ≡ carry_after carry block
      whole_is = summed ∙ carry_sum carry block

      apart : block ++ later ≡ left
      apart = ap₂ (λ (one two : List ℕ). one ++ two) block_is later_is ∙ take-append-drop room left

      fewer : length later + room ≡ length left
      fewer = omega (arith, ap length later_is, length-drop room left, enough)

      abbrev next_carry : ℕ
      next_carry = whole - whole / book.tolerance * book.tolerance

      abbrev next_head : ℕ
      next_head = slot_after shape.slots head

      abbrev next_book : Book
      next_book = standing book shape next_carry next_head room' (length counts - length later)

      next_closed : next_book ≡ with_closed now_book block
      next_closed =
          same_record book (ap (λ (w : ℕ). w - w / book.tolerance * book.tolerance) whole_is) (omega (arith, room_is))
          (omega (arith, block_length, fewer, g.within)) (ap (λ (s : Shape). slot_after s.slots head) g.ready.shape_is)

      next_is : next_book ≡ added_all now_book block
      next_is = next_closed ∙ sym whole_block.book_is

      next_ring : ring' ≡ added_all_ring now_book ring block
      next_ring =
          ring_is
          ∙ ap₂ (λ (s : Shape) (w : ℕ). written s.width ring head (w / book.tolerance)) g.ready.shape_is whole_is
          ∙ sym whole_block.ring_is

      same_length : length ring' ≡ length ring
      same_length =
          ap length ring_is
          ∙ length_written shape.width shape.slots ring (ready_lent g.ready) head (ready_head g.ready) (whole / book.tolerance)
          (quotient_fits summed)

      closing : Going book shape lent counts ring' next_carry next_head room' later
      closing =
          record {
            ready = record {
              usable = record { sound = subst Sound (sym next_closed) whole_block.sound; room = rw same_length g.ready.usable.room };
              shape_is = g.ready.shape_is;
            };
            room_low = omega (arith, room_is, (ready_block g.ready).1);
            room_high = omega (arith, room_is);
            within = omega (arith, fewer, g.within);
            long = same_length ∙ g.long;
            small = ap (any_above book.bound) later_is ∙ above_drop book.bound room left g.small;
            book_left_lem =
                ap (λ (b : Book). added_all b later) next_is
                ∙ sym (added_all_apart now_book block later)
                ∙ ap (added_all now_book) apart ∙ g.book_left_lem;
            ring_left_lem =
                ap₂ (λ (b : Book) (r : List ℕ). added_all_ring b r later) next_is next_ring
                ∙ sym (added_ring_apart now_book ring block later)
                ∙ ap (added_all_ring now_book ring) apart ∙ g.ring_left_lem;
          }

      -- as the code has it
      pub going_step : {closed : Closed} → closed ≡ record { carry = next_carry; head = next_head }
          → Going book shape lent counts ring' closed.carry closed.head room' later
      going_step closed_is = rw closed_is closing

  -- THE LAST COUNTS, which leave the block open
  module _ (few : length left < room) where
    open_block : (added_all now_book left ≡ with_open now_book left) × (added_all_ring now_book ring left ≡ ring)
    open_block = left_open ring now_book left g.ready.usable.sound.kept_high (omega (arith, g.room_high, (ready_block g.ready).0))

    pub rest_fits : carry + sum left < 2 ^ 64
    rest_fits = fits_in left g.small (omega (arith, g.room_high, (ready_block g.ready).2))

    module _ {gathered phase kept : ℕ} (gathered_is : gathered ≡ carry + sum left) (phase_is : phase ≡ shape.block - room + length left)
        (kept_is : kept ≡ min book.length (book.kept + length counts)) where
      pub going_end : (record_with book gathered phase kept head ≡ added_all book counts) × (ring ≡ added_all_ring book lent counts)
      going_end = (
        same_record book (gathered_is ∙ carry_sum carry left) (omega (arith, phase_is)) (omega (arith, kept_is, g.within)) refl
            ∙ sym open_block.0 ∙ g.book_left_lem,
        sym open_block.1 ∙ g.ring_left_lem,
      )
