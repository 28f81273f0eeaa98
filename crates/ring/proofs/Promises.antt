-- THE RING'S PROMISES. These are final: the book, and every crate above the ring, cites this file and the names of specs/, and looks
-- into no definition. First what the calls answer, then promise R.3: what the slots hold after a clear and a write, and the sums.
-- Assumes nothing.
use Prim.Native.Nat.{ℕ, suc, ◌+◌, ◌-◌, ◌*◌, ◌/◌, ◌^◌, ◌≤◌, ◌<◌}
use native.Mathlib.Omega.{arith}
use mathlib.Core.List.{List}
use mathlib.Core.Logic.{inl, inr, ⊎_elim, ◌≢◌}
use mathlib.Core.Path.{◌≡◌, refl, sym}
use lib.ListN.{length, get_or, drop, replicate, length-append, length-drop, length-replicate}
use lib.Seq.{drop_at, get_or-drop, ext_get_or}
use Rattle.refusals.specs.Call.{refusal_of, result_of, left_of}
use Rattle.refusals.proofs.Calls.{result_taken, left_taken}
use Rattle.bits.specs.Row.{bits, with_part}
use Rattle.bits.proofs.Promises.{le_or_lt, part_back, bit_stays, part_stays, byte_stays, length_with, bytes_with, zero_byte_lem, zero_bit, zero_part, bytes_zeros}
pub use Rattle.bits.specs.Bytes.{Bytes}
use Rattle.ring.specs.Limits.{widest, most_slots}
use Rattle.ring.specs.Slot.{ring_bytes, field, written, cleared}
use Rattle.ring.specs.Newest.{slot_before, newest, sum_newest}
use Rattle.ring.specs.Calls.{clear_call, read_call, write_call, sum_call}
pub use Rattle.ring.specs.Lent.{Lent}
use Rattle.ring.proofs.Refused as refused
use Rattle.ring.proofs.Fields as fields
use Rattle.ring.proofs.Around as around

-- A ring is lent whole where the width is 1 to 16, the slots are 1 to 4,096 and the slice has the bytes that the ring takes
pub lent_whole : (width slots : ℕ) (ring : List ℕ) → 1 ≤ width → width ≤ widest → 1 ≤ slots → slots ≤ most_slots
    → ring_bytes width slots ≤ length ring → Lent width slots (length ring)
lent_whole width slots ring w1 w16 s1 s4096 room =
    record { width_low = w1; width_high = w16; slots_low = s1; slots_high = s4096; room = room }

module _ (width slots : ℕ) (ring : List ℕ) (whole : Lent width slots (length ring)) where
  -- CALLS. Clear is taken, and clears the ring
  pub clear_taken : refusal_of (clear_call width slots ring) ≡ 0
  clear_taken = refused.clear_taken width slots ring whole

  pub clear_clears : left_of (clear_call width slots ring) ≡ cleared width slots ring
  unfolding clear_call
  clear_clears = sym (left_taken (clear_call width slots ring) refl clear_taken)

  module _ (slot : ℕ) (below : slot < slots) where
    within : slot * width + width ≤ length ring * 8
    within = fields.slot_within width slots slot ring below whole.room

    -- read gives the number in the slot
    pub read_reads : result_of (read_call width slots ring slot) ≡ record { refusal = 0; value = field width ring slot }
    unfolding read_call
    read_reads = sym (result_taken (read_call width slots ring slot) refl (refused.read_taken width slots ring whole slot below))

    -- sum gives the sum of the newest slots, as many as there are or fewer
    pub sum_sums : (j : ℕ) → j ≤ slots
        → result_of (sum_call width slots ring slot j) ≡ record { refusal = 0; value = sum_newest (field width ring) slots slot j }
    unfolding sum_call
    sum_sums j most =
        sym (result_taken (sum_call width slots ring slot j) refl (refused.sum_taken width slots ring whole slot below j most))

    module _ (value : ℕ) (fits : value < 2 ^ width) where
      -- write is taken, and puts the value into the slot
      pub write_taken : refusal_of (write_call width slots ring slot value) ≡ 0
      write_taken = refused.write_taken width slots ring whole slot below value fits

      pub write_writes : left_of (write_call width slots ring slot value) ≡ written width ring slot value
      unfolding write_call
      write_writes = sym (left_taken (write_call width slots ring slot value) refl write_taken)

      -- SLOTS (R.3). A written slot reads back
      pub read_back : field width (written width ring slot value) slot ≡ value
      unfolding field written
      read_back = part_back (slot * width) width value ring within fits

      -- every other slot stays
      pub other_stays : (other : ℕ) → other ≢ slot → field width (written width ring slot value) other ≡ field width ring other
      unfolding field written
      other_stays other ne =
          part_stays (slot * width) width value ring within width (other * width)
          (⊎_elim (λ above. inr (fields.slot_end width (omega arith))) (λ under. inl (fields.slot_end width under)) (le_or_lt slot other))

      -- every bit after the last slot stays
      pub tail_stays : (i : ℕ) → slots * width ≤ i → get_or (bits (written width ring slot value)) i 0 ≡ get_or (bits ring) i 0
      unfolding written
      tail_stays i h = bit_stays (slot * width) width value ring within i (inr (omega (arith, fields.slot_end width below)))

      -- every byte from B on stays, and no byte comes or goes
      pub rest_stays : Bytes ring → (i : ℕ) → ring_bytes width slots ≤ i → get_or (written width ring slot value) i 0 ≡ get_or ring i 0
      unfolding written
      rest_stays bytes i h =
          byte_stays (slot * width) width value ring within bytes i
          (omega (arith, fields.slot_end width below, fields.slots_fit width slots))

      pub length_written : length (written width ring slot value) ≡ length ring
      unfolding written
      length_written = length_with (slot * width) width value ring

      pub rest_stays_drop : Bytes ring → drop (ring_bytes width slots) (written width ring slot value) ≡ drop (ring_bytes width slots) ring
      rest_stays_drop bytes =
          let size : ℕ = ring_bytes width slots in
          ext_get_or 0 (drop size (written width ring slot value)) (drop size ring) (simp (length-drop, length_written))
          (λ i h. rw (get_or-drop size (written width ring slot value) i 0, get_or-drop size ring i 0) (rest_stays bytes (size + i) (omega arith)))

      -- bytes stay bytes
      pub bytes_written : Bytes ring → Bytes (written width ring slot value)
      unfolding written
      bytes_written bytes = bytes_with (slot * width) width value ring

    -- a cleared ring reads 0
    pub cleared_reads_0 : field width (cleared width slots ring) slot ≡ 0
    unfolding field cleared
    cleared_reads_0 =
        let size : ℕ = ring_bytes width slots in
        zero_part size (drop size ring) (slot * width) width (omega (arith, fields.slot_end width below, fields.slots_fit width slots))

  -- clear zeroes exactly the first B bytes
  pub cleared_first : (i : ℕ) → i < ring_bytes width slots → get_or (cleared width slots ring) i 0 ≡ 0
  unfolding cleared
  cleared_first = zero_byte_lem (ring_bytes width slots) (drop (ring_bytes width slots) ring)

  pub cleared_rest : drop (ring_bytes width slots) (cleared width slots ring) ≡ drop (ring_bytes width slots) ring
  unfolding cleared
  cleared_rest = drop_at (replicate (ring_bytes width slots) 0) (drop (ring_bytes width slots) ring) (ring_bytes width slots) (length-replicate (ring_bytes width slots) 0)

  pub length_cleared : length (cleared width slots ring) ≡ length ring
  unfolding cleared
  length_cleared = simp (length-append, length-replicate, length-drop) (omega (arith, whole.room))

  -- so the bits after the last slot, up to the end of byte B − 1, are 0
  pub cleared_tail : (i : ℕ) → slots * width ≤ i → i < ring_bytes width slots * 8 → get_or (bits (cleared width slots ring)) i 0 ≡ 0
  unfolding cleared
  cleared_tail i behind inside = zero_bit (ring_bytes width slots) (drop (ring_bytes width slots) ring) i inside

  pub bytes_cleared : Bytes ring → Bytes (cleared width slots ring)
  unfolding cleared
  bytes_cleared bytes =
      let size : ℕ = ring_bytes width slots in
      bytes_zeros size (drop size ring) (λ i. rw (get_or-drop size ring i 0) (bytes (size + i)))

  -- a value put into bits behind the last slot leaves what every slot holds
  pub behind_stays : (n value : ℕ) → slots * width + n ≤ length ring * 8
      → (slot : ℕ) → slot < slots → field width (with_part (slots * width) n value ring) slot ≡ field width ring slot
  unfolding field
  behind_stays n value inside slot below =
      part_stays (slots * width) n value ring inside width (slot * width) (inl (fields.slot_end width below))

-- B, the bytes that a ring takes, is slots·width / 8 rounded up
pub bytes_are : (width slots : ℕ) → ring_bytes width slots ≡ (slots * width + 7) / 8
unfolding ring_bytes
bytes_are width slots = refl

-- a field is below 2^b
pub field_lt : (width : ℕ) (ring : List ℕ) (slot : ℕ) → field width ring slot < 2 ^ width
field_lt = fields.field_lt

-- SUMS (R.3). The slot before 0 is the last one, and before any other stands the one with the number below
pub before_first : (slots : ℕ) → slot_before slots 0 ≡ slots - 1
before_first = around.before_first

pub before_next : (slots slot : ℕ) → slot_before slots (suc slot) ≡ slot
before_next = around.before_next

-- the newest slot is the one before `next`, and the next older one stands before it
pub newest_none : (slots next : ℕ) → newest slots next 0 ≡ next
newest_none = around.newest_none

pub newest_more : (slots next j : ℕ) → newest slots next (suc j) ≡ slot_before slots (newest slots next j)
newest_more = around.newest_more

pub newest_lt : (slots next j : ℕ) → next < slots → newest slots next j < slots
newest_lt = around.newest_lt

-- the j-th newest slot in one step: j back from `next`, or from the end of the ring
pub newest_near : (slots next j : ℕ) → j ≤ next → newest slots next j ≡ next - j
newest_near = around.newest_near

pub newest_far : (slots next j : ℕ) → next < j → j ≤ slots → newest slots next j ≡ next + slots - j
newest_far = around.newest_far

-- the sum of 0 is 0
pub sum_none : (held : ℕ → ℕ) (slots next : ℕ) → sum_newest held slots next 0 ≡ 0
sum_none = around.sum_none

-- the sum of j + 1 is the sum of j plus the next older slot
pub sum_more : (held : ℕ → ℕ) (slots next j : ℕ)
    → sum_newest held slots next (suc j) ≡ sum_newest held slots next j + held (newest slots next (suc j))
sum_more = around.sum_more

-- a sum sees nothing but what the slots hold
pub sum_same : (held held' : ℕ → ℕ) (slots next j : ℕ) → next < slots → ((slot : ℕ) → slot < slots → held slot ≡ held' slot)
    → sum_newest held slots next j ≡ sum_newest held' slots next j
sum_same = around.sum_same

-- and is at most j times what one slot can hold
pub sum_le : (held : ℕ → ℕ) (most : ℕ) → ((slot : ℕ) → held slot ≤ most) → (slots next j : ℕ) → sum_newest held slots next j ≤ j * most
sum_le = around.sum_le
