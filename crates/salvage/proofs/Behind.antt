-- The bits after the last slot: clearing them, and what stays.
-- Assumes nothing.
use Prim.Native.Nat.{ℕ, ◌+◌, ◌-◌, ◌*◌, ◌/◌, ◌%◌, ◌^◌, ◌≤◌, ◌<◌}
use native.Mathlib.Nat.{add-zero, mod-one, mul-le-mul}
use native.Mathlib.Omega.{arith}
use mathlib.Core.List.{List}
use mathlib.Core.Path.{◌≡◌, sym, ap, ◌∙◌}
use lib.ListN.{length, get_or, drop, set, length-drop}
use lib.Pow.{pow_pos}
use lib.Seq.{get_or-drop, ext_get_or}
use Rattle.bits.specs.Row.{bits, with_part}
use Rattle.bits.specs.Bytes.{Bytes}
use Rattle.bits.proofs.Promises.{part_back, byte_stays, length_with, with_again, zero_in_part}
use Rattle.bits.proofs.Promises.{word_one, stored, store_one, Spans, patched, write_word}
use Rattle.ring.proofs.Promises.{bytes_are, behind_stays}
use Rattle.book.specs.declared.Book.{Book}
use Rattle.book.specs.Record.{slots_of, width_of, bytes_of, held_in}
use Rattle.book.specs.Sound.{Usable}
use Rattle.book.proofs.Promises.{bytes_needed_lem}
use Rattle.salvage.specs.Salvaged.{tail_cleared}
use Rattle.salvage.proofs.NewestSlots.{ring_whole}

-- B by the bits of the slots
bytes_of_bits : (book : Book) → bytes_of book ≡ (slots_of book * width_of book + 7) / 8
bytes_of_bits book = bytes_needed_lem book.bound book.length book.tolerance ∙ bytes_are (width_of book) (slots_of book)

-- the last slot ends in the ring's last byte, 0 to 7 bits before its end
pub last_slot_ends : (book : Book) → (slots_of book * width_of book ≤ bytes_of book * 8) × (bytes_of book * 8 ≤ slots_of book * width_of book + 7)
last_slot_ends book = (omega (arith, bytes_of_bits book), omega (arith, bytes_of_bits book))

module _ (book : Book) (ring : List ℕ) (usable : Usable book (length ring)) where
  -- the first of these bits, and how many they are
  abbrev from : ℕ
  from = slots_of book * width_of book

  abbrev over : ℕ
  over = bytes_of book * 8 - from

  -- they end with byte B − 1, and lie in the ring
  ends : from + over ≡ bytes_of book * 8
  ends = omega (arith, last_slot_ends book)

  inside : from + over ≤ length ring * 8
  inside = omega (arith, ends, usable.room)

  -- every slot holds what it held
  pub tail_slots_stay : (slot : ℕ) → slot < slots_of book → held_in book (tail_cleared book ring) slot ≡ held_in book ring slot
  unfolding tail_cleared
  tail_slots_stay = behind_stays (width_of book) (slots_of book) ring (ring_whole book (length ring) usable) over 0 inside

  -- each of these bits is 0
  pub tail_is_0 : (i : ℕ) → slots_of book * width_of book ≤ i → i < bytes_of book * 8 → get_or (bits (tail_cleared book ring)) i 0 ≡ 0
  unfolding tail_cleared
  tail_is_0 i low high =
      zero_in_part from over (with_part from over 0 ring) (part_back from over 0 ring inside (pow_pos over)) i low (omega (arith, ends))

  -- no byte comes or goes
  pub tail_length : length (tail_cleared book ring) ≡ length ring
  unfolding tail_cleared
  tail_length = length_with from over 0 ring

  -- every byte from B on stays
  pub tail_rest_stays : Bytes ring → drop (bytes_of book) (tail_cleared book ring) ≡ drop (bytes_of book) ring
  unfolding tail_cleared
  tail_rest_stays bytes =
      let size : ℕ = bytes_of book in
      let new : List ℕ = with_part from over 0 ring in
      ext_get_or 0 (drop size new) (drop size ring) (simp (length-drop, length_with from over 0 ring))
      (λ i h. rw (get_or-drop size new i 0, get_or-drop size ring i 0) (byte_stays from over 0 ring inside bytes (size + i) (omega (arith, ends))))

  -- clearing them again changes nothing
  pub tail_again : tail_cleared book (tail_cleared book ring) ≡ tail_cleared book ring
  unfolding tail_cleared
  tail_again = with_again from over 0 ring inside

  -- the slots have a bit, and no more than 65,536; so the ring has a byte
  pub slots_bits : (1 ≤ from) × (from ≤ 65536)
  slots_bits =
      let whole = ring_whole book (length ring) usable in
      (mul-le-mul {n₁ = 1} {m₁ = 1} whole.slots_low whole.width_low, mul-le-mul {n₂ = 4096} {m₂ = 16} whole.slots_high whole.width_high)

  -- the last byte without its lowest bits
  shifted : (byte : ℕ) → patched byte over 0 0 ≡ byte / 2 ^ over * 2 ^ over
  shifted byte = rw (add-zero over, mod-one byte) (omega arith)

  -- clearing them is moving the last byte's digits out by as many places, and back
  pub tail_by_shifts : Bytes ring
      → set ring (bytes_of book - 1) (get_or ring (bytes_of book - 1) 0 / 2 ^ over * 2 ^ over % 256) ≡ tail_cleared book ring
  unfolding tail_cleared
  tail_by_shifts bytes =
      let last : ℕ = bytes_of book - 1 in
      let byte : ℕ = get_or ring last 0 in
      let room : last + 1 ≤ length ring = omega (arith, last_slot_ends book, slots_bits, usable.room) in
      let lies : Spans from over last 1 0 = record { ends = omega (arith, ends, slots_bits); starts = omega (arith, last_slot_ends book) } in
      ap (λ (new : ℕ). set ring last (new % 256)) (sym (shifted byte))
      ∙ store_one ring last (patched byte over 0 0) room
      ∙ ap (λ (old : ℕ). stored ring last (patched old over 0 0) 1) (sym (word_one ring bytes last room))
      ∙ sym (write_word from over last 1 0 lies ring room bytes 0 (pow_pos over))
