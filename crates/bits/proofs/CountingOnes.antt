-- Counting the ones of a row in parts: those between two bits, of bytes one behind the other, of a word of them, and of a part of one byte.
-- Assumes nothing.
use Prim.Native.Nat.{ℕ, zero, suc, ◌+◌, ◌-◌, ◌*◌, ◌/◌, ◌%◌, ◌^◌, ◌<◌, ◌≤◌, min}
use native.Mathlib.Nat.{add_comm, suc-mul, mul-le-mul_right, pow-suc, mod-eq_of_lt}
use native.Mathlib.Omega.{arith}
use mathlib.Core.List.{List, [], ◌∷◌, ◌++◌}
use mathlib.Core.Logic.{◌⊎◌, inl, inr}
use mathlib.Core.Path.{◌≡◌, refl, sym, ap, ◌∙◌}
use lib.Count.{ones, ones_cat}
use lib.ListN.{length, get_or, take, drop, length-take, length-drop}
use lib.Pow.{pow-add}
use lib.Seq.{take-suc, take-add, take_all, drop-drop}
use Rattle.std.specs.Int.{byte_worth, sum_through}
use Rattle.std.proofs.lemmas.Nat.{field_of}
use Rattle.bits.specs.Row.{digits, number, bits}
use Rattle.bits.specs.Bytes.{Bytes}
use Rattle.bits.specs.Ones.{ones_of, ones_between}
use Rattle.bits.proofs.Parts.{le_or_lt}
use Rattle.bits.proofs.Rows.{bits_append, length_bits, number_bits}
use Rattle.bits.proofs.DigitsOfByte.{bits_take, bits_drop}
use Rattle.bits.proofs.Words.{word_one}
use Rattle.bits.proofs.Through.{read_word}
use Rattle.bits.proofs.OnesOfRow.{ones_append, ones_le}
use Rattle.bits.proofs.OnesOfPart.{ones_of_part}

-- THE BITS BETWEEN. In two runs, one behind the other, are the ones of both
pub between_join : (row : List ℕ) {from mid to : ℕ} → from ≤ mid → mid ≤ to
    → ones_between from mid row + ones_between mid to row ≡ ones_between from to row
between_join row {from} {mid} {to} low high =
    let m : ℕ = mid - from in
    let n : ℕ = to - mid in
    let both : to - from ≡ m + n = omega arith in
    let at : from + m ≡ mid = omega arith in
    sym
    (ap (λ (k : ℕ). ones_of (take k (drop from (bits row)))) both
    ∙ ap ones_of (take-add m n (drop from (bits row)))
    ∙ ones_append (take m (drop from (bits row))) (take n (drop m (drop from (bits row))))
    ∙ ap (λ (l : List ℕ). ones_between from mid row + ones_of (take n l)) (drop-drop m from (bits row) ∙ ap (λ (k : ℕ). drop k (bits row)) at))

-- of so many bits no more are ones
pub between_le : (row : List ℕ) (from to : ℕ) → ones_between from to row ≤ to - from
between_le row from to =
    omega (arith, ones_le (take (to - from) (drop from (bits row))), length-take (to - from) (drop from (bits row)))

-- and of no bits none
pub between_none : (row : List ℕ) (from : ℕ) → ones_between from from row ≡ 0
between_none row from = omega (arith, between_le row from from)

-- behind the row's end there are none
pub between_clamped : (row : List ℕ) (from to : ℕ) → ones_between from (min to (length row * 8)) row ≡ ones_between from to row
between_clamped row from to = by (le_or_lt to (length row * 8))
  where
    by : (to ≤ length row * 8) ⊎ (length row * 8 < to) → ones_between from (min to (length row * 8)) row ≡ ones_between from to row
    by (inl there) = let e : min to (length row * 8) ≡ to = omega arith in ap (λ (end : ℕ). ones_between from end row) e
    by (inr behind) =
        let left : length (drop from (bits row)) ≡ length row * 8 - from = length-drop from (bits row) ∙ ap (λ (n : ℕ). n - from) (length_bits row) in
        ap ones_of
        (take_all (min to (length row * 8) - from) (drop from (bits row)) (omega arith)
        ∙ sym (take_all (to - from) (drop from (bits row)) (omega arith)))

-- BYTES. Two rows of bytes, one behind the other, have the ones of both
pub bytes_append : (a b : List ℕ) → ones_of (bits (a ++ b)) ≡ ones_of (bits a) + ones_of (bits b)
bytes_append a b = ap ones_of (bits_append a b) ∙ ones_append (bits a) (bits b)

-- and no more than their bits
pub bytes_le : (row : List ℕ) → ones_of (bits row) ≤ length row * 8
bytes_le row = omega (arith, ones_le (bits row), length_bits row)

-- so that of fewer than 2^61 bytes the number modulo 2^64 is the number
pub bytes_fit : (row : List ℕ) → length row * 8 < 2 ^ 64 → ones_of (bits row) % 2 ^ 64 ≡ ones_of (bits row)
bytes_fit row few = mod-eq_of_lt (omega (arith, bytes_le row))

-- the ones of whole bytes are those between their first bit and their last
pub between_bytes : (row : List ℕ) {first last : ℕ} → first ≤ last
    → ones_of (bits (take (last - first) (drop first row))) ≡ ones_between (first * 8) (last * 8) row
between_bytes row {first} {last} order =
    let many : (last - first) * 8 ≡ last * 8 - first * 8 = omega arith in
    ap ones_of
    (bits_take (last - first) (drop first row)
    ∙ ap (take ((last - first) * 8)) (bits_drop first row)
    ∙ ap (λ (k : ℕ). take k (drop (first * 8) (bits row))) many)

-- A BYTE has the ones of its number
byte_ones : (byte : ℕ) → byte < 256 → ones_of (bits (byte ∷ [])) ≡ ones byte
unfolding number bits digits
byte_ones byte small =
    sym (ones_of_part 0 8 (byte ∷ [])) ∙ ap ones (number_bits byte [] small ∙ omega arith)

-- so has one byte more behind others
pub byte_more : (row : List ℕ) → Bytes row → (n : ℕ) → n < length row
    → ones_of (bits (take (suc n) row)) ≡ ones_of (bits (take n row)) + ones (get_or row n 0)
byte_more row bytes n there =
    ap (λ (l : List ℕ). ones_of (bits l)) (take-suc row n 0 there)
    ∙ bytes_append (take n row) (get_or row n 0 ∷ [])
    ∙ ap (λ (k : ℕ). ones_of (bits (take n row)) + k) (byte_ones (get_or row n 0) (bytes n))

-- A PART OF A BYTE: the bits before it are cut off, and then those behind it
pub part_of_byte : (row : List ℕ) → Bytes row → {from to : ℕ} → from < to → to - from ≤ 8 - from % 8 → to ≤ length row * 8
    → ones (get_or row (from / 8) 0 % 2 ^ (8 - from % 8) / 2 ^ (8 - from % 8 - (to - from))) ≡ ones_between from to row
part_of_byte row bytes {from} {to} some one there =
    let at : ℕ = from / 8 in
    let width : ℕ = to - from in
    let after : ℕ = 8 - from % 8 - width in
    let left : 8 - from % 8 ≡ width + after = omega arith in
    ap (λ (k : ℕ). ones (get_or row at 0 % 2 ^ k / 2 ^ after)) left
    ∙ ap ones
    (field_of (get_or row at 0) width after
    ∙ ap (λ (w : ℕ). w / 2 ^ after % 2 ^ width) (sym (word_one row bytes at (omega arith)))
    ∙ sym (read_word from width at 1 after (record { ends = omega arith; starts = omega arith }) row (omega arith)))
    ∙ ones_of_part from width row

-- A WORD of bytes, the lowest first: ones are counted alike in either order
module _ (row : List ℕ) (bytes : Bytes row) where
  abbrev low_first : ℕ → ℕ
  low_first more = sum_through (λ i. byte_worth i (get_or row i 0)) more

  -- a byte is worth its bits' weight
  weight : (n : ℕ) → 256 ^ n ≡ 2 ^ (n * 8)
  weight zero = refl
  weight (suc n) = rw (suc-mul n 8, pow-add 2 (n * 8) 8) (omega (arith, pow-suc 256 n, weight n))

  low_lt : (more : ℕ) → low_first more < 256 ^ suc more
  low_lt zero = bytes 0
  low_lt (suc more) =
      let byte : ℕ = get_or row (suc more) 0 in
      let below : byte < 256 = bytes (suc more) in
      let high : byte * 256 ^ suc more ≤ 255 * 256 ^ suc more = mul-le-mul_right (256 ^ suc more) (omega arith) in
      omega (arith, low_lt more, high, pow-suc 256 (suc more))

  pub low_ones : (more : ℕ) → more < length row → ones (low_first more) ≡ ones_of (bits (take (suc more) row))
  low_ones zero there = omega (arith, byte_more row bytes 0 there, bytes_le [])
  low_ones (suc more) there =
      let byte : ℕ = get_or row (suc more) 0 in
      ap ones (add_comm (low_first more) (byte * 256 ^ suc more) ∙ ap (λ (w : ℕ). byte * w + low_first more) (weight (suc more)))
      ∙ ones_cat (suc more * 8) byte (low_first more) (rw (weight (suc more)) at (low_lt more))
      ∙ add_comm (ones byte) (ones (low_first more))
      ∙ ap (λ (k : ℕ). k + ones byte) (low_ones more (omega arith))
      ∙ sym (byte_more row bytes (suc more) there)
