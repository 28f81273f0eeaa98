-- What stays when a part of a row of bits is replaced by the digits of a value.
-- Assumes nothing.
use Prim.Native.Nat.{ℕ, ◌+◌, ◌*◌, ◌^◌, ◌<◌, ◌≤◌}
use native.Mathlib.Nat.{mod-eq_of_lt, lt_of_lt_of_le}
use native.Mathlib.Omega.{arith}
use mathlib.Core.List.{List, ◌++◌, append_assoc}
use mathlib.Core.Logic.{◌⊎◌, inl, inr, ⊎_elim}
use mathlib.Core.Path.{◌≡◌, sym, ap, ap₂, ◌∙◌}
use lib.ListN.{length, get_or, take, drop, length-append, length-take, get_or-eq_default}
use lib.Pow.{pow_mono}
use lib.Seq.{take_at, drop_at, length-take-le}
use Rattle.bits.specs.Row.{digits, number, bits, packed, part_at, with_part}
use Rattle.bits.specs.Bytes.{Bytes}
use Rattle.bits.proofs.Digits.{Binary, binary_append, binary_take, binary_drop, binary_digits_lem, length_digits, number_lt, number_digits}
use Rattle.bits.proofs.Rows.{binary_bits, length_bits, length_packed, bits_packed, bytes_packed, packed_at, packed_bits}
use Rattle.bits.proofs.Parts.{le_or_lt, same_part, replaced, length_replaced, replaced_inside, replaced_before, replaced_after}

-- a part of n bits writes a number below 2^n
pub part_lt : (from width : ℕ) (bytes : List ℕ) → part_at from width bytes < 2 ^ width
part_lt from width bytes =
    let row : List ℕ = drop from (bits bytes) in
    lt_of_lt_of_le
    (number_lt (take width row) (binary_take width row (binary_drop from (bits bytes) (binary_bits bytes))))
    (pow_mono (rw (length-take width row) (omega arith)))

module _ (from width value : ℕ) (bytes : List ℕ) where
  abbrev row : List ℕ
  row = replaced from width (digits width value) (bits bytes)

  pub length_with : length (with_part from width value bytes) ≡ length bytes
  length_with = length_packed (length bytes) row

  binary_row : Binary row
  binary_row =
      binary_append (take from (bits bytes) ++ digits width value) (drop (from + width) (bits bytes))
      (binary_append (take from (bits bytes)) (digits width value) (binary_take from (bits bytes) (binary_bits bytes)) (binary_digits_lem width value))
      (binary_drop (from + width) (bits bytes) (binary_bits bytes))

  pub bytes_with : Bytes (with_part from width value bytes)
  bytes_with = bytes_packed (length bytes) row binary_row

  module _ (within : from + width ≤ length bytes * 8) where
    fits : from + width ≤ length (bits bytes)
    fits = rw (length_bits bytes) within

    bits_with : bits (with_part from width value bytes) ≡ row
    bits_with =
        bits_packed (length bytes) row
        (length_replaced from width (digits width value) (bits bytes) (length_digits width value) fits ∙ length_bits bytes) binary_row

    -- the part reads back
    pub part_back : value < 2 ^ width → part_at from width (with_part from width value bytes) ≡ value
    part_back h =
        rw bits_with
        (ap number (replaced_inside from width (digits width value) (bits bytes) (length_digits width value) fits)
        ∙ number_digits width value
        ∙ mod-eq_of_lt h)

    -- every bit that is not the part's stays
    pub bit_stays : (i : ℕ) → (i < from) ⊎ (from + width ≤ i)
        → get_or (bits (with_part from width value bytes)) i 0 ≡ get_or (bits bytes) i 0
    bit_stays i (inl h) = rw bits_with (replaced_before from width (digits width value) (bits bytes) (length_digits width value) fits i h)
    bit_stays i (inr h) = rw bits_with (replaced_after from width (digits width value) (bits bytes) (length_digits width value) fits i h)

    -- so does another part that does not meet it
    same_bits : (n other : ℕ) → (other + n ≤ from) ⊎ (from + width ≤ other)
        → take n (drop other (bits (with_part from width value bytes))) ≡ take n (drop other (bits bytes))
    same_bits n other apart =
        same_part n other (bits (with_part from width value bytes)) (bits bytes)
        (length_bits (with_part from width value bytes) ∙ ap (λ (m : ℕ). m * 8) length_with ∙ sym (length_bits bytes))
        (λ i h. bit_stays (other + i) (⊎_elim (λ below. inl (omega arith)) (λ above. inr (omega arith)) apart))

    pub part_stays : (n other : ℕ) → (other + n ≤ from) ⊎ (from + width ≤ other)
        → part_at other n (with_part from width value bytes) ≡ part_at other n bytes
    part_stays n other apart = ap number (same_bits n other apart)

    -- and every byte behind it
    pub byte_stays : Bytes bytes → (i : ℕ) → from + width ≤ i * 8 → get_or (with_part from width value bytes) i 0 ≡ get_or bytes i 0
    byte_stays own i h = by (le_or_lt (length bytes) i)
      where
        by : (length bytes ≤ i) ⊎ (i < length bytes) → get_or (with_part from width value bytes) i 0 ≡ get_or bytes i 0
        by (inl out) = get_or-eq_default (with_part from width value bytes) 0 (rw length_with out) ∙ sym (get_or-eq_default bytes 0 out)
        by (inr inside) =
            packed_at (length bytes) row i inside
            ∙ ap (λ (l : List ℕ). number (take 8 (drop (i * 8) l))) (sym bits_with)
            ∙ part_stays 8 (i * 8) (inr h)
            ∙ sym (packed_at (length bytes) (bits bytes) i inside)
            ∙ ap (λ (l : List ℕ). get_or l i 0) (packed_bits bytes own)

    -- the same value put there again changes nothing
    row_again : replaced from width (digits width value) row ≡ row
    row_again =
        let before : List ℕ = take from (bits bytes) in
        let after : List ℕ = drop (from + width) (bits bytes) in
        let long : length before ≡ from = length-take-le from (bits bytes) (omega (arith, fits)) in
        ap₂ (λ (l r : List ℕ). l ++ digits width value ++ r)
        (ap (take from) (append_assoc before (digits width value) after) ∙ take_at before (digits width value ++ after) from long)
        (drop_at (before ++ digits width value) after (from + width)
        (length-append before (digits width value) ∙ ap₂ ◌+◌ long (length_digits width value)))

    pub with_again : with_part from width value (with_part from width value bytes) ≡ with_part from width value bytes
    with_again = rw (length_with, bits_with) (ap (packed (length bytes)) row_again)
