-- Bytes that are 0 at the start of a row: every bit in them is 0, and so is every part. And a part that is 0: every bit in it is 0.
-- Assumes nothing.
use Prim.Native.Nat.{ℕ, zero, suc, ◌+◌, ◌-◌, ◌*◌, ◌^◌, ◌<◌, ◌≤◌}
use native.Mathlib.Nat.{suc-mul}
use native.Mathlib.Omega.{arith}
use mathlib.Core.List.{List, [], ◌∷◌, ◌++◌}
use mathlib.Core.Path.{◌≡◌, refl, sym, ap, ◌∙◌}
use lib.Dec.{lit<}
use lib.ListN.{length, get_or, take, drop, replicate, length-append, length-drop, length-replicate, get_or-append, get_or-replicate, replicate-append-replicate}
use lib.Pow.{pow_pos}
use lib.Seq.{length-take-le, get_or-take, get_or-drop, ext_get_or}
use Rattle.bits.specs.Row.{digits, number, bits, part_at}
use Rattle.bits.specs.Bytes.{Bytes}
use Rattle.bits.proofs.Rows.{length_bits, bits_append}

-- n zeros
abbrev pub zeros : ℕ → List ℕ
zeros n = replicate n 0

-- a row of zeros writes 0
pub number_zeros : (n : ℕ) → number (zeros n) ≡ 0
unfolding number
number_zeros zero = refl
number_zeros (suc n) = rw (number_zeros n) (omega arith)

-- bytes that are 0 have no other bits
pub bits_zeros : (n : ℕ) → bits (zeros n) ≡ zeros (n * 8)
unfolding bits digits
bits_zeros zero = refl
bits_zeros (suc n) =
    let e : 8 + n * 8 ≡ suc n * 8 = omega (arith, suc-mul n 8) in
    ap (λ (l : List ℕ). zeros 8 ++ l) (bits_zeros n)
    ∙ replicate-append-replicate 8 (n * 8) 0
    ∙ ap (λ (m : ℕ). zeros m) e

pub bytes_zeros : (n : ℕ) (rest : List ℕ) → Bytes rest → Bytes (zeros n ++ rest)
bytes_zeros zero rest h i = h i
bytes_zeros (suc n) rest h zero = lit< tt
bytes_zeros (suc n) rest h (suc i) = bytes_zeros n rest h i

pub zero_byte_lem : (n : ℕ) (rest : List ℕ) (i : ℕ) → i < n → get_or (zeros n ++ rest) i 0 ≡ 0
zero_byte_lem n rest i h = get_or-append (zeros n) rest 0 i (rw (length-replicate {A = ℕ} n 0) h) ∙ get_or-replicate n i 0 0 h

module _ (n : ℕ) (rest : List ℕ) where
  pub zero_bit : (i : ℕ) → i < n * 8 → get_or (bits (zeros n ++ rest)) i 0 ≡ 0
  zero_bit i h = rw (bits_append (zeros n) rest, bits_zeros n) (zero_byte_lem (n * 8) (bits rest) i h)

  pub zero_part : (from width : ℕ) → from + width ≤ n * 8 → part_at from width (zeros n ++ rest) ≡ 0
  zero_part from width h =
      let row : List ℕ = bits (zeros n ++ rest) in
      let long : n * 8 ≤ length row = rw (length_bits (zeros n ++ rest), length-append (zeros n) rest, length-replicate {A = ℕ} n 0) (omega arith) in
      let own : length (take width (drop from row)) ≡ width = length-take-le width (drop from row) (rw (length-drop from row) (omega arith)) in
      ap number
      (ext_get_or 0 (take width (drop from row)) (zeros width) (own ∙ sym (length-replicate {A = ℕ} width 0))
      (λ i inside.
      let below : i < width = rw own at inside in
      get_or-take width (drop from row) i 0 below
      ∙ get_or-drop from row i 0
      ∙ zero_bit (from + i) (omega arith)
      ∙ sym (get_or-replicate width i 0 0 below)))
      ∙ number_zeros width

-- a number with a weight comes to 0 only where it is 0
weighed_0 : (digit weight : ℕ) → 0 < weight → digit * weight ≡ 0 → digit ≡ 0
weighed_0 zero weight h e = refl
weighed_0 (suc n) weight h e = absurd (omega (arith, suc-mul n weight))

-- a row that writes 0 has no other digits
digits_0 : (row : List ℕ) → number row ≡ 0 → (i : ℕ) → get_or row i 0 ≡ 0
unfolding number
digits_0 [] e i = refl
digits_0 (digit ∷ later) e zero = weighed_0 digit (2 ^ length later) (pow_pos (length later)) (omega arith)
digits_0 (digit ∷ later) e (suc i) = digits_0 later (omega arith) i

-- and a part that writes 0 has no other bits
pub zero_in_part : (from width : ℕ) (bytes : List ℕ) → part_at from width bytes ≡ 0
    → (i : ℕ) → from ≤ i → i < from + width → get_or (bits bytes) i 0 ≡ 0
zero_in_part from width bytes e i low high =
    let k : ℕ = i - from in
    let at_i : i ≡ from + k = omega arith in
    let part : List ℕ = drop from (bits bytes) in
    ap (λ (j : ℕ). get_or (bits bytes) j 0) at_i
    ∙ sym (get_or-take width part k 0 (omega arith) ∙ get_or-drop from (bits bytes) k 0)
    ∙ digits_0 (take width part) e k
