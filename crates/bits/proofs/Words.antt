-- Words of a few bytes, the highest byte first: loaded and stored byte by byte.
-- Assumes nothing.
use Prim.Native.Nat.{ℕ, suc, ◌+◌, ◌*◌, ◌/◌, ◌%◌, ◌^◌, ◌<◌, ◌≤◌}
use native.Mathlib.Nat.{add-zero, lt_of_lt_of_le, div-one}
use native.Mathlib.Numerals.{add-one, add-two}
use native.Mathlib.Omega.{arith}
use mathlib.Core.List.{List, [], ◌∷◌, ◌++◌, append_assoc}
use mathlib.Core.Path.{◌≡◌, refl, sym, ap, ◌∙◌}
use lib.ListN.{length, get_or, take, drop, set, length-take, length-drop}
use lib.Pow.{pow_mono}
use lib.Seq.{take-suc, get_or-drop, drop-drop, sets, sets-eq}
use Rattle.bits.specs.Row.{digits, number, bits, packed}
use Rattle.bits.specs.Bytes.{Bytes}
use Rattle.bits.proofs.Digits.{number_append, number_lt}
use Rattle.bits.proofs.Rows.{binary_bits, length_bits, bits_append, number_bits, length_packed, packed_digits}

-- the word that the bytes write
abbrev pub word_of : List ℕ → ℕ → ℕ → ℕ
word_of ring first count = number (bits (take count (drop first ring)))

-- A word is loaded byte by byte.
module _ (ring : List ℕ) (bytes : Bytes ring) (first : ℕ) where
  word_none : word_of ring first 0 ≡ 0
  unfolding number bits
  word_none = refl

  -- one byte more
  word_more : (n : ℕ) → first + n < length ring → word_of ring first (suc n) ≡ word_of ring first n * 256 + get_or ring (first + n) 0
  unfolding number bits
  word_more n h =
      let inside : n < length (drop first ring) = rw (length-drop first ring) (omega arith) in
      let byte : get_or (drop first ring) n 0 ≡ get_or ring (first + n) 0 = get_or-drop first ring n 0 in
      rw (
        take-suc (drop first ring) n 0 inside,
        bits_append (take n (drop first ring)) (get_or (drop first ring) n 0 ∷ []),
        byte,
        number_append (bits (take n (drop first ring))) (bits (get_or ring (first + n) 0 ∷ [])),
        length_bits (get_or ring (first + n) 0 ∷ []),
        number_bits (get_or ring (first + n) 0) [] (bytes (first + n)),
      )
      (omega arith)

  pub word_one : first + 1 ≤ length ring → word_of ring first 1 ≡ get_or ring first 0
  word_one h =
      word_more 0 (omega arith) ∙ rw (word_none, add-zero first) (omega arith)

  pub word_two : first + 2 ≤ length ring → word_of ring first 2 ≡ get_or ring first 0 * 256 + get_or ring (first + 1) 0
  word_two h = word_more 1 (omega arith) ∙ rw (word_one (omega arith))

  pub word_three : first + 3 ≤ length ring
      → word_of ring first 3 ≡ (get_or ring first 0 * 256 + get_or ring (first + 1) 0) * 256 + get_or ring (first + 2) 0
  word_three h = word_more 2 (omega arith) ∙ rw (word_two (omega arith))

  pub word_four : first + 4 ≤ length ring
      → word_of ring first 4
      ≡ ((get_or ring first 0 * 256 + get_or ring (first + 1) 0) * 256 + get_or ring (first + 2) 0) * 256 + get_or ring (first + 3) 0
  word_four h = word_more 3 (omega arith) ∙ rw (word_three (omega arith))

-- a word of at most three bytes is below 2^24
pub word_lt : (ring : List ℕ) (first count : ℕ) → count ≤ 3 → word_of ring first count < 2 ^ 24
word_lt ring first count h =
    lt_of_lt_of_le (number_lt (bits (take count (drop first ring))) (binary_bits (take count (drop first ring))))
    (pow_mono {j = 24} (rw (length_bits (take count (drop first ring)), length-take count (drop first ring)) (omega arith)))

-- A word is stored byte by byte.
module _ (ring : List ℕ) (first word : ℕ) where
  -- the ring with the lowest n bytes of the word from `first` on
  abbrev pub stored : ℕ → List ℕ
  stored n = take first ring ++ (packed n (digits (n * 8) word) ++ drop n (drop first ring))

  stored_sets : (n : ℕ) → first + n ≤ length ring → sets ring first (packed n (digits (n * 8) word)) ≡ stored n
  stored_sets n h =
      let long : length (packed n (digits (n * 8) word)) ≡ n = length_packed n (digits (n * 8) word) in
      sets-eq (packed n (digits (n * 8) word)) ring first (rw long h)
      ∙ append_assoc (take first ring) (packed n (digits (n * 8) word)) (drop (first + length (packed n (digits (n * 8) word))) ring)
      ∙ ap (λ (l : List ℕ). take first ring ++ (packed n (digits (n * 8) word) ++ l))
      (ap (λ (k : ℕ). drop (first + k) ring) long ∙ sym (drop-drop n first ring))

  octet : packed 1 (digits (1 * 8) word) ≡ word % 256 ∷ []
  unfolding packed
  octet = packed_digits 0 word ∙ ap (λ (x : ℕ). x % 256 ∷ []) (div-one word)

  octets_two : packed 2 (digits (2 * 8) word) ≡ word / 256 % 256 ∷ word % 256 ∷ []
  octets_two = packed_digits 1 word ∙ ap (λ (l : List ℕ). word / 256 % 256 ∷ l) octet

  octets_three : packed 3 (digits (3 * 8) word) ≡ word / 65536 % 256 ∷ word / 256 % 256 ∷ word % 256 ∷ []
  octets_three = packed_digits 2 word ∙ ap (λ (l : List ℕ). word / 65536 % 256 ∷ l) octets_two

  pub store_one : first + 1 ≤ length ring → set ring first (word % 256) ≡ stored 1
  store_one h = sym (ap (sets ring first) octet) ∙ stored_sets 1 h

  pub store_two : first + 2 ≤ length ring → set (set ring first (word / 256 % 256)) (first + 1) (word % 256) ≡ stored 2
  store_two h = rw (add-one first) (sym (ap (sets ring first) octets_two) ∙ stored_sets 2 h)

  pub store_three : first + 3 ≤ length ring
      → set (set (set ring first (word / 65536 % 256)) (first + 1) (word / 256 % 256)) (first + 2) (word % 256) ≡ stored 3
  store_three h = rw (add-one first, add-two first) (sym (ap (sets ring first) octets_three) ∙ stored_sets 3 h)
