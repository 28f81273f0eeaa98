-- Rows of bits in bytes: unpacking and packing undo each other, and each goes part by part.
-- Assumes nothing.
use Prim.Native.Nat.{ℕ, zero, suc, ◌+◌, ◌*◌, ◌/◌, ◌%◌, ◌^◌, ◌<◌, ◌≤◌}
use native.Mathlib.Nat.{mod-eq_of_lt, suc-add, suc-mul, add_comm, add-zero, lt_of_lt_of_le}
use native.Mathlib.Omega.{arith}
use mathlib.Core.List.{List, [], ◌∷◌, ◌++◌, append_assoc}
use mathlib.Core.Path.{◌≡◌, refl, sym, ap, ap₂, ◌∙◌}
use lib.ListN.{length, get_or, take, drop, length-append, length-take, length-drop, take-append-drop}
use lib.Dec.{lit<}
use lib.Pow.{pow_mono}
use lib.Seq.{get_or-drop, take_at, drop_at, take-append-le, drop-append-le, length-take-le, drop-drop}
use Rattle.bits.specs.Row.{digits, number, bits, packed}
use Rattle.bits.specs.Bytes.{Bytes}
use Rattle.bits.proofs.Digits.{Binary, binary_append, binary_take, binary_drop, binary_digits_lem, length_digits, number_digits, digits_number, digits_add, number_append, number_lt}

pub bytes_take : (n : ℕ) (xs : List ℕ) → Bytes xs → Bytes (take n xs)
bytes_take zero xs h i = lit< tt
bytes_take (suc n) [] h i = lit< tt
bytes_take (suc n) (x ∷ xs) h zero = h 0
bytes_take (suc n) (x ∷ xs) h (suc i) = bytes_take n xs (λ j. h (suc j)) i

pub bytes_drop : (n : ℕ) (xs : List ℕ) → Bytes xs → Bytes (drop n xs)
bytes_drop n xs h i = rw (get_or-drop n xs i 0) (h (n + i))

pub binary_bits : (xs : List ℕ) → Binary (bits xs)
unfolding bits
binary_bits [] = tt
binary_bits (x ∷ xs) = binary_append (digits 8 x) (bits xs) (binary_digits_lem 8 x) (binary_bits xs)

pub length_bits : (xs : List ℕ) → length (bits xs) ≡ length xs * 8
unfolding bits
length_bits [] = refl
length_bits (x ∷ xs) = rw (length-append (digits 8 x) (bits xs), length_digits 8 x, length_bits xs) (omega arith)

pub bits_append : (xs ys : List ℕ) → bits (xs ++ ys) ≡ bits xs ++ bits ys
unfolding bits
bits_append [] ys = refl
bits_append (x ∷ xs) ys = rw (bits_append xs ys) (sym (append_assoc (digits 8 x) (bits xs) (bits ys)))

-- the number that bytes write, byte by byte
pub number_bits : (x : ℕ) (xs : List ℕ) → x < 256 → number (bits (x ∷ xs)) ≡ x * 2 ^ (length xs * 8) + number (bits xs)
unfolding bits
number_bits x xs h =
    rw (number_append (digits 8 x) (bits xs), number_digits 8 x, mod-eq_of_lt {n = x} {m = 256} h, length_bits xs)

pub length_packed : (n : ℕ) (row : List ℕ) → length (packed n row) ≡ n
unfolding packed
length_packed zero row = refl
length_packed (suc n) row = ap suc (length_packed n (drop 8 row))

pub packed_append : (m n : ℕ) (row more : List ℕ) → length row ≡ m * 8 → packed (m + n) (row ++ more) ≡ packed m row ++ packed n more
unfolding packed
packed_append zero n [] more e = ap (λ (k : ℕ). packed k more) (add_comm 0 n ∙ add-zero n)
packed_append zero n (d ∷ row) more e = absurd (omega arith)
packed_append (suc m) n row more e =
    let long : 8 ≤ length row = omega (arith, suc-mul m 8) in
    rw (suc-add m n, take-append-le 8 row more long, drop-append-le 8 row more long)
    (ap (λ (r : List ℕ). number (take 8 row) ∷ r)
    (packed_append m n (drop 8 row) more (length-drop 8 row ∙ omega (arith, suc-mul m 8))))

-- bytes unpacked and packed again
pub packed_bits : (xs : List ℕ) → Bytes xs → packed (length xs) (bits xs) ≡ xs
unfolding packed bits
packed_bits [] h = refl
packed_bits (x ∷ xs) h =
    rw (take_at (digits 8 x) (bits xs) 8 (length_digits 8 x), drop_at (digits 8 x) (bits xs) 8 (length_digits 8 x))
    (ap₂ ◌∷◌ (number_digits 8 x ∙ mod-eq_of_lt (h 0)) (packed_bits xs (λ i. h (suc i))))

-- bits packed and unpacked again
pub bits_packed : (n : ℕ) (row : List ℕ) → length row ≡ n * 8 → Binary row → bits (packed n row) ≡ row
unfolding packed bits
bits_packed zero [] e h = refl
bits_packed zero (d ∷ row) e h = absurd (omega arith)
bits_packed (suc n) row e h =
    let long : 8 ≤ length row = omega (arith, suc-mul n 8) in
    rw (
      digits_number 8 (take 8 row) (length-take-le 8 row long) (binary_take 8 row h),
      bits_packed n (drop 8 row) (length-drop 8 row ∙ omega (arith, suc-mul n 8)) (binary_drop 8 row h),
    )
    (take-append-drop 8 row)

-- one byte of a packed row
pub packed_at : (n : ℕ) (row : List ℕ) (i : ℕ) → i < n → get_or (packed n row) i 0 ≡ number (take 8 (drop (i * 8) row))
unfolding packed
packed_at zero row i h = absurd (omega arith)
packed_at (suc n) row zero h = refl
packed_at (suc n) row (suc i) h =
    let e : 8 + i * 8 ≡ suc i * 8 = omega (arith, suc-mul i 8) in
    packed_at n (drop 8 row) i (omega arith)
    ∙ ap (λ (l : List ℕ). number (take 8 l)) (drop-drop (i * 8) 8 row ∙ ap (λ (k : ℕ). drop k row) e)

-- the digits of a word packed: its highest byte, and then the rest
pub packed_digits : (n v : ℕ) → packed (suc n) (digits (suc n * 8) v) ≡ v / 2 ^ (n * 8) % 256 ∷ packed n (digits (n * 8) v)
unfolding packed
packed_digits n v =
    rw (
      suc-mul n 8,
      add_comm (n * 8) 8,
      digits_add 8 (n * 8) v,
      take_at (digits 8 (v / 2 ^ (n * 8))) (digits (n * 8) v) 8 (length_digits 8 (v / 2 ^ (n * 8))),
      drop_at (digits 8 (v / 2 ^ (n * 8))) (digits (n * 8) v) 8 (length_digits 8 (v / 2 ^ (n * 8))),
    )
    (ap (λ (x : ℕ). x ∷ packed n (digits (n * 8) v)) (number_digits 8 (v / 2 ^ (n * 8))))

pub bytes_packed : (n : ℕ) (row : List ℕ) → Binary row → Bytes (packed n row)
unfolding packed
bytes_packed zero row h i = lit< tt
bytes_packed (suc n) row h zero =
    lt_of_lt_of_le (number_lt (take 8 row) (binary_take 8 row h)) (pow_mono {j = 8} (rw (length-take 8 row) (omega arith)))
bytes_packed (suc n) row h (suc i) = bytes_packed n (drop 8 row) (binary_drop 8 row h) i
