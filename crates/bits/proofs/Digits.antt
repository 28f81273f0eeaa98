-- Rows of binary digits and the numbers that they write: each row of n digits writes one number below 2^n, and each such number
-- is written by one row.
-- Assumes nothing.
use Prim.Native.Nat.{ℕ, zero, suc, ◌+◌, ◌*◌, ◌/◌, ◌%◌, ◌^◌, ◌<◌, ◌≤◌}
use native.Mathlib.Nat.{mod-lt, mod-one, mod-eq_of_lt, mul-le-mul_right, pow-suc, add_comm}
use native.Mathlib.Numerals.{add-one}
use native.Mathlib.Omega.{arith}
use mathlib.Core.List.{List, [], ◌∷◌, ◌++◌}
use mathlib.Core.Path.{◌≡◌, refl, sym, ap, ap₂, ◌∙◌}
use lib.Dec.{lit<}
use lib.ListN.{length, take, drop, length-append, take-append-drop}
use lib.Pow.{pow-add, mod-pow-add, high, low}
use Rattle.bits.specs.Row.{digits, number}

-- every entry is 0 or 1
abbrev pub Binary : List ℕ → Type 0
Binary [] = Unit {0}
Binary (digit ∷ later) = (digit < 2) × Binary later

pub binary_append : (a b : List ℕ) → Binary a → Binary b → Binary (a ++ b)
binary_append [] b ha hb = hb
binary_append (d ∷ a) b ha hb = (ha.0, binary_append a b ha.1 hb)

pub binary_parts : (a b : List ℕ) → Binary (a ++ b) → Binary a × Binary b
binary_parts [] b h = (tt, h)
binary_parts (d ∷ a) b h = let p = binary_parts a b h.1 in ((h.0, p.0), p.1)

pub binary_take : (n : ℕ) (row : List ℕ) → Binary row → Binary (take n row)
binary_take n row h = (binary_parts (take n row) (drop n row) (rw (take-append-drop n row) h)).0

pub binary_drop : (n : ℕ) (row : List ℕ) → Binary row → Binary (drop n row)
binary_drop n row h = (binary_parts (take n row) (drop n row) (rw (take-append-drop n row) h)).1

pub binary_digits_lem : (n v : ℕ) → Binary (digits n v)
unfolding digits
binary_digits_lem zero v = tt
binary_digits_lem (suc n) v = (mod-lt (v / 2 ^ n) (lit< tt), binary_digits_lem n v)

pub length_digits : (n v : ℕ) → length (digits n v) ≡ n
unfolding digits
length_digits zero v = refl
length_digits (suc n) v = ap suc (length_digits n v)

pub number_append : (a b : List ℕ) → number (a ++ b) ≡ number a * 2 ^ length b + number b
unfolding number
number_append [] b = omega arith
number_append (d ∷ a) b =
    let weight : 2 ^ length (a ++ b) ≡ 2 ^ length a * 2 ^ length b = rw (length-append a b) (pow-add 2 (length a) (length b)) in
    omega (arith, number_append a b, ap (λ (w : ℕ). d * w) weight)

pub number_lt : (row : List ℕ) → Binary row → number row < 2 ^ length row
unfolding number
number_lt [] h = lit< tt
number_lt (d ∷ row) h =
    let top : d * 2 ^ length row ≤ 1 * 2 ^ length row = mul-le-mul_right (2 ^ length row) (omega arith) in
    omega (arith, number_lt row h.1, pow-suc 2 (length row))

pub number_digits : (n v : ℕ) → number (digits n v) ≡ v % 2 ^ n
unfolding number digits
number_digits zero v = sym (mod-one v)
number_digits (suc n) v =
    rw (length_digits n v, number_digits n v, ← add-one n, add_comm n 1) (sym (mod-pow-add v 1 n))

-- two rows of one length that write the same number are the same
pub number_injective : (a b : List ℕ) → length a ≡ length b → Binary a → Binary b → number a ≡ number b → a ≡ b
unfolding number
number_injective [] [] e ha hb same = refl
number_injective [] (d ∷ b) e ha hb same = absurd (omega arith)
number_injective (c ∷ a) [] e ha hb same = absurd (omega arith)
number_injective (c ∷ a) (d ∷ b) e ha hb same =
    let n : ℕ = length a in
    let e' : length b ≡ n = omega arith in
    let lo : number b < 2 ^ n = rw e' at (number_lt b hb.1) in
    let same' : c * 2 ^ n + number a ≡ d * 2 ^ n + number b = rw e' at same in
    ap₂ ◌∷◌
    (sym (high c n (number_lt a ha.1)) ∙ ap (λ (x : ℕ). x / 2 ^ n) same' ∙ high d n lo)
    (number_injective a b (sym e') ha.1 hb.1
    (sym (low c n (number_lt a ha.1)) ∙ ap (λ (x : ℕ). x % 2 ^ n) same' ∙ low d n lo))

-- a row is the digits of its number
pub digits_number : (n : ℕ) (row : List ℕ) → length row ≡ n → Binary row → digits n (number row) ≡ row
digits_number n row e h =
    number_injective (digits n (number row)) row (length_digits n (number row) ∙ sym e) (binary_digits_lem n (number row)) h
    (number_digits n (number row) ∙ mod-eq_of_lt (rw e at (number_lt row h)))

-- the digits of a number are those of its higher part and then those of its lower part
pub digits_add : (m n v : ℕ) → digits (m + n) v ≡ digits m (v / 2 ^ n) ++ digits n v
digits_add m n v =
    number_injective (digits (m + n) v) (digits m (v / 2 ^ n) ++ digits n v)
    (length_digits (m + n) v
    ∙ sym (length-append (digits m (v / 2 ^ n)) (digits n v) ∙ ap₂ ◌+◌ (length_digits m (v / 2 ^ n)) (length_digits n v)))
    (binary_digits_lem (m + n) v)
    (binary_append (digits m (v / 2 ^ n)) (digits n v) (binary_digits_lem m (v / 2 ^ n)) (binary_digits_lem n v))
    (number_digits (m + n) v
    ∙ mod-pow-add v m n
    ∙ sym
    (number_append (digits m (v / 2 ^ n)) (digits n v)
    ∙ rw (length_digits n v, number_digits n v, number_digits m (v / 2 ^ n))))

-- the number that stands between two parts of a row
pub number_between : (before row after : List ℕ) → Binary row → Binary after
    → number (before ++ (row ++ after)) / 2 ^ length after % 2 ^ length row ≡ number row
number_between before row after hr ha =
    rw (number_append before (row ++ after), number_append row after, length-append row after, pow-add 2 (length row) (length after))
    (ap (λ (x : ℕ). x / 2 ^ length after % 2 ^ length row)
    (regrouped (number before) (2 ^ length row) (2 ^ length after) (number row) (number after))
    ∙ ap (λ (x : ℕ). x % 2 ^ length row)
    (high (number before * 2 ^ length row + number row) (length after) (number_lt after ha))
    ∙ low (number before) (length row) (number_lt row hr))
  where
    regrouped : (x p q y z : ℕ) → x * (p * q) + (y * q + z) ≡ (x * p + y) * q + z
    regrouped x p q y z = omega arith
