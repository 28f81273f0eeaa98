-- A bit of a row, by the byte that it stands in: the top bit of a byte comes first.
-- Assumes nothing.
use Prim.Native.Nat.{ℕ, zero, suc, ◌+◌, ◌*◌, ◌-◌, ◌/◌, ◌%◌, ◌^◌, ◌<◌}
use mathlib.Core.List.{List, [], ◌∷◌, ◌++◌}
use mathlib.Core.Path.{◌≡◌, sym, ap, ◌∙◌}
use native.Mathlib.Omega.{arith}
use native.Mathlib.Nat.{zero-add, zero-div}
use lib.ListN.{length, get_or, get_or-append}
use lib.Seq.{get_or-append-add}
use Rattle.bits.specs.Row.{digits, bits}
use Rattle.bits.proofs.Digits.{length_digits}

-- a digit of a number
digit_at : (n v i : ℕ) → i < n → get_or (digits n v) i 0 ≡ v / 2 ^ (n - 1 - i) % 2
unfolding digits
digit_at zero v i lt = absurd (omega arith)
digit_at (suc n) v zero lt = let e : suc n - 1 - 0 ≡ n = omega arith in rw e
digit_at (suc n) v (suc i) lt =
    let e : suc n - 1 - suc i ≡ n - 1 - i = omega arith in
    rw e (digit_at n v i (omega arith))

pub bit_of_byte : (row : List ℕ) (byte bit : ℕ) → bit < 8 → get_or (bits row) (8 * byte + bit) 0 ≡ get_or row byte 0 / 2 ^ (7 - bit) % 2
unfolding bits
bit_of_byte [] byte bit lt = sym (ap (λ (n : ℕ). n % 2) (zero-div (2 ^ (7 - bit))))
bit_of_byte (x ∷ row) zero bit lt =
    ap (λ (k : ℕ). get_or (digits 8 x ++ bits row) k 0) (zero-add bit)
    ∙ get_or-append (digits 8 x) (bits row) 0 bit (rw (length_digits 8 x) lt) ∙ digit_at 8 x bit lt
bit_of_byte (x ∷ row) (suc byte) bit lt =
    let e : 8 * suc byte + bit ≡ length (digits 8 x) + (8 * byte + bit) = rw (length_digits 8 x) (omega arith) in
    ap (λ (k : ℕ). get_or (digits 8 x ++ bits row) k 0) e ∙ get_or-append-add (digits 8 x) (bits row) (8 * byte + bit) 0 ∙ bit_of_byte row byte bit lt
