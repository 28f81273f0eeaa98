-- One byte of a row: its bits are its digits.
-- Assumes nothing.
use Prim.Native.Nat.{ℕ, zero, suc, ◌+◌, ◌*◌, ◌/◌, ◌%◌, ◌<◌}
use native.Mathlib.Nat.{suc-mul, div-one}
use native.Mathlib.Omega.{arith}
use mathlib.Core.List.{List, [], ◌∷◌, ◌++◌}
use mathlib.Core.Path.{◌≡◌, refl, sym, ap, ◌∙◌}
use lib.ListN.{length, get_or, take, drop}
use lib.Seq.{drop-append-add, drop-cons, drop-nil, take-add, take-nil, take_at, drop_at}
use Rattle.bits.specs.Row.{digits, bits}
use Rattle.bits.proofs.Digits.{length_digits}

-- behind the first n bytes stand the bits behind the first n·8
pub bits_drop : (n : ℕ) (row : List ℕ) → bits (drop n row) ≡ drop (n * 8) (bits row)
unfolding bits
bits_drop zero row = refl
bits_drop (suc n) [] = sym (drop-nil (suc n * 8))
bits_drop (suc n) (x ∷ row) =
    let e : suc n * 8 ≡ length (digits 8 x) + n * 8 = rw (length_digits 8 x) (omega (arith, suc-mul n 8)) in
    bits_drop n row ∙ sym (ap (λ (k : ℕ). drop k (digits 8 x ++ bits row)) e ∙ drop-append-add (digits 8 x) (bits row) (n * 8))

-- and the first n bytes have the first n·8 bits
pub bits_take : (n : ℕ) (row : List ℕ) → bits (take n row) ≡ take (n * 8) (bits row)
unfolding bits
bits_take zero row = refl
bits_take (suc n) [] = sym (take-nil (suc n * 8))
bits_take (suc n) (x ∷ row) =
    let e : suc n * 8 ≡ 8 + n * 8 = omega (arith, suc-mul n 8) in
    rw (
      e,
      take-add 8 (n * 8) (digits 8 x ++ bits row),
      take_at (digits 8 x) (bits row) 8 (length_digits 8 x),
      drop_at (digits 8 x) (bits row) 8 (length_digits 8 x),
      bits_take n row,
    )

-- the bits of one byte are its digits
pub bits_of_byte : (row : List ℕ) (at : ℕ) → at < length row → take 8 (drop (at * 8) (bits row)) ≡ digits 8 (get_or row at 0)
unfolding bits
bits_of_byte row at h =
    let byte : ℕ = get_or row at 0 in
    ap (take 8) (sym (bits_drop at row) ∙ ap bits (drop-cons row at 0 h))
    ∙ take_at (digits 8 byte) (bits (drop (suc at) row)) 8 (length_digits 8 byte)

-- the digits of a byte, one by one
pub digits_of_byte : (byte : ℕ)
    → digits 8 byte
    ≡ byte / 128 % 2 ∷ byte / 64 % 2 ∷ byte / 32 % 2 ∷ byte / 16 % 2 ∷ byte / 8 % 2 ∷ byte / 4 % 2 ∷ byte / 2 % 2 ∷ byte % 2 ∷ []
unfolding digits
digits_of_byte byte =
    ap (λ (last : ℕ). byte / 128 % 2 ∷ byte / 64 % 2 ∷ byte / 32 % 2 ∷ byte / 16 % 2 ∷ byte / 8 % 2 ∷ byte / 4 % 2 ∷ byte / 2 % 2 ∷ last % 2 ∷ [])
    (div-one byte)
