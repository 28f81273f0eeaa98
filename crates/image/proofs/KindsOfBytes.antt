-- Kinds of bytes: a digit is not white, so that a run of either ends where the other begins, and `#` is neither.
-- Assumes nothing.
use Prim.Native.Nat.{ℕ, ◌≤◌}
use mathlib.Core.Bool.{Bool, true, false, ◌||◌}
use mathlib.Core.Path.{◌≡◌, refl, sym, ◌∙◌}
use native.Mathlib.Omega.{arith}
use borrow.Author.Tests.{ne_eqb}
use lib.Dec.{eqb}
use Rattle.decimals.specs.Decimal.{zero_byte, digit_byte, digit}
use Rattle.decimals.proofs.WritesAndReads.{digit_range, digit_low, digit_byte_lem}
use Rattle.image.specs.Bytes.{hash, space, tab, carriage_return, line_feed, white, line_end}

-- a byte that is none of the first three white bytes is white if it is the fourth
pub white_last : (byte : ℕ) → (byte ≡ space → ⊥) → (byte ≡ tab → ⊥) → (byte ≡ carriage_return → ⊥) → white byte ≡ eqb byte line_feed
unfolding white
white_last byte a b c = rw (ne_eqb byte space a, ne_eqb byte tab b, ne_eqb byte carriage_return c)

pub digit_not_white : (byte : ℕ) → digit byte ≡ true → white byte ≡ false
digit_not_white byte d =
    let low : zero_byte ≤ byte = (digit_range byte d).0 in
    white_last byte (λ e. omega arith) (λ e. omega arith) (λ e. omega arith) ∙ ne_eqb byte line_feed (λ e. omega arith)

pub white_not_digit : (byte : ℕ) → white byte ≡ true → digit byte ≡ false
white_not_digit byte w = by (digit byte) refl
  where
    by : (b : Bool) → digit byte ≡ b → b ≡ false
    by true d = sym w ∙ digit_not_white byte d
    by false d = refl

-- `#` is neither: where it begins no comment, it is a wrong byte
pub hash_is_neither : (white hash ≡ false) × (digit hash ≡ false)
unfolding white
hash_is_neither = (refl, digit_low hash (omega arith))

-- a digit, and a white byte
pub one_is_digit : digit (digit_byte 1) ≡ true
one_is_digit = digit_byte_lem 1 (omega arith)

pub one_not_white : white (digit_byte 1) ≡ false
one_not_white = digit_not_white (digit_byte 1) one_is_digit

pub line_feed_white : white line_feed ≡ true
unfolding white
line_feed_white = refl

-- a line end is white
pub line_end_white : (byte : ℕ) → line_end byte ≡ true → white byte ≡ true
unfolding line_end white
line_end_white byte e = by (eqb byte space) (eqb byte tab)
  where
    by : (a b : Bool) → (a || (b || (eqb byte carriage_return || eqb byte line_feed))) ≡ true
    by true b = refl
    by false true = refl
    by false false = e
