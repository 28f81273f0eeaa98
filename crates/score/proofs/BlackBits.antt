-- Which columns of a row of a mask are black, by the bytes that they stand in, and which positions, by their rows.
-- Assumes nothing.
use Prim.Native.Nat.{ℕ, zero, suc, ◌+◌, ◌*◌, ◌-◌, ◌/◌, ◌%◌, ◌^◌, ◌≤◌, ◌<◌}
use mathlib.Core.Bool.{true, false, not}
use mathlib.Core.List.{List}
use mathlib.Core.Logic.{◌⊎◌, inl, inr}
use mathlib.Core.Path.{◌≡◌, refl, sym, ap, ◌∙◌}
use native.Mathlib.Omega.{arith}
use native.Mathlib.Nat.{add-zero, zero-add, add-suc, suc-add, zero-div}
use lib.Arith.{digits_div, digits_mod}
use lib.Dec.{eqb}
use lib.ListN.{length, get_or}
use Rattle.bits.proofs.Promises.{le_or_lt, bit_of_byte}
use Rattle.score.specs.Changed.{one_if}
use Rattle.score.specs.Black.{row_of, black_in, black_at}
use Rattle.score.specs.Rows.{black_bit, white_one, whites_from, white_table, WhiteBytes}

-- a column is a bit of its byte
pub black_in_byte : (row : List ℕ) (byte bit : ℕ) → bit < 8 → black_in row (8 * byte + bit) ≡ black_bit (get_or row byte 0) bit
unfolding black_in
black_in_byte row byte bit lt = ap (λ (n : ℕ). eqb n 1) (bit_of_byte row byte bit lt)

-- no bit of a byte of 0 is black …
none_black : (bit : ℕ) → black_bit 0 bit ≡ false
none_black bit = ap (λ (n : ℕ). eqb (n % 2) 1) (zero-div (2 ^ (7 - bit)))

-- … and every bit of one of 255 is
pub all_black : (bit : ℕ) → bit < 8 → black_bit 255 bit ≡ true
all_black zero lt = refl
all_black (suc zero) lt = refl
all_black (suc (suc zero)) lt = refl
all_black (suc (suc (suc zero))) lt = refl
all_black (suc (suc (suc (suc zero)))) lt = refl
all_black (suc (suc (suc (suc (suc zero))))) lt = refl
all_black (suc (suc (suc (suc (suc (suc zero)))))) lt = refl
all_black (suc (suc (suc (suc (suc (suc (suc zero))))))) lt = refl
all_black (suc (suc (suc (suc (suc (suc (suc (suc bit)))))))) lt = absurd (omega arith)

-- the numbers of the table of white bits
whites_at : (count place k : ℕ) → k < count → get_or (whites_from count place) k 0 ≡ white_one (place + k)
unfolding whites_from
whites_at zero place k lt = absurd (omega arith)
whites_at (suc count) place zero lt = ap white_one (sym (add-zero place))
whites_at (suc count) place (suc k) lt = whites_at count (suc place) k (omega arith) ∙ ap white_one (suc-add place k ∙ sym (add-suc place k))

pub whites_size : length white_table ≡ 64
unfolding whites_from
whites_size = refl

-- at the places of a half, those of its bits
whites_half : (half bit : ℕ) → half < 16 → bit < 4 → get_or white_table (half * 4 + bit) 0 ≡ one_if (not (black_bit half (4 + bit)))
whites_half half bit half_lt bit-lt =
    let is_half : (half * 4 + bit) / 4 ≡ half = omega arith in
    let is_bit : (half * 4 + bit) % 4 ≡ bit = omega arith in
    whites_at 64 0 (half * 4 + bit) (omega arith) ∙ ap white_one (zero-add (half * 4 + bit)) ∙ λ i. one_if (not (black_bit (is_half i) (4 + is_bit i)))

-- which are the bits of a byte, in its first half and in its second
first_half : (byte bit : ℕ) → bit < 4 → byte / 16 / 2 ^ (7 - (4 + bit)) % 2 ≡ byte / 2 ^ (7 - bit) % 2
first_half byte zero lt = let e : byte / 16 / 8 % 2 ≡ byte / 128 % 2 = omega arith in e
first_half byte (suc zero) lt = let e : byte / 16 / 4 % 2 ≡ byte / 64 % 2 = omega arith in e
first_half byte (suc (suc zero)) lt = let e : byte / 16 / 2 % 2 ≡ byte / 32 % 2 = omega arith in e
first_half byte (suc (suc (suc zero))) lt = let e : byte / 16 / 1 % 2 ≡ byte / 16 % 2 = omega arith in e
first_half byte (suc (suc (suc (suc bit)))) lt = absurd (omega arith)

second_half : (byte bit : ℕ) → bit < 4 → byte % 16 / 2 ^ (7 - (4 + bit)) % 2 ≡ byte / 2 ^ (7 - (4 + bit)) % 2
second_half byte zero lt = let e : byte % 16 / 8 % 2 ≡ byte / 8 % 2 = omega arith in e
second_half byte (suc zero) lt = let e : byte % 16 / 4 % 2 ≡ byte / 4 % 2 = omega arith in e
second_half byte (suc (suc zero)) lt = let e : byte % 16 / 2 % 2 ≡ byte / 2 % 2 = omega arith in e
second_half byte (suc (suc (suc zero))) lt = let e : byte % 16 / 1 % 2 ≡ byte / 1 % 2 = omega arith in e
second_half byte (suc (suc (suc (suc bit)))) lt = absurd (omega arith)

-- so the table has the white bits of a byte
module _ (byte bit : ℕ) (is_byte_lem : byte < 256) where
  pub white_first : bit < 4 → get_or white_table (byte / 16 * 4 + bit) 0 ≡ one_if (not (black_bit byte bit))
  white_first lt = whites_half (byte / 16) bit (omega arith) lt ∙ ap (λ (n : ℕ). one_if (not (eqb n 1))) (first_half byte bit lt)

  pub white_second : 4 ≤ bit → bit < 8 → get_or white_table (byte % 16 * 4 + bit - 4) 0 ≡ one_if (not (black_bit byte bit))
  white_second low high =
      let place : byte % 16 * 4 + bit - 4 ≡ byte % 16 * 4 + (bit - 4) = omega arith in
      let is_bit : 4 + (bit - 4) ≡ bit = omega arith in
      ap (λ (k : ℕ). get_or white_table k 0) place ∙ whites_half (byte % 16) (bit - 4) (omega arith) (omega arith)
      ∙ ap (λ (n : ℕ). one_if (not (eqb n 1))) (second_half byte (bit - 4) (omega arith)) ∙ ap (λ (b : ℕ). one_if (not (black_bit byte b))) is_bit

-- one byte more that is all white, before others and behind them
pub white_before : (row : List ℕ) (from to : ℕ) → get_or row from 0 ≡ 0 → WhiteBytes row (from + 1) to → WhiteBytes row from to
white_before row from to here white byte low high = by (le_or_lt byte from)
  where
    by : (byte ≤ from) ⊎ (from < byte) → get_or row byte 0 ≡ 0
    by (inl first) = let is : byte ≡ from = omega arith in ap (λ (b : ℕ). get_or row b 0) is ∙ here
    by (inr behind) = white byte (omega arith) high

pub white_more : (row : List ℕ) (from to : ℕ) → WhiteBytes row from to → get_or row to 0 ≡ 0 → WhiteBytes row from (to + 1)
white_more row from to white here byte low high = by (le_or_lt to byte)
  where
    by : (to ≤ byte) ⊎ (byte < to) → get_or row byte 0 ≡ 0
    by (inl last) = let is : byte ≡ to = omega arith in ap (λ (b : ℕ). get_or row b 0) is ∙ here
    by (inr before) = white byte low before

-- so the columns of white bytes are white
pub white_columns : (row : List ℕ) (from to column : ℕ) → WhiteBytes row from to → column < 8 * to - 8 * from → black_in row (8 * from + column) ≡ false
white_columns row from to column white lt =
    let byte = from + column / 8 in
    let place : 8 * from + column ≡ 8 * byte + column % 8 = omega arith in
    ap (black_in row) place ∙ black_in_byte row byte (column % 8) (omega arith)
    ∙ ap (λ (n : ℕ). black_bit n (column % 8)) (white byte (omega arith) (omega arith)) ∙ none_black (column % 8)

-- a position behind the rows before it is a column of its own row
pub black_in_row : (width : ℕ) (raster : List ℕ) (row column : ℕ) → column < width
    → black_at width raster (row * width + column) ≡ black_in (row_of width raster row) column
unfolding black_at
black_in_row width raster row column lt = λ i. black_in (row_of width raster (digits_div row lt i)) (digits_mod row lt i)
