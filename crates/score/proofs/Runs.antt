-- Counting under a mask part by part: a part of a row, a row, and the rasters of a part.
-- Assumes nothing.
use Prim.Native.Nat.{ℕ, ◌+◌, ◌*◌, ◌-◌, ◌/◌, ◌≤◌, ◌<◌}
use mathlib.Core.Bool.{Bool, not, ◌&&◌}
use mathlib.Core.List.{List}
use mathlib.Core.Path.{◌≡◌, sym, ap, ◌∙◌}
use native.Mathlib.Omega.{arith}
use native.Mathlib.Nat.{add_assoc, le_trans, mul_comm, mul-sub, mul-div_cancel, mul-le-mul_left, mul-le-mul_right}
use lib.ListN.{length, take, drop, length-drop}
use lib.Seq.{length-take-le}
use Rattle.image.specs.Kinds.{row_bytes}
use Rattle.image.specs.Pixels.{pixel_bytes, pixel_at}
use Rattle.image.proofs.Promises.{pixel_within, pixel_bytes_range}
use Rattle.score.specs.Changed.{moved, counted}
use Rattle.score.specs.Near.{moved_in, changed_in}
use Rattle.score.specs.Black.{row_of, black_in, black_at}
use Rattle.score.specs.Masked.{unmasked}
use Rattle.score.specs.Rows.{black_bit, count_from, Have}
use Rattle.score.proofs.Counts.{counted_nowhere, counted_onward, counted_same}
use Rattle.score.proofs.BlackBits.{all_black, black_in_row}

-- columns behind others, by what is black among them
pub count_onward : (black behind moved : ℕ → Bool) (at columns more : ℕ) → ((column : ℕ) → column < more → black (columns + column) ≡ behind column)
    → count_from black moved at (columns + more) ≡ count_from black moved at columns + count_from behind moved (at + columns) more
count_onward black behind moved at columns more same =
    let test = unmasked black (λ column. moved (at + column)) in
    counted_onward test columns more
    ∙ ap (λ (n : ℕ). counted test columns + n) (counted_same _ _ more λ column lt.
    λ i. not (same column lt i) && moved (sym (add_assoc at columns column) i))

-- a count with a part's own is that of all columns up to the part's end
pub with_part : (black behind moved : ℕ → Bool) (at from to : ℕ) {count part : ℕ} → from ≤ to
    → ((column : ℕ) → column < to - from → black (from + column) ≡ behind column)
    → count ≡ count_from black moved at from → part ≡ count_from behind moved (at + from) (to - from) → count + part ≡ count_from black moved at to
with_part black behind moved at from to order same is-count is-part =
    let end : from + (to - from) ≡ to = omega arith in
    (λ i. is-count i + is-part i) ∙ sym (count_onward black behind moved at from (to - from) same) ∙ ap (count_from black moved at) end

-- under a black byte nothing counts
pub none_in_black : {byte : ℕ} → byte ≡ 255 → (moved : ℕ → Bool) (at columns : ℕ) → columns ≤ 8 → count_from (black_bit byte) moved at columns ≡ 0
none_in_black is-black moved at columns le =
    counted_nowhere _ columns λ bit lt.
    ap (λ (black : Bool). not black && moved (at + bit)) (ap (λ (n : ℕ). black_bit n bit) is-black ∙ all_black bit (omega arith))

-- the rows before a row, and the row
pub rows_onward : (width : ℕ) (mask : List ℕ) (moved : ℕ → Bool) (row : ℕ)
    → counted (unmasked (black_at width mask) moved) (row * width + width)
    ≡ counted (unmasked (black_at width mask) moved) (row * width) + count_from (black_in (row_of width mask row)) moved (row * width) width
rows_onward width mask moved row =
    let test = unmasked (black_at width mask) moved in
    counted_onward test (row * width) width
    ∙ ap (λ (n : ℕ). counted test (row * width) + n) (counted_same _ _ width λ column lt.
    λ i. not (black_in_row width mask row column lt i) && moved (row * width + column))

-- a row of a mask that has so many bytes: as the code cuts it out, and its own bytes
module _ (width : ℕ) (mask : List ℕ) (row : ℕ) where
  abbrev pub row_slice : List ℕ
  row_slice = take (row * row_bytes width + row_bytes width - row * row_bytes width) (drop (row * row_bytes width) mask)

  pub row_slice_lem : row_slice ≡ row_of width mask row
  row_slice_lem =
      let size : row * row_bytes width + row_bytes width - row * row_bytes width ≡ row_bytes width = omega arith in
      ap (λ (k : ℕ). take k (drop (row * row_bytes width) mask)) size

  module _ {height : ℕ} (within : row < height) where
    -- a number for each row before and this one
    upto : (each : ℕ) → row * each + each ≤ each * height
    upto each = let next : row + 1 ≤ height = omega arith in
        omega (arith, mul-le-mul_right each next)

    pub row_ends : length mask ≡ row_bytes width * height → row * row_bytes width + row_bytes width ≤ length mask
    row_ends size = omega (arith, upto (row_bytes width))

    pub row_positions : row * width + width ≤ width * height
    row_positions = upto width

    pub row_length : length mask ≡ row_bytes width * height → length row_slice ≡ row_bytes width
    row_length size =
        let fits : row_bytes width ≤ length (drop (row * row_bytes width) mask) =
        rw (length-drop (row * row_bytes width) mask) (omega (arith, row_ends size)) in
        ap length row_slice_lem ∙ length-take-le (row_bytes width) (drop (row * row_bytes width) mask) fits

  -- a count with a row's own is that of all positions up to the row's end
  pub with_row : (moved : ℕ → Bool) {count own : ℕ} → count ≡ counted (unmasked (black_at width mask) moved) (row * width)
      → own ≡ count_from (black_in row_slice) moved (row * width) width
      → count + own ≡ counted (unmasked (black_at width mask) moved) ((row + 1) * width)
  with_row moved is-count is-own =
      let next : row * width + width ≡ (row + 1) * width = omega arith in
      (λ i. is-count i + (is-own ∙ ap (λ (bytes : List ℕ). count_from (black_in bytes) moved (row * width) width) row_slice_lem) i)
      ∙ sym (rows_onward width mask moved row) ∙ ap (counted (unmasked (black_at width mask) moved)) next

-- rasters that have positions have fewer …
pub have_fewer : {maxval positions fewer : ℕ} {first second : List ℕ} → Have maxval first second positions → fewer ≤ positions
    → Have maxval first second fewer
have_fewer {maxval} have le =
    let fewer_bytes = mul-le-mul_right (pixel_bytes maxval) le in
    record {
      first_has = le_trans fewer_bytes have.first_has;
      second_has = le_trans fewer_bytes have.second_has;
      few = have.few;
      maxval_most = have.maxval_most;
    }

-- … and not many
pub have_few : {maxval positions : ℕ} {first second : List ℕ} → Have maxval first second positions → positions ≤ 24576
have_few {maxval} {positions} have =
    omega (arith, mul-le-mul_left positions (pixel_bytes_range maxval).0, have.first_has, have.few)

-- the bytes of their positions
pub bytes_had : {maxval per positions : ℕ} {first second : List ℕ} → Have maxval first second positions → pixel_bytes maxval ≡ per
    → (positions * per ≤ length first) × (positions * per ≤ length second)
bytes_had have e = rw (← e) (have.first_has, have.second_has)

-- the part of a raster from one position up to another
abbrev pub part_of : (per from to : ℕ) → List ℕ → List ℕ
part_of per from to raster = take (to * per - from * per) (drop (from * per) raster)

module _ (per from to : ℕ) (raster : List ℕ) (order : from ≤ to) (has : to * per ≤ length raster) where
  pub part_size : to * per - from * per ≡ (to - from) * per
  part_size = sym (mul_comm (to - from) per ∙ mul-sub per to from ∙ λ i. mul_comm per to i - mul_comm per from i)

  pub part_length : length (part_of per from to raster) ≡ (to - from) * per
  part_length =
      let fits : to * per - from * per ≤ length (drop (from * per) raster) =
      rw (length-drop (from * per) raster) (omega (arith, mul-le-mul_right per order)) in
      length-take-le (to * per - from * per) (drop (from * per) raster) fits ∙ part_size

  pub part_pixel : (i : ℕ) → i < to - from → pixel_at per (part_of per from to raster) i ≡ pixel_at per raster (from + i)
  part_pixel i lt = pixel_within per raster from (to * per - from * per) i (rw part_size (omega (arith, mul-le-mul_right per (lt_next i lt))))
    where
      lt_next : (i : ℕ) → i < to - from → i + 1 ≤ to - from
      lt_next i lt = omega arith

-- what changed in two parts changed there
pub part_changed : (allowance maxval from to : ℕ) (first second : List ℕ) → from ≤ to → Have maxval first second to
    → let per = pixel_bytes maxval in
    changed_in allowance maxval (part_of per from to first) (part_of per from to second)
    ≡ counted (λ column. moved_in allowance maxval first second (from + column)) (to - from)
part_changed allowance maxval from to first second order have =
    let per = pixel_bytes maxval in
    let count : length (part_of per from to first) / per ≡ to - from =
    rw (part_length per from to first order have.first_has) (mul-div_cancel (to - from) (pixel_bytes_range maxval).0) in
    ap (counted (moved_in allowance maxval (part_of per from to first) (part_of per from to second))) count
    ∙ counted_same _ _ (to - from) λ i lt.
    λ j. moved allowance maxval (part_pixel per from to first order have.first_has i lt j)
    (part_pixel per from to second order have.second_has i lt j)
