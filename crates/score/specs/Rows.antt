-- How the code counts under a mask: row by row, and in a row byte by byte of the mask. Only contracts of private functions speak of this.
use Rattle.std.specs.Prelude.{ℕ, zero, suc, ◌+◌, ◌*◌, ◌-◌, ◌/◌, ◌%◌, ◌^◌, ◌≤◌, ◌<◌, Bool, not, List, [], ◌∷◌, ◌≡◌, eqb, length, get_or}
use Rattle.image.specs.Pixels.{pixel_bytes}
use Rattle.score.specs.Changed.{one_if, counted}
use Rattle.score.specs.Near.{moved_in}
use Rattle.score.specs.Black.{black_at}
use Rattle.score.specs.Masked.{unmasked}

-- whether a bit of one byte is black, the top bit first
abbrev pub black_bit : (byte bit : ℕ) → Bool
black_bit byte bit = eqb (byte / 2 ^ (7 - bit) % 2) 1

-- the table of the white bits of half a byte, which are the last four bits of a byte below 16: four numbers for each half, 1 for white, else 0
abbrev pub white_one : (place : ℕ) → ℕ
white_one place = one_if (not (black_bit (place / 4) (4 + place % 4)))

unfoldable pub whites_from : (count place : ℕ) → List ℕ
whites_from zero place = []
whites_from (suc count) place = white_one place ∷ whites_from count (suc place)

abbrev pub white_table : List ℕ
white_table = whites_from 64 0

-- bytes of a row that are all white
abbrev pub WhiteBytes : (row : List ℕ) (from to : ℕ) → Type 0
WhiteBytes row from to = (byte : ℕ) → from ≤ byte → byte < to → get_or row byte 0 ≡ 0

-- how many positions from `at` on count, of so many columns, by which columns are black and which positions moved
abbrev pub count_from : (black moved : ℕ → Bool) (at columns : ℕ) → ℕ
count_from black moved at columns = counted (unmasked black (λ column. moved (at + column))) columns

-- at how many positions two rasters of images with this maxval changed that are not black in the raster of a mask
abbrev pub changed_under : (allowance maxval width height : ℕ) (first second mask : List ℕ) → ℕ
changed_under allowance maxval width height first second mask =
    counted (unmasked (black_at width mask) (moved_in allowance maxval first second)) (width * height)

-- two rasters of images with this maxval that have so many positions, and no more bytes than an image may have
pub record Have (maxval : ℕ) (first second : List ℕ) (positions : ℕ) : Type 0 where
  pub first_has : positions * pixel_bytes maxval ≤ length first
  pub second_has : positions * pixel_bytes maxval ≤ length second
  pub few : length first ≤ 24576
  pub maxval_most : maxval ≤ 65535
