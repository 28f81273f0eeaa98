-- Which positions of a mask are black (SCOPE, Masks).
use Rattle.std.specs.Prelude.{ℕ, ◌*◌, ◌/◌, ◌%◌, Bool, List, eqb, take, drop, get_or}
use Rattle.bits.specs.Row.{bits}
use Rattle.image.specs.Kinds.{row_bytes}
use Rattle.image.specs.Mask.{mask_numbers_of, mask_in}

-- the bytes of a row of the raster: every row starts at a byte, whatever the width
abbrev pub row_of : (width : ℕ) (raster : List ℕ) (row : ℕ) → List ℕ
row_of width raster row = take (row_bytes width) (drop (row * row_bytes width) raster)

-- whether a column of a row is black: its bit is 1, and the top bit of the first byte comes first
unfoldable pub black_in : (row : List ℕ) (column : ℕ) → Bool
black_in row column = eqb (get_or (bits row) column 0) 1

-- whether a position is, by its row and its column; no padding bit is a position's
unfoldable pub black_at : (width : ℕ) (raster : List ℕ) (position : ℕ) → Bool
black_at width raster position = black_in (row_of width raster (position / width)) (position % width)

-- whether a position of a mask is
abbrev pub black_of : (mask : List ℕ) (position : ℕ) → Bool
black_of mask = black_at (mask_numbers_of mask).width (mask_in mask)
