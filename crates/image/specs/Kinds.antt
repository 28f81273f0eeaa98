-- A kind of image is data: what reading, format, first fault and round trip have to know of it, and no more.
use Rattle.std.specs.Prelude.{ℕ, ◌+◌, ◌*◌, ◌/◌, Bool, false, List, [], ◌∷◌, ltb, get_or}
use Rattle.image.specs.Bytes.{gray_sign, bit_sign}
use Rattle.image.specs.Tests.{Test, up_to}
use Rattle.image.specs.Pixels.{pixel_bytes, pixel_at}

pub record Kind : Type 0 where
  -- the byte behind the `P`
  pub sign : ℕ
  -- a test for each number of the header, in order
  pub tests : List Test
  -- by the numbers of the header: the bytes of the raster, and its positions
  pub size : (numbers : List ℕ) → ℕ
  pub positions : (numbers : List ℕ) → ℕ
  -- whether what a raster holds at a position must not be there
  pub faulty : (numbers raster : List ℕ) (position : ℕ) → Bool

-- the numbers of a header by their names
abbrev pub width_in : List ℕ → ℕ
width_in numbers = get_or numbers 0 0

abbrev pub height_in : List ℕ → ℕ
height_in numbers = get_or numbers 1 0

abbrev pub maxval_in : List ℕ → ℕ
maxval_in numbers = get_or numbers 2 0

-- the largest width and height, and the largest maxval
abbrev pub largest_side : ℕ
largest_side = 1024

abbrev pub largest_maxval : ℕ
largest_maxval = 65535

-- the binary PGM of SCOPE, Images: `P5`, width, height, maxval; row by row; no pixel above maxval
unfoldable pub pgm : Kind
pgm =
    record {
      sign = gray_sign;
      tests = up_to largest_side ∷ up_to largest_side ∷ up_to largest_maxval ∷ [];
      size = λ numbers. width_in numbers * height_in numbers * pixel_bytes (maxval_in numbers);
      positions = λ numbers. width_in numbers * height_in numbers;
      faulty = λ numbers raster position. ltb (maxval_in numbers) (pixel_at (pixel_bytes (maxval_in numbers)) raster position);
    }

-- the bytes of a row of a PBM: a bit for each position, padded to a whole byte
abbrev pub row_bytes : (width : ℕ) → ℕ
row_bytes width = (width + 7) / 8

-- the binary PBM of SCOPE, Masks: `P4`, width, height; row by row; no bit makes it bad
unfoldable pub pbm : Kind
pbm =
    record {
      sign = bit_sign;
      tests = up_to largest_side ∷ up_to largest_side ∷ [];
      size = λ numbers. row_bytes (width_in numbers) * height_in numbers;
      positions = λ numbers. width_in numbers * height_in numbers;
      faulty = λ numbers raster position. false;
    }
