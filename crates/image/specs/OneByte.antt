-- How a PGM was read while a pixel took one byte: maxval went up to 255 (SCOPE, Pixels of two bytes).
use Rattle.std.specs.Prelude.{ℕ, ◌*◌, ◌&&◌, List, [], ◌∷◌, ◌++◌, ◌≡◌, leb, ltb}
use Rattle.image.specs.Bytes.{gray_sign}
use Rattle.image.specs.Tests.{Test, up_to}
use Rattle.image.specs.Pixels.{pixel_at}
use Rattle.image.specs.Kinds.{Kind, width_in, height_in, maxval_in, largest_side, largest_maxval}
use Rattle.image.specs.Format.{Header}
use Rattle.image.specs.FirstFault.{seen_in}

-- the PGM of then: as many bytes as positions
unfoldable pub pgm_one_byte : Kind
pgm_one_byte =
    record {
      sign = gray_sign;
      tests = up_to largest_side ∷ up_to largest_side ∷ up_to 255 ∷ [];
      size = λ numbers. width_in numbers * height_in numbers;
      positions = λ numbers. width_in numbers * height_in numbers;
      faulty = λ numbers raster position. ltb (maxval_in numbers) (pixel_at 1 raster position);
    }

-- the maxvals that were out of range then and are not now
abbrev pub wide : Test
wide value = ltb 255 value && leb value largest_maxval

-- a slice whose header bytes begin with a header of such a maxval
pub record WideMaxval (s : List ℕ) : Type 0 where
  pub header : List ℕ
  pub rest : List ℕ
  pub numbers : List ℕ
  pub split : seen_in s ≡ header ++ rest
  pub head : Header gray_sign (up_to largest_side ∷ up_to largest_side ∷ wide ∷ []) numbers header
