-- A raster and its pixels (SCOPE, Images). How many bytes a pixel takes is handed in as `per`.
use Rattle.std.specs.Prelude.{ℕ, zero, suc, ◌+◌, ◌*◌, Bool, false, ◌||◌, cond, List, [], ◌∷◌, ltb, take, drop}

-- the bytes of a pixel in an image of this maxval: above 255 there are two
unfoldable pub pixel_bytes : (maxval : ℕ) → ℕ
pixel_bytes maxval = cond (ltb 255 maxval) 2 1

-- the number that a pixel's bytes write, the highest byte first
unfoldable pub bytes_value : ℕ → List ℕ → ℕ
bytes_value high [] = high
bytes_value high (byte ∷ later) = bytes_value (high * 256 + byte) later

-- the pixel at a position of a raster, counted from 0
unfoldable pub pixel_at : ℕ → List ℕ → ℕ → ℕ
pixel_at per raster position = bytes_value 0 (take per (drop (position * per) raster))

-- whether a test holds of some of the first `count` positions
unfoldable pub at_some : (ℕ → Bool) → ℕ → Bool
at_some test zero = false
at_some test (suc count) = at_some test count || test count
