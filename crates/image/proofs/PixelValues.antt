-- The value of a pixel, by the bytes that it takes: of a part of a raster as of the raster, and of one byte and of two.
-- Assumes nothing.
use Prim.Native.Nat.{ℕ, zero, suc, ◌+◌, ◌*◌, ◌-◌, ◌≤◌, ◌<◌}
use mathlib.Core.List.{List, [], ◌∷◌}
use mathlib.Core.Path.{◌≡◌, refl, ap, ◌∙◌}
use native.Mathlib.Omega.{arith}
use native.Mathlib.Nat.{add-zero, mul-one, add-mul}
use lib.ListN.{length, take, drop, get_or}
use lib.Seq.{take-take, drop-drop}
use Rattle.image.specs.Pixels.{bytes_value, pixel_at}
use Rattle.image.specs.Told.{pixel_by_part}

-- bytes of a part are bytes of the whole
part_within : (k a n : ℕ) (l : List ℕ) → a + k ≤ n → take k (drop a (take n l)) ≡ take k (drop a l)
part_within k zero n l h = take-take k n l (omega arith)
part_within k (suc a) zero l h = absurd (omega arith)
part_within k (suc a) (suc n) [] h = refl
part_within k (suc a) (suc n) (byte ∷ later) h = part_within k a n later (omega arith)

-- a pixel of a part that starts at a pixel is a pixel of the raster …
pub pixel_within : (per : ℕ) (raster : List ℕ) (from n i : ℕ) → i * per + per ≤ n
    → pixel_at per (take n (drop (from * per) raster)) i ≡ pixel_at per raster (from + i)
unfolding pixel_at
pixel_within per raster from n i h =
    ap (bytes_value 0)
    (rw (part_within per (i * per) n (drop (from * per) raster) h, drop-drop (i * per) (from * per) raster, add-mul from i per) refl)

-- … so the slice from a pixel's first byte to behind its last has that pixel
pub pixel_part : (per : ℕ) (raster : List ℕ) (position : ℕ) → pixel_by_part per raster position ≡ pixel_at per raster position
pixel_part per raster position =
    let size : 0 * per + per ≤ position * per + per - position * per = omega arith in
    pixel_within per raster position _ 0 size ∙ ap (pixel_at per raster) (add-zero position)

-- a pixel of one byte is the byte at its position
pub pixel_one : (raster : List ℕ) (position : ℕ) → pixel_at 1 raster position ≡ get_or raster position 0
unfolding pixel_at bytes_value
pixel_one raster position = rw (mul-one position) (by raster position)
  where
    by : (raster : List ℕ) (position : ℕ) → bytes_value 0 (take 1 (drop position raster)) ≡ get_or raster position 0
    by [] zero = refl
    by [] (suc position) = refl
    by (byte ∷ later) zero = omega arith
    by (byte ∷ later) (suc position) = by later position

-- a pixel of two bytes, where both are there …
pub pixel_pair : (bytes : List ℕ) → 2 ≤ length bytes → pixel_at 2 bytes 0 ≡ get_or bytes 0 0 * 256 + get_or bytes 1 0
unfolding pixel_at bytes_value
pixel_pair [] h = absurd (omega arith)
pixel_pair (high ∷ []) h = absurd (omega arith)
pixel_pair (high ∷ low ∷ later) h = omega arith

-- … and where there are fewer: the one byte, or 0 without any
pub pixel_pair_none : (bytes : List ℕ) → length bytes < 1 → pixel_at 2 bytes 0 ≡ 0
unfolding pixel_at bytes_value
pixel_pair_none [] h = refl
pixel_pair_none (byte ∷ later) h = absurd (omega arith)

pub pixel_pair_cut : (bytes : List ℕ) → length bytes < 2 → pixel_at 2 bytes 0 ≡ get_or bytes 0 0
unfolding pixel_at bytes_value
pixel_pair_cut [] h = refl
pixel_pair_cut (byte ∷ []) h = omega arith
pixel_pair_cut (high ∷ low ∷ later) h = absurd (omega arith)

-- the first pixel of two bytes, however many bytes there are
pub ruleset first_pair = (pixel_pair_none, pixel_pair_cut, pixel_pair)
