-- How many bytes a pixel takes, and how large that many bytes can be, once over their number.
-- Assumes nothing.
use Prim.Native.Nat.{ℕ, zero, suc, ◌+◌, ◌*◌, ◌^◌, ◌≤◌, ◌<◌}
use mathlib.Core.Bool.{Bool, true, false}
use mathlib.Core.List.{List, [], ◌∷◌}
use mathlib.Core.Path.{◌≡◌, refl}
use native.Mathlib.Omega.{arith}
use native.Mathlib.Nat.{mul-le-mul_right, pow-succ', one-le-pow}
use borrow.Author.Tests.{lt-ltb, le-ltb, ltb-true, ltb-false}
use lib.Dec.{ltb}
use lib.ListN.{take, drop, get_or}
use lib.Seq.{get_or-drop}
use Rattle.image.specs.Pixels.{pixel_bytes, bytes_value, pixel_at}

pub pixel_bytes_one : (maxval : ℕ) → maxval ≤ 255 → pixel_bytes maxval ≡ 1
unfolding pixel_bytes
pixel_bytes_one maxval low = rw (le-ltb 255 maxval low)

pub pixel_bytes_two : (maxval : ℕ) → 255 < maxval → pixel_bytes maxval ≡ 2
unfolding pixel_bytes
pixel_bytes_two maxval high = rw (lt-ltb 255 maxval high)

-- one or two
pub pixel_bytes_range : (maxval : ℕ) → (0 < pixel_bytes maxval) × (pixel_bytes maxval ≤ 2)
pixel_bytes_range maxval = by (ltb 255 maxval) refl
  where
    by : (b : Bool) → ltb 255 maxval ≡ b → (0 < pixel_bytes maxval) × (pixel_bytes maxval ≤ 2)
    by true e = let two = pixel_bytes_two maxval (ltb-true 255 maxval e) in (omega arith, omega arith)
    by false e = let one = pixel_bytes_one maxval (ltb-false 255 maxval e) in (omega arith, omega arith)

-- bytes, as a slice has them
abbrev pub AllBytes : List ℕ → Type 0
AllBytes l = (i : ℕ) → get_or l i 0 ≤ 255

-- up to `per` bytes behind a number
bytes_value_most : (high per : ℕ) (l : List ℕ) → AllBytes l → bytes_value high (take per l) < suc high * 256 ^ per
unfolding bytes_value
bytes_value_most high zero l bytes = omega arith
bytes_value_most high (suc per) [] bytes = omega (arith, mul-le-mul_right (suc high) (one-le-pow (suc per) 256 (omega arith)))
bytes_value_most high (suc per) (byte ∷ later) bytes =
    let carried : suc (high * 256 + byte) ≤ suc high * 256 = omega (arith, bytes 0) in
    rw (pow-succ' 256 per)
    (omega (arith, bytes_value_most (high * 256 + byte) per later (λ i. bytes (suc i)), mul-le-mul_right (256 ^ per) carried))

-- a pixel is below the number that its bytes cannot reach
pub pixel_most : (per : ℕ) (raster : List ℕ) (position : ℕ) → AllBytes raster → pixel_at per raster position < 256 ^ per
unfolding pixel_at
pixel_most per raster position bytes =
    let from = position * per in
    omega (arith, bytes_value_most 0 per (drop from raster) λ i. rw (get_or-drop from raster i 0) (bytes (from + i)))
