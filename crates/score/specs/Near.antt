-- How the code counts: the positions that did not change, by one threshold. Only contracts of private functions speak of this.
use Rattle.std.specs.Prelude.{ℕ, ◌*◌, ◌-◌, ◌/◌, Bool, not, List, leb, length}
use Rattle.image.specs.Pixels.{pixel_bytes, pixel_at}
use Rattle.score.specs.Changed.{apart, moved_at, counted}

-- the largest difference that does not count
abbrev pub threshold_of : (allowance maxval : ℕ) → ℕ
threshold_of allowance maxval = allowance * maxval / 255

-- whether two pixels are no more than a threshold apart
abbrev pub near : (threshold x y : ℕ) → Bool
near threshold x y = leb (apart x y) threshold

-- 1 where they are, else 0: told by differences that stop at 0, of which a compare of either width is proved without more ado
abbrev pub near_one : (threshold x y : ℕ) → ℕ
near_one threshold x y = 1 - (apart x y - threshold)

-- whether those at a position of two rasters are, with `per` bytes a pixel
abbrev pub near_at : (per threshold : ℕ) (first second : List ℕ) → ℕ → Bool
near_at per threshold first second position = near threshold (pixel_at per first position) (pixel_at per second position)

-- whether they are further apart
abbrev pub far_at : (per threshold : ℕ) (first second : List ℕ) → ℕ → Bool
far_at per threshold first second position = not (near_at per threshold first second position)

-- whether the pixels at a position of two rasters of images with this maxval moved, and at how many positions they did
abbrev pub moved_in : (allowance maxval : ℕ) (first second : List ℕ) → ℕ → Bool
moved_in allowance maxval first second = moved_at allowance maxval (pixel_at (pixel_bytes maxval) first) (pixel_at (pixel_bytes maxval) second)

abbrev pub changed_in : (allowance maxval : ℕ) (first second : List ℕ) → ℕ
changed_in allowance maxval first second = counted (moved_in allowance maxval first second) (length first / pixel_bytes maxval)
