-- Which positions of two images changed (SCOPE, Score), and how many positions pass a test.
use Rattle.std.specs.Prelude.{ℕ, zero, suc, ◌+◌, ◌*◌, ◌-◌, Bool, cond, ltb}

-- by how much two pixels differ
abbrev pub apart : ℕ → ℕ → ℕ
apart x y = (x - y) + (y - x)

-- whether two pixels of images with this maxval differ by more than the allowance, which is in parts of 255: whether their difference times
-- 255 is more than the allowance times maxval
unfoldable pub moved : (allowance maxval x y : ℕ) → Bool
moved allowance maxval x y = ltb (allowance * maxval) (apart x y * 255)

-- whether the pixels at a position do
abbrev pub moved_at : (allowance maxval : ℕ) (first second : ℕ → ℕ) → ℕ → Bool
moved_at allowance maxval first second position = moved allowance maxval (first position) (second position)

-- 1 where a test holds, else 0
abbrev pub one_if : Bool → ℕ
one_if holds = cond holds 1 0

-- how many of the first `count` positions pass a test
unfoldable pub counted : (test : ℕ → Bool) (count : ℕ) → ℕ
counted test zero = 0
counted test (suc count) = counted test count + one_if (test count)
