-- When pixels moved, and that one threshold decides it, at every maxval and for pixels of any width.
-- Assumes nothing.
use Prim.Native.Nat.{ℕ, ◌+◌, ◌*◌, ◌-◌, ◌≤◌}
use mathlib.Core.Bool.{Bool, true, false, not, ◌&&◌}
use mathlib.Core.List.{List}
use mathlib.Core.Path.{◌≡◌, refl, sym, ap, ◌∙◌}
use native.Mathlib.Omega.{arith}
use native.Mathlib.Nat.{mul-le-mul_right}
use borrow.Author.Tests.{le-leb, ltb-true, ltb-false, leb-true, leb-false}
use Rattle.image.specs.Pixels.{pixel_bytes, pixel_at}
use Rattle.score.specs.Changed.{apart, moved, moved_at, one_if, counted}
use Rattle.score.specs.Near.{threshold_of, near, near_one, near_at, far_at, moved_in}
use Rattle.score.specs.Masked.{unmasked}
use Rattle.score.specs.Rows.{black_bit, count_from}
use Rattle.score.proofs.Counts.{counted_on, counted_same, counted_others}

-- a difference times 255 is above a number exactly where it is above a 255th of it
moved_not_near : (allowance maxval x y : ℕ) → moved allowance maxval x y ≡ not (near (threshold_of allowance maxval) x y)
unfolding moved
moved_not_near allowance maxval x y = by (moved allowance maxval x y) (near (threshold_of allowance maxval) x y) refl refl
  where
    by : (m n : Bool) → moved allowance maxval x y ≡ m → near (threshold_of allowance maxval) x y ≡ n → m ≡ not n
    by true true e f = absurd (omega (arith, ltb-true, leb-true))
    by true false e f = refl
    by false true e f = refl
    by false false e f = absurd (omega (arith, ltb-false, leb-false))

-- so pixels that differ by no more than the allowance did not move
pub within_still : (allowance maxval x y : ℕ) → apart x y * 255 ≤ allowance * maxval → moved allowance maxval x y ≡ false
within_still allowance maxval x y h =
    moved_not_near allowance maxval x y ∙ ap not (le-leb (apart x y) (threshold_of allowance maxval) (omega (arith, h)))

-- the threshold is no more than maxval
pub threshold_most : (allowance maxval : ℕ) → allowance ≤ 255 → threshold_of allowance maxval ≤ maxval
threshold_most allowance maxval h = omega (arith, mul-le-mul_right maxval h)

-- the positions that moved are all but the near ones
pub moved_are_others : (allowance maxval per count : ℕ) (first second : List ℕ)
    → counted (near_at per (threshold_of allowance maxval) first second) count
    + counted (moved_at allowance maxval (pixel_at per first) (pixel_at per second)) count ≡ count
moved_are_others allowance maxval per count first second =
    counted_others _ _ count (λ position. moved_not_near allowance maxval (pixel_at per first position) (pixel_at per second position))

-- how the code tells near pixels from others …
near_one_lem : (threshold x y : ℕ) → near_one threshold x y ≡ one_if (near threshold x y)
near_one_lem threshold x y = by (near threshold x y) refl
  where
    by : (b : Bool) → near threshold x y ≡ b → near_one threshold x y ≡ one_if b
    by true e = omega (arith, leb-true)
    by false e = omega (arith, leb-false)

-- … and counts them, from any position on, with pixels of `per` bytes: one position more
pub near_on : (per threshold : ℕ) (first second : List ℕ) (from count here : ℕ) {x y step : ℕ}
    → counted (near_at per threshold first second) from + count ≡ counted (near_at per threshold first second) here
    → x ≡ pixel_at per first here → y ≡ pixel_at per second here → step ≡ near_one threshold x y
    → counted (near_at per threshold first second) from + (count + step) ≡ counted (near_at per threshold first second) (here + 1)
near_on per threshold first second from count here {x} {y} {step} so_far is_x is_y is-step =
    counted_on (near_at per threshold first second) from count here step so_far
    (is-step ∙ near_one_lem threshold x y ∙ λ i. one_if (near threshold (is_x i) (is_y i)))

-- a position under a byte of a mask counts where it is white and its pixels are not near
white_and_far : (black near : Bool) → one_if (not black) - one_if near ≡ one_if (not black && not near)
white_and_far true true = refl
white_and_far true false = refl
white_and_far false true = refl
white_and_far false false = refl

module _ (per threshold : ℕ) (first second : List ℕ) (byte at : ℕ) where
  abbrev pub test : ℕ → Bool
  test = unmasked (black_bit byte) (λ column. far_at per threshold first second (at + column))

  pub under_bit : (bit : ℕ) (found : Bool) {x y white one : ℕ} → x ≡ pixel_at per first (at + bit) → y ≡ pixel_at per second (at + bit)
      → white ≡ one_if (not (black_bit byte bit)) → one_if found ≡ near_one threshold x y → one ≡ white - one_if found → one ≡ one_if (test bit)
  under_bit bit found {x} {y} is_x is_y is_white is-found is-one =
      is-one
      ∙ (λ i. is_white i - (is-found ∙ near_one_lem threshold x y ∙ λ j. one_if (near threshold (is_x j) (is_y j))) i)
      ∙ white_and_far (black_bit byte bit) (near_at per threshold first second (at + bit))

-- and pixels that are not near moved
pub far_moved : {per : ℕ} (black : ℕ → Bool) (allowance maxval : ℕ) (first second : List ℕ) (at columns : ℕ) → pixel_bytes maxval ≡ per
    → count_from black (far_at per (threshold_of allowance maxval) first second) at columns ≡ count_from black (moved_in allowance maxval first second) at columns
far_moved {per} black allowance maxval first second at columns is_per =
    counted_same _ _ columns
    (λ column lt. ap (λ (b : Bool). not (black column) && b)
    (sym (moved_not_near allowance maxval (pixel_at per first (at + column)) (pixel_at per second (at + column)))))
    ∙ ap (λ (k : ℕ). count_from black (moved_at allowance maxval (pixel_at k first) (pixel_at k second)) at columns) (sym is_per)
