-- What crates above may rely on, beside the definitions of specs/: a score is at most L and at most the number of positions; how
-- many positions changed is the same the other way round, and none did between an image and itself; how positions that pass a test count; what a
-- mask does to a score, and which bit a position goes by.
-- Assumes nothing.
use Prim.Native.Nat.{ℕ, ◌*◌, ◌≤◌}
use mathlib.Core.List.{List}
use mathlib.Core.Path.{◌≡◌, ap}
use native.Mathlib.Omega.{arith}
use lib.Dec.{ltb}
use Rattle.refusals.specs.Call.{result_of}
use Rattle.refusals.proofs.Calls.{result_cases}
use Rattle.image.specs.Reading.{numbers_of, positions_of, pixel_of}
use Rattle.score.specs.Changed.{apart, moved, moved_at, counted}
use Rattle.score.specs.Calls.{score_number, score_call}
use Rattle.score.proofs.Near.{within_still}
pub use Rattle.score.proofs.Counts.{counted_none, counted_more, counted_le, counted_nowhere, counted_fewer, counted_same}
pub use Rattle.score.proofs.Refused.{none_alike}
pub use Rattle.score.proofs.Scored.{refusal_is}
pub use Rattle.score.proofs.BlackBits.{black_in_byte, black_in_row}
pub use Rattle.score.proofs.MaskLaws.{white_is_plain, black_is_0, blacker_no_higher, padding_free, masked_le_bound}
pub use Rattle.score.proofs.Demand1.{score_promised, masked_promised, score_settled, masked_settled}

module _ (bound allowance : ℕ) (first second : List ℕ) where
  -- at most L: what the book asks of an item
  pub score_le_bound : (result_of (score_call bound allowance first second)).value ≤ bound
  unfolding score_call score_number
  score_le_bound =
      result_cases (λ r. r.value ≤ bound) (score_call bound allowance first second) (λ e. omega arith) (λ number e. omega arith)

  -- at most the number of positions
  pub score_le_positions : (result_of (score_call bound allowance first second)).value ≤ positions_of first
  unfolding score_call score_number
  score_le_positions =
      result_cases (λ r. r.value ≤ positions_of first) (score_call bound allowance first second)
      (λ e. omega (arith, counted_le (moved_at allowance (numbers_of first).maxval (pixel_of first) (pixel_of second)) (positions_of first)))
      (λ number e. omega arith)

swapped : (x y : ℕ) → apart x y ≡ apart y x
swapped x y = omega arith

moved_either_way : (allowance maxval x y : ℕ) → moved allowance maxval x y ≡ moved allowance maxval y x
unfolding moved
moved_either_way allowance maxval x y = ap (λ d. ltb (allowance * maxval) (d * 255)) (swapped x y)

-- the count is the same the other way round
pub changed_either_way : (allowance maxval : ℕ) (first second : ℕ → ℕ) (count : ℕ)
    → counted (moved_at allowance maxval first second) count ≡ counted (moved_at allowance maxval second first) count
changed_either_way allowance maxval first second count =
    counted_same _ _ count (λ position lt. moved_either_way allowance maxval (first position) (second position))

-- nothing changed between an image and itself
pub changed_self : (allowance maxval : ℕ) (pixel : ℕ → ℕ) (count : ℕ) → counted (moved_at allowance maxval pixel pixel) count ≡ 0
changed_self allowance maxval pixel count =
    counted_nowhere _ count (λ position lt. within_still allowance maxval (pixel position) (pixel position) (omega arith))
