-- At maxval 255 nothing changed: the call answers as it did while a pixel took one byte and the allowance was a plain difference.
-- Assumes nothing.
use Prim.Native.Nat.{ℕ, ◌*◌, min}
use mathlib.Core.Bool.{Bool, true, false}
use mathlib.Core.List.{List}
use mathlib.Core.Path.{◌≡◌, refl, sym, ap, ◌∙◌}
use native.Mathlib.Omega.{arith}
use borrow.Author.Tests.{lt-ltb, le-ltb, ltb-true, ltb-false}
use lib.ListN.{get_or}
use Rattle.refusals.specs.First.{first_of}
use Rattle.refusals.specs.Call.{Call, result_of}
use Rattle.refusals.proofs.Calls.{result_cases, result_taken, result_refused}
use Rattle.image.specs.declared.told.Numbers.{Numbers}
use Rattle.image.specs.Pixels.{pixel_bytes, pixel_at}
use Rattle.image.specs.Reading.{numbers_of, raster_in, pixel_of}
use Rattle.image.specs.OneByte.{WideMaxval}
use Rattle.image.proofs.Promises.{numbers_as_one_byte, positions_of_lem, pixel_of_lem, pixel_bytes_one, pixel_one}
use Rattle.score.specs.declared.Answer.{Answer}
use Rattle.score.specs.Changed.{apart, moved, moved_at, counted}
use Rattle.score.specs.Calls.{score_faults, score_number, score_row, score_call, Alike}
use Rattle.score.specs.Before.{moved_then, score_then, score_call_then}
use Rattle.score.proofs.Counts.{counted_same}
use Rattle.score.proofs.Scored.{alike_known}

moved_at_255 : (allowance x y : ℕ) → moved allowance 255 x y ≡ moved_then allowance x y
unfolding moved moved_then
moved_at_255 allowance x y = by (moved_then allowance x y) refl
  where
    by : (b : Bool) → moved_then allowance x y ≡ b → moved allowance 255 x y ≡ b
    by true e = lt-ltb (allowance * 255) _ (omega (arith, ltb-true allowance (apart x y) e))
    by false e = le-ltb (allowance * 255) _ (omega (arith, ltb-false allowance (apart x y) e))

-- a pixel of an image of maxval 255 is the raster's byte
pixel_at_255 : (s : List ℕ) → (numbers_of s).maxval ≡ 255 → (position : ℕ) → pixel_of s position ≡ get_or (raster_in s) position 0
pixel_at_255 s at-255 position =
    let one : pixel_bytes (numbers_of s).maxval ≡ 1 = pixel_bytes_one (numbers_of s).maxval (omega arith) in
    pixel_of_lem s position ∙ ap (λ (per : ℕ). pixel_at per (raster_in s) position) one ∙ pixel_one (raster_in s) position

-- what a row gives matters only where nothing is refused
row_same : (bound : ℕ) (one two : Numbers) (first second : List ℕ) {score score' : ℕ}
    → (first_of (score_faults bound one two) ≡ 0 → score ≡ score')
    → result_of (score_row bound one two first second score) ≡ result_of (score_row bound one two first second score')
row_same bound one two first second {score} {score'} same =
    result_cases (λ r. r ≡ result_of (row score')) (row score)
    (λ e. (λ i. record { refusal = 0; value = same e i }) ∙ result_taken (row score') refl e)
    (λ number e. result_refused (row score') (sym e) (λ none. omega arith))
  where
    row : ℕ → Call Answer (List ℕ × List ℕ)
    row = score_row bound one two first second

module _ (bound allowance : ℕ) (first second : List ℕ) where
  -- the number, of two images that may be compared
  number_as_before : Alike (numbers_of first) (numbers_of second) → (numbers_of first).maxval ≡ 255
      → score_number bound allowance first second ≡ score_then bound allowance (numbers_of first) (numbers_of second) first second
  unfolding score_number
  number_as_before a at-255 =
      let second_255 : (numbers_of second).maxval ≡ 255 = sym a.maxval ∙ at-255 in
      (λ i. min bound (counted (moved_at allowance (at-255 i) (pixel_of first) (pixel_of second)) (positions_of_lem first i)))
      ∙ ap (min bound) (counted_same _ _ ((numbers_of first).width * (numbers_of first).height) λ position lt.
      moved_at_255 allowance (pixel_of first position) (pixel_of second position)
      ∙ λ i. moved_then allowance (pixel_at_255 first at-255 position i) (pixel_at_255 second second_255 position i))

  -- THE LAW, refused calls too: of slices that were not refused for a maxval that is in range now, the first of maxval 255 if it is taken
  pub score_as_before : (WideMaxval first → ⊥) → (WideMaxval second → ⊥) → ((numbers_of first).refusal ≡ 0 → (numbers_of first).maxval ≡ 255)
      → result_of (score_call bound allowance first second) ≡ result_of (score_call_then bound allowance first second)
  unfolding score_call score_call_then
  score_as_before first_small second-small at-255 =
      let one = numbers_as_one_byte first first_small in
      let two = numbers_as_one_byte second second-small in
      row_same bound (numbers_of first) (numbers_of second) first second
      (λ taken. (let a = alike_known bound allowance first second taken in number_as_before a (at-255 a.one_taken)))
      ∙ λ i. result_of (score_row bound (one i) (two i) first second (score_then bound allowance (one i) (two i) first second))
