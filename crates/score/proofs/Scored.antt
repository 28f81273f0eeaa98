-- The answer of a score that is not refused, and the two rasters that it compares.
-- Assumes nothing.
use Prim.Native.Nat.{ℕ, ◌*◌, ◌≤◌, min}
use mathlib.Core.List.{List}
use mathlib.Core.Path.{◌≡◌, refl, sym, ◌∙◌}
use lib.ListN.{length}
use Rattle.refusals.specs.First.{first_of}
use Rattle.refusals.specs.Call.{refusal_of, result_of}
use Rattle.refusals.proofs.Calls.{nothing_holds, result_taken}
use Rattle.image.specs.Seen.{limit}
use Rattle.image.specs.Kinds.{largest_maxval}
use Rattle.image.specs.Pixels.{pixel_bytes, pixel_at}
use Rattle.image.specs.Reading.{numbers_of, raster_in, positions_of, pixel_of}
use Rattle.image.proofs.Promises.{same_positions, raster_length, raster_within, raster_positions, maxval_range, pixel_of_lem}
use Rattle.score.specs.declared.Answer.{Answer}
use Rattle.score.specs.Changed.{moved, moved_at, counted}
use Rattle.score.specs.Near.{moved_in, changed_in}
use Rattle.score.specs.Calls.{score_faults, score_number, score_call, Alike}
use Rattle.score.proofs.Refused.{score_numbered, none_alike}
use Rattle.score.proofs.Counts.{counted_same}

-- a position of the rasters moved where its pixels did
pub raster_moved : (allowance : ℕ) (first second : List ℕ) → Alike (numbers_of first) (numbers_of second) → (position : ℕ)
    → moved_in allowance (numbers_of first).maxval (raster_in first) (raster_in second) position
    ≡ moved_at allowance (numbers_of first).maxval (pixel_of first) (pixel_of second) position
raster_moved allowance first second a position =
    let maxval = (numbers_of first).maxval in
    let second_pixel : pixel_of second position ≡ pixel_at (pixel_bytes maxval) (raster_in second) position =
    pixel_of_lem second position ∙ λ i. pixel_at (pixel_bytes (sym a.maxval i)) (raster_in second) position in
    λ i. moved allowance maxval (sym (pixel_of_lem first position) i) (sym second_pixel i)

-- so the positions at which the rasters changed are those whose pixels did
rasters_pixels : (allowance : ℕ) (first second : List ℕ) → Alike (numbers_of first) (numbers_of second)
    → changed_in allowance (numbers_of first).maxval (raster_in first) (raster_in second)
    ≡ counted (moved_at allowance (numbers_of first).maxval (pixel_of first) (pixel_of second)) (positions_of first)
rasters_pixels allowance first second a =
    let pixels = moved_at allowance (numbers_of first).maxval (pixel_of first) (pixel_of second) in
    counted_same _ pixels _ (λ position lt. raster_moved allowance first second a position)
    ∙ λ i. counted pixels (raster_positions first a.one_taken i)

module _ (bound allowance : ℕ) (first second : List ℕ) where
  pub refusal_is : first_of (score_faults bound (numbers_of first) (numbers_of second)) ≡ refusal_of (score_call bound allowance first second)
  unfolding score_call
  refusal_is = refl

  pub alike_known : first_of (score_faults bound (numbers_of first) (numbers_of second)) ≡ 0 → Alike (numbers_of first) (numbers_of second)
  alike_known e =
      let one = numbers_of first in
      let two = numbers_of second in
      none_alike bound one two (nothing_holds (score_faults bound one two) (score_numbered bound one two) e)

  module _ (taken : first_of (score_faults bound (numbers_of first) (numbers_of second)) ≡ 0) where
    -- rasters that are compared have one size, which fits an image, and a maxval that is not above the largest
    pub same_size : (length (raster_in first) ≡ length (raster_in second)) × (length (raster_in first) ≤ limit)
        × ((numbers_of first).maxval ≤ largest_maxval)
    same_size =
        let a = alike_known taken in (
          raster_length first a.one_taken
              ∙ (λ i. same_positions first second a.width a.height i * pixel_bytes (a.maxval i))
              ∙ sym (raster_length second a.two_taken),
          raster_within first,
          maxval_range first a.one_taken,
        )

    pub score_taken : ◌≡◌ {A = Answer}
        (record {
          refusal = 0;
          value = min bound (changed_in allowance (numbers_of first).maxval (raster_in first) (raster_in second));
        })
        (result_of (score_call bound allowance first second))
    unfolding score_call score_number
    score_taken =
        (λ i. record { refusal = 0; value = min bound (rasters_pixels allowance first second (alike_known taken) i) })
        ∙ result_taken (score_call bound allowance first second) refusal_is taken
