-- The answer of a score under a mask that is not refused, and the rasters that it goes by.
-- Assumes nothing.
use Prim.Native.Nat.{ℕ, ◌*◌, ◌-◌, ◌≤◌, min}
use mathlib.Core.Bool.{not, ◌&&◌}
use mathlib.Core.List.{List}
use mathlib.Core.Path.{◌≡◌, refl, sym, ap, ◌∙◌}
use native.Mathlib.Omega.{arith}
use lib.ListN.{length, take, drop}
use Rattle.refusals.specs.First.{first_of}
use Rattle.refusals.specs.Call.{refusal_of, result_of}
use Rattle.refusals.proofs.Calls.{nothing_holds, result_taken}
use Rattle.image.specs.declared.told.Numbers.{Numbers}
use Rattle.image.specs.Promised.{Lies}
use Rattle.image.specs.Kinds.{largest_side, row_bytes}
use Rattle.image.specs.Pixels.{pixel_bytes}
use Rattle.image.specs.Reading.{numbers_of, raster_in, positions_of, pixel_of}
use Rattle.image.specs.Mask.{mask_numbers_of, mask_in}
use Rattle.image.proofs.Promises.{raster_length, raster_within, maxval_range, positions_of_lem, same_positions, mask_length, mask_sides}
use Rattle.score.specs.declared.Answer.{Answer}
use Rattle.score.specs.Changed.{moved_at, counted}
use Rattle.score.specs.Calls.{Alike}
use Rattle.score.specs.Black.{black_at, black_of}
use Rattle.score.specs.Masked.{unmasked, masked_faults, masked_number, masked_call, Fits}
use Rattle.score.specs.Rows.{changed_under, Have}
use Rattle.score.proofs.Refused.{masked_numbered, none_fits}
use Rattle.score.proofs.Counts.{counted_same}
use Rattle.score.proofs.Scored.{raster_moved}

-- the raster that an image's numbers tell of
abbrev pub raster_by : Numbers → List ℕ → List ℕ
raster_by numbers s = take (numbers.used - numbers.start) (drop numbers.start s)

-- where numbers are known, so is where they lie
pub lies_by : {numbers known : Numbers} {s : List ℕ} → numbers ≡ known → Lies s known.start known.used
    → Lies s numbers.start numbers.used
lies_by e lies = rw e lies

module _ (bound allowance : ℕ) (first second mask : List ℕ) where
  abbrev number : ℕ
  number = first_of (masked_faults bound (numbers_of first) (numbers_of second) (mask_numbers_of mask))

  pub masked_refusal_is : number ≡ refusal_of (masked_call bound allowance first second mask)
  unfolding masked_call
  masked_refusal_is = refl

  module _ (taken : number ≡ 0) where
    pub fits_known : Alike (numbers_of first) (numbers_of second) × Fits (numbers_of first) (mask_numbers_of mask)
    fits_known =
        let one = numbers_of first in
        let two = numbers_of second in
        let over = mask_numbers_of mask in
        none_fits bound one two over (nothing_holds (masked_faults bound one two over) (masked_numbered bound one two over) taken)

    alike : Alike (numbers_of first) (numbers_of second)
    alike = fits_known.0

    fits : Fits (numbers_of first) (mask_numbers_of mask)
    fits = fits_known.1

    abbrev width : ℕ
    width = (numbers_of first).width

    abbrev height : ℕ
    height = (numbers_of first).height

    -- the rasters of the images have the positions …
    pub masked_have : Have (numbers_of first).maxval (raster_in first) (raster_in second) (width * height)
    masked_have =
        let one_size = raster_length first alike.one_taken in
        let two_size = raster_length second alike.two_taken
        ∙ λ i. sym (same_positions first second alike.width alike.height) i * pixel_bytes (sym alike.maxval i) in
        record {
          first_has = rw (← positions_of_lem first) (omega (arith, one_size));
          second_has = rw (← positions_of_lem first) (omega (arith, two_size));
          few = raster_within first;
          maxval_most = maxval_range first alike.one_taken;
        }

    -- … and that of the mask has as many rows, each of whole bytes
    pub masked_size : (1 ≤ width) × (width ≤ largest_side) × (length (mask_in mask) ≡ row_bytes width * height)
    masked_size =
        let sides = mask_sides mask fits.taken in (
          omega (arith, sides.0, fits.width),
          omega (arith, sides.1, fits.width),
          mask_length mask fits.taken ∙ λ i. row_bytes (sym fits.width i) * sym fits.height i,
        )

    -- the positions that count by the rasters are those that count
    rasters_count : changed_under allowance (numbers_of first).maxval width height (raster_in first) (raster_in second) (mask_in mask)
        ≡ counted (unmasked (black_of mask) (moved_at allowance (numbers_of first).maxval (pixel_of first) (pixel_of second))) (positions_of first)
    rasters_count =
        counted_same _ _ (width * height) (λ position lt.
        λ i. not (black_at (fits.width i) (mask_in mask) position) && raster_moved allowance first second alike position i)
        ∙ ap (counted (unmasked (black_of mask) (moved_at allowance (numbers_of first).maxval (pixel_of first) (pixel_of second)))) (sym (positions_of_lem first))

    pub masked_taken : ◌≡◌ {A = Answer}
        (record {
          refusal = 0;
          value = min bound (changed_under allowance (numbers_of first).maxval width height (raster_in first) (raster_in second) (mask_in mask));
        })
        (result_of (masked_call bound allowance first second mask))
    unfolding masked_call masked_number
    masked_taken =
        (λ i. record { refusal = 0; value = min bound (rasters_count i) })
        ∙ result_taken (masked_call bound allowance first second mask) masked_refusal_is taken

    -- the same by what the code has read
    module _ {one two over : Numbers} (is_one : one ≡ numbers_of first) (is_two : two ≡ numbers_of second) (is_over : over ≡ mask_numbers_of mask) where
      pub read_size : (1 ≤ one.width) × (one.width ≤ largest_side) × (length (raster_by over mask) ≡ row_bytes one.width * one.height)
          × Have one.maxval (raster_by one first) (raster_by two second) (one.width * one.height)
      read_size = rw (is_one, is_two, is_over) (masked_size.0, masked_size.1, masked_size.2, masked_have)

      pub read_taken : {changed score : ℕ}
          → changed ≡ changed_under allowance one.maxval one.width one.height (raster_by one first) (raster_by two second) (raster_by over mask)
          → score ≡ min bound changed → record { refusal = 0; value = score } ≡ result_of (masked_call bound allowance first second mask)
      read_taken is-changed is-score = rw (is-score, is-changed, is_one, is_two, is_over) masked_taken
