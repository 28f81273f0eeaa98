-- What crates above may rely on, beside the definitions of specs/: what an accepted image is, where its raster lies, which of its bytes
-- are which pixel, and that an answer stays when more bytes come; and the same of a mask.
-- Assumes nothing.
use Prim.Native.Nat.{ℕ, ◌*◌, ◌-◌, ◌/◌, ◌≤◌, ◌<◌}
use mathlib.Core.List.{List}
use mathlib.Core.Path.{◌≡◌, refl, ◌∙◌}
use native.Mathlib.Omega.{arith}
use native.Mathlib.Nat.{mul-div_cancel}
use lib.ListN.{length}
use Rattle.image.specs.Tests.{up_to}
use Rattle.image.specs.Seen.{limit}
use Rattle.image.specs.Pixels.{pixel_bytes, pixel_at}
use Rattle.image.specs.Kinds.{pgm, largest_maxval}
use Rattle.image.specs.Format.{AllPass}
use Rattle.image.specs.Reading.{reading_of, numbers_of, raster_in, positions_of, pixel_of}
use Rattle.image.proofs.FieldsOfBytes.{up_to_range}
use Rattle.image.proofs.HeadedSlices.{headed_some}
use Rattle.image.proofs.ReadAsOneByte.{maxval_passes}
use Rattle.image.proofs.ReadingLies.{lies_length}
use Rattle.image.proofs.ExactReading.{image_headed, image_used}
pub use Rattle.image.proofs.PixelValues.{pixel_one, pixel_within, pixel_part}
pub use Rattle.image.proofs.PixelWidths.{pixel_bytes_one, pixel_bytes_two, pixel_bytes_range}
pub use Rattle.image.proofs.ReadAsOneByte.{numbers_as_one_byte}
pub use Rattle.image.proofs.ReadingLies.{reading_lies}
pub use Rattle.image.proofs.Demand1.{refused_all_zero, mask_all_zero, header_result}
pub use Rattle.image.proofs.RefusalRange.{refusal_range, waits_short}
pub use Rattle.image.proofs.ExactReading.{accepted_is_pgm, pgm_is_accepted, pgm_pixels}
pub use Rattle.image.proofs.FirstFaultDecides.{pgm_first_fault, pgm_fault_refused}
pub use Rattle.image.proofs.PrefixLaw.{prefix_law, accepted_stays}
pub use Rattle.image.proofs.MaskReading.{accepted_is_mask, mask_is_accepted, mask_first_fault, mask_fault_refused, mask_refusal_range}
pub use Rattle.image.proofs.MaskReading.{mask_prefix_law, mask_lies, mask_length, mask_sides}

module _ (s : List ℕ) (taken : (numbers_of s).refusal ≡ 0) where
  -- the numbers of an accepted image pass their tests
  pub accepted_range : AllPass pgm.tests (reading_of pgm s).numbers
  accepted_range = (accepted_is_pgm s taken).head.header.passes

  -- so its maxval is not above the largest
  pub maxval_range : (numbers_of s).maxval ≤ largest_maxval
  unfolding numbers_of pgm
  maxval_range =
      (up_to_range largest_maxval (numbers_of s).maxval (maxval_passes (up_to largest_maxval) (reading_of pgm s).numbers accepted_range).0).1

  -- it takes a byte at least
  pub used_some : 0 < (numbers_of s).used
  unfolding numbers_of
  used_some =
      let p = accepted_is_pgm s taken in
      omega (arith, headed_some pgm s _ _ (image_headed pgm s p), (reading_lies s).order)

-- the raster lies in the slice whole …
raster_fits : (s : List ℕ) → length (raster_in s) ≡ (numbers_of s).used - (numbers_of s).start
raster_fits s = lies_length s (reading_lies s)

-- … and has no more bytes than an image may have
pub raster_within : (s : List ℕ) → length (raster_in s) ≤ limit
raster_within s = omega (arith, raster_fits s, (reading_lies s).within)

-- images of one width and height have as many positions
pub same_positions : (first second : List ℕ) → (numbers_of first).width ≡ (numbers_of second).width
    → (numbers_of first).height ≡ (numbers_of second).height → positions_of first ≡ positions_of second
unfolding positions_of
same_positions first second width height = λ i. width i * height i

-- the bytes of each position, and the pixel that they are
pub raster_length : (s : List ℕ) → (numbers_of s).refusal ≡ 0 → length (raster_in s) ≡ positions_of s * pixel_bytes (numbers_of s).maxval
unfolding positions_of numbers_of pgm
raster_length s taken = raster_fits s ∙ omega (arith, image_used pgm s (accepted_is_pgm s taken))

pub raster_positions : (s : List ℕ) → (numbers_of s).refusal ≡ 0 → length (raster_in s) / pixel_bytes (numbers_of s).maxval ≡ positions_of s
raster_positions s taken = rw (raster_length s taken) (mul-div_cancel (positions_of s) (pixel_bytes_range (numbers_of s).maxval).0)

pub positions_of_lem : (s : List ℕ) → positions_of s ≡ (numbers_of s).width * (numbers_of s).height
unfolding positions_of
positions_of_lem s = refl

pub pixel_of_lem : (s : List ℕ) (position : ℕ) → pixel_of s position ≡ pixel_at (pixel_bytes (numbers_of s).maxval) (raster_in s) position
unfolding pixel_of
pixel_of_lem s position = refl
