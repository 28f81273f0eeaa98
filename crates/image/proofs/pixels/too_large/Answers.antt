-- `image::pixels::too_large`: where maxval is as large as a pixel's bytes can be, no pixel is above it; else the largest pixel decides.
-- Assumes nothing.
use Rattle.std.proofs.Common.{◌≡◌, ℕ, suc, ◌^◌, ◌≤◌, Bool, false, List, ltb, arith, sym, ap, ◌∙◌}
use borrow.Author.Tests.{le-ltb}
use Rattle.image.specs.Pixels.{pixel_bytes, pixel_at, at_some}
use Rattle.image.specs.Told.{largest}
use Rattle.image.proofs.LargestPixel.{at_some_none, some_above_lem}
use Rattle.image.proofs.PixelWidths.{AllBytes, pixel_bytes_one, pixel_bytes_two, pixel_most}
use Rattle.image.proofs.pixels.too_large.Goals as goal

-- for pixels of any width: whether one is above maxval
module _ (raster : List ℕ) (positions maxval : ℕ) {per : ℕ} (is_per : pixel_bytes maxval ≡ per) where
  abbrev some_above : Bool
  some_above = at_some (λ position. ltb maxval (pixel_at (pixel_bytes maxval) raster position)) positions

  none_above : 256 ^ per ≤ suc maxval → AllBytes raster → false ≡ some_above
  none_above most bytes =
      rw is_per
      (sym (at_some_none (λ position. ltb maxval (pixel_at per raster position)) positions λ position there.
      le-ltb maxval (pixel_at per raster position) (omega (arith, pixel_most per raster position bytes))))

  largest_decides : {most : ℕ} → most ≡ largest (pixel_at per raster) positions → ltb maxval most ≡ some_above
  largest_decides is-most = rw is_per (ap (ltb maxval) is-most ∙ sym (some_above_lem maxval (pixel_at per raster) positions))

pub returns-then-maxval-eq-BYTE_MOST : goal.returns-then-maxval-eq-BYTE_MOST
returns-then-maxval-eq-BYTE_MOST c = none_above _ _ _ (pixel_bytes_one _ (omega arith)) (omega arith) λ i. omega (arith, c.type_inv.raster i)

pub returns-then-maxval-lt-BYTE_MOST : goal.returns-then-maxval-lt-BYTE_MOST
returns-then-maxval-lt-BYTE_MOST c = largest_decides _ _ _ (pixel_bytes_one _ (omega arith)) (c.from.ensures ∙ c.largest_of.ensures)

pub returns-then-maxval-ge-PAIR_MOST : goal.returns-then-maxval-ge-PAIR_MOST
returns-then-maxval-ge-PAIR_MOST c = none_above _ _ _ (pixel_bytes_two _ (omega arith)) (omega arith) λ i. omega (arith, c.type_inv.raster i)

pub returns : goal.returns
returns c = largest_decides _ _ _ (pixel_bytes_two _ (omega arith)) (c.from-2.ensures ∙ c.largest_of-2.ensures)
