-- `image::largest::largest_of_quarters`: after i turns it has the largest of the first i pixels of each quarter.
-- Assumes nothing.
use Rattle.std.proofs.Common.{◌≡◌, ◌+◌, ◌*◌}
use Rattle.image.specs.Pixels.{pixel_at}
use Rattle.image.specs.Told.{largest}
use Rattle.image.proofs.largest.largest_of_quarters.Given as goal

abbrev pub invariant-loop-i : goal.invariant-loop-i
invariant-loop-i g l =
    record {
      first : g.P.Pixel.number l.first ≡ largest (pixel_at g.P.Pixel.bytes l.raster) l.i;
      second : g.P.Pixel.number l.second ≡ largest (λ k. pixel_at g.P.Pixel.bytes l.raster (l.quarter + k)) l.i;
      third : g.P.Pixel.number l.third ≡ largest (λ k. pixel_at g.P.Pixel.bytes l.raster (2 * l.quarter + k)) l.i;
      fourth : g.P.Pixel.number l.fourth ≡ largest (λ k. pixel_at g.P.Pixel.bytes l.raster (3 * l.quarter + k)) l.i;
    }
