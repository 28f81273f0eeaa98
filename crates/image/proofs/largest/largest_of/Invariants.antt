-- `image::largest::largest_of`: behind the quarters it has the largest of the first i pixels.
-- Assumes nothing.
use Rattle.std.proofs.Common.{◌≡◌}
use Rattle.image.specs.Pixels.{pixel_at}
use Rattle.image.specs.Told.{largest}
use Rattle.image.proofs.largest.largest_of.Given as goal

abbrev pub invariant-loop-i : goal.invariant-loop-i
invariant-loop-i g l = g.P.Pixel.number l.most ≡ largest (pixel_at g.P.Pixel.bytes l.raster) l.i
