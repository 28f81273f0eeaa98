-- `image::largest::largest_of_quarters`: a turn looks at one pixel more of each quarter, and behind the loop each is looked at whole.
-- Assumes nothing.
use Rattle.std.proofs.Common.{◌≡◌, ℕ, ◌+◌, ◌*◌, arith}
use Rattle.image.specs.Pixels.{pixel_at}
use Rattle.image.proofs.LargestPixel.{largest_on, largest_quarters}
use Rattle.image.proofs.largest.largest_of_quarters.Goals as goal

pub loop-i-preserved : goal.loop-i-preserved
loop-i-preserved g c =
    let pixel : ℕ → ℕ = pixel_at g.P.Pixel.bytes c.args.raster.now in
    let q = c.args.quarter in
    let l = c.loop-i in
    record {
      first = largest_on pixel l.i c.larger-first.ensures l.invariant.first c.at.ensures;
      second = largest_on (λ k. pixel (q + k)) l.i c.larger-second.ensures l.invariant.second c.at-in-loop-i.ensures;
      third = largest_on (λ k. pixel (2 * q + k)) l.i c.larger-third.ensures l.invariant.third c.at-in-loop-i-2.ensures;
      fourth = largest_on (λ k. pixel (3 * q + k)) l.i c.larger-fourth.ensures l.invariant.fourth c.at-in-loop-i-3.ensures;
    }

pub returns : goal.returns
returns g c =
    let all : c.loop-i.i ≡ c.args.quarter = omega arith in
    let looked = rw all at c.loop-i.invariant in
    omega (
      arith,
      looked.first,
      looked.second,
      looked.third,
      looked.fourth,
      c.larger.ensures,
      c.larger-2.ensures,
      c.larger-3.ensures,
      largest_quarters (pixel_at g.P.Pixel.bytes c.args.raster.now) c.args.quarter,
    )
