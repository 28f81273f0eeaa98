-- `image::pixels::judge`: the end of the image decides, and then its pixels.
-- Assumes nothing.
use Rattle.std.proofs.Common.{arith}
use Rattle.std.proofs.lemmas.Grind.{common_steps}
use Rattle.image.specs.Kinds.{pgm}
use Rattle.image.specs.Reading.{raster_refusal, with_raster}
use Rattle.image.proofs.pixels.judge.Goals as goal

pub returns-in_err-missing : goal.returns-in_err-missing
unfolding with_raster raster_refusal pgm
returns-in_err-missing c = grind (arith, common_steps)

pub returns-then-too_large : goal.returns-then-too_large
unfolding with_raster raster_refusal pgm
returns-then-too_large c = grind (arith, common_steps)

pub returns : goal.returns
unfolding with_raster raster_refusal pgm
returns c = grind (arith, common_steps)
