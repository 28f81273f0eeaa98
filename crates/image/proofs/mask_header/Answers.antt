-- `image::mask_header`: the sides, then the raster; what refuses them refuses the mask.
-- Assumes nothing.
use Rattle.std.proofs.Common.{rules}
use Rattle.image.specs.Kinds.{pbm}
use Rattle.image.specs.Mask.{mask_numbers_of}
use Rattle.image.specs.Reading.{reading_of, header_of}
use Rattle.image.proofs.mask_header.Goals as goal

pub returns-in_err-sides : goal.returns-in_err-sides
unfolding mask_numbers_of reading_of header_of pbm
returns-in_err-sides c = search rules

pub returns : goal.returns
unfolding mask_numbers_of reading_of header_of pbm
returns c = search rules
