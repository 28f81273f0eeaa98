-- `image::header`: the sides, then maxval, then the raster; what refuses one of them refuses the image.
-- Assumes nothing.
use Rattle.std.proofs.Common.{rules}
use Rattle.image.specs.Fields.{header_fields, number_fields}
use Rattle.image.specs.Kinds.{pgm}
use Rattle.image.specs.Reading.{numbers_of, reading_of, header_of}
use Rattle.image.proofs.header.Goals as goal

pub returns-in_err-sides : goal.returns-in_err-sides
unfolding numbers_of reading_of header_of header_fields number_fields pgm
returns-in_err-sides c = search rules

pub returns-in_err-maxval : goal.returns-in_err-maxval
unfolding numbers_of reading_of header_of header_fields number_fields pgm
returns-in_err-maxval c = search rules

pub returns : goal.returns
unfolding numbers_of reading_of header_of header_fields number_fields pgm
returns c = search rules
