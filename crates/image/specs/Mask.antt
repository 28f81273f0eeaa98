-- A mask is a binary PBM (SCOPE, Masks): an image of one more kind, read as every image is.
use Rattle.std.specs.Prelude.{ℕ, ◌-◌, List, take, drop}
use Rattle.refusals.specs.Call.{Call}
use Rattle.image.specs.declared.told.Numbers.{Numbers}
use Rattle.image.specs.Kinds.{pbm}
use Rattle.image.specs.Reading.{reading_of, named, numbers_row}

-- the numbers of a mask; it has no maxval
unfoldable pub mask_numbers_of : List ℕ → Numbers
mask_numbers_of s = named (reading_of pbm s)

-- the bytes of its raster: those from the header's end up to the bytes used
abbrev pub mask_in : List ℕ → List ℕ
mask_in s = let numbers = mask_numbers_of s in take (numbers.used - numbers.start) (drop numbers.start s)

-- the call that gives the numbers
unfoldable pub mask_call : List ℕ → Call Numbers (List ℕ)
mask_call s = numbers_row (mask_numbers_of s) s
