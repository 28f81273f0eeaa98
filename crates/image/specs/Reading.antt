-- The whole reading of an image of any kind (SCOPE, Images): the header's fields in order, then the raster. A refused reading has all numbers 0.
use Rattle.std.specs.Prelude.{ℕ, ◌+◌, ◌*◌, ◌-◌, List, [], ◌∷◌, ◌++◌, ltb, length, take, drop}
use Rattle.refusals.specs.Numbers.{image_too_large, ends_too_early, pixel_too_large}
use Rattle.refusals.specs.First.{Fault, ◌gives◌, passed_on, first_of, unless_refused}
use Rattle.refusals.specs.Call.{Call}
use Rattle.image.specs.declared.told.Numbers.{Numbers}
use Rattle.image.specs.Seen.{limit, ahead, end_of}
use Rattle.image.specs.Step.{Step, and_then}
use Rattle.image.specs.Fields.{header_fields}
use Rattle.image.specs.Pixels.{pixel_bytes, pixel_at, at_some}
use Rattle.image.specs.Kinds.{Kind, width_in, height_in, maxval_in, pgm}

-- what a reading gives: the numbers of the header, where the raster starts, and the bytes used
pub record Reading : Type 0 where
  pub refusal : ℕ
  pub numbers : List ℕ
  pub start : ℕ
  pub used : ℕ

-- a refused reading has no number, and lies nowhere
abbrev pub refused_reading : ℕ → Reading
refused_reading refusal = record { refusal = refusal; numbers = []; start = 0; used = 0 }

-- of an image whose header has these numbers and takes `start` bytes: the bytes used with its raster, and the raster
abbrev pub used_with : Kind → List ℕ → ℕ → ℕ
used_with kind numbers start = start + kind.size numbers

abbrev pub raster_at : Kind → List ℕ → List ℕ → ℕ → List ℕ
raster_at kind s numbers start = take (kind.size numbers) (drop start s)

-- after the header, in order: header plus raster above the limit, the slice too short …
abbrev pub end_faults : List ℕ → (used : ℕ) → List Fault
end_faults s used = (ltb limit used gives image_too_large) ∷ (ltb (length s) used gives ends_too_early) ∷ []

abbrev pub size_faults : Kind → List ℕ → List ℕ → ℕ → List Fault
size_faults kind s numbers start = end_faults s (used_with kind numbers start)

-- … and a position at fault, which in a PGM is a pixel above maxval
abbrev pub pixel_faults : Kind → List ℕ → List ℕ → ℕ → List Fault
pixel_faults kind s numbers start =
    (at_some (kind.faulty numbers (raster_at kind s numbers start)) (kind.positions numbers) gives pixel_too_large) ∷ []

unfoldable pub raster_refusal : Kind → List ℕ → List ℕ → ℕ → ℕ
raster_refusal kind s numbers start = first_of (size_faults kind s numbers start ++ pixel_faults kind s numbers start)

unfoldable pub with_raster : Kind → List ℕ → List ℕ → ℕ → Reading
with_raster kind s numbers start =
    let refusal = raster_refusal kind s numbers start in
    unless_refused refusal
    record { refusal = 0; numbers = numbers; start = start; used = used_with kind numbers start }
    (refused_reading refusal)

-- the header as far as the slice or the limit lets it be seen
unfoldable pub header_of : Kind → List ℕ → Step (List ℕ)
header_of kind s = header_fields (end_of s) kind.sign kind.tests (ahead s 0)

unfoldable pub reading_of : Kind → List ℕ → Reading
reading_of kind s = and_then refused_reading (header_of kind s) λ numbers start rest. with_raster kind s numbers start

-- the reading of an image, with its numbers by their names; where it has no maxval, as a PBM has none, that is 0
abbrev pub named : Reading → Numbers
named reading =
    record {
      refusal = reading.refusal;
      width = width_in reading.numbers;
      height = height_in reading.numbers;
      maxval = maxval_in reading.numbers;
      start = reading.start;
      used = reading.used;
    }

unfoldable pub numbers_of : List ℕ → Numbers
numbers_of s = named (reading_of pgm s)

-- the answer of a refused reading
abbrev pub refused_with : ℕ → Numbers
refused_with refusal = named (refused_reading refusal)

-- the bytes of the raster: those from the header's end up to the bytes used
abbrev pub raster_in : List ℕ → List ℕ
raster_in s = let numbers = numbers_of s in take (numbers.used - numbers.start) (drop numbers.start s)

-- for the crates above: how many positions the image has, and the pixel at a position
unfoldable pub positions_of : List ℕ → ℕ
positions_of s = (numbers_of s).width * (numbers_of s).height

unfoldable pub pixel_of : List ℕ → ℕ → ℕ
pixel_of s position = pixel_at (pixel_bytes (numbers_of s).maxval) (raster_in s) position

-- a call that gives the numbers of an image: its one fault is the reading's own, and the bytes are lent only to be read
abbrev pub numbers_row : Numbers → List ℕ → Call Numbers (List ℕ)
numbers_row numbers s =
    record { faults = passed_on numbers.refusal ∷ []; given = numbers; left = s; back = refused_with; lent = s }

unfoldable pub header_call : List ℕ → Call Numbers (List ℕ)
header_call s = numbers_row (numbers_of s) s
