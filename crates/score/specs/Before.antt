-- The score as it was while a pixel took one byte (SCOPE, Pixels of two bytes): the images read as they were then, and the allowance a
-- plain difference, whatever maxval is.
use Rattle.std.specs.Prelude.{ℕ, ◌*◌, ◌-◌, min, Bool, List, ltb, take, drop, get_or}
use Rattle.refusals.specs.Call.{Call}
use Rattle.image.specs.declared.told.Numbers.{Numbers}
use Rattle.image.specs.Reading.{reading_of, named}
use Rattle.image.specs.OneByte.{pgm_one_byte}
use Rattle.score.specs.declared.Answer.{Answer}
use Rattle.score.specs.Changed.{apart, counted}
use Rattle.score.specs.Calls.{score_row}

-- the numbers of an image then
abbrev pub numbers_then : List ℕ → Numbers
numbers_then s = named (reading_of pgm_one_byte s)

-- by those numbers, the pixel at a position: the raster's byte there
abbrev pub byte_then : Numbers → List ℕ → ℕ → ℕ
byte_then numbers s position = get_or (take (numbers.used - numbers.start) (drop numbers.start s)) position 0

-- whether two pixels differ by more than the allowance
unfoldable pub moved_then : (allowance x y : ℕ) → Bool
moved_then allowance x y = ltb allowance (apart x y)

-- the number of positions whose pixels do, or L if that number is larger
abbrev pub score_then : (bound allowance : ℕ) (one two : Numbers) (first second : List ℕ) → ℕ
score_then bound allowance one two first second =
    min bound (counted (λ position. moved_then allowance (byte_then one first position) (byte_then two second position)) (one.width * one.height))

unfoldable pub score_call_then : ℕ → ℕ → List ℕ → List ℕ → Call Answer (List ℕ × List ℕ)
score_call_then bound allowance first second =
    let one = numbers_then first in
    let two = numbers_then second in
    score_row bound one two first second (score_then bound allowance one two first second)
