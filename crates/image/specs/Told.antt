-- How the answers of the code's own steps stand for the steps of the definitions. Only contracts of private functions speak of this.
use Rattle.std.specs.Prelude.{ℕ, zero, suc, ◌+◌, ◌*◌, ◌-◌, max, true, List, [], ◌∷◌, take, drop, Result, Ok, Err}
use Rattle.refusals.specs.declared.Refusal.{Refusal}
use Rattle.refusals.specs.Refused.{number_of}
use Rattle.image.specs.declared.took.Took.{Took}
use Rattle.image.specs.declared.took.Sides.{Sides}
use Rattle.image.specs.Tests.{Test, up_to}
use Rattle.image.specs.Seen.{limit, visible, ahead, Seen}
use Rattle.image.specs.Step.{Step, stopped, found}
use Rattle.image.specs.Kinds.{largest_side}
use Rattle.image.specs.Pixels.{pixel_at}

-- the step that an answer tells of: what it found and the bytes that are still ahead, or its refusal
abbrev pub told : List ℕ → Result (Took ℕ) Refusal → Step ℕ
told s (Ok took) = found took.value took.used (ahead s took.used)
told s (Err refusal) = stopped (number_of refusal)

-- the same of the first two numbers of a header, which are the width and the height, and their tests
abbrev pub told_sides : List ℕ → Result (Took Sides) Refusal → Step (List ℕ)
told_sides s (Ok took) = found (took.value.width ∷ took.value.height ∷ []) took.used (ahead s took.used)
told_sides s (Err refusal) = stopped (number_of refusal)

abbrev pub sides_tests : List Test
sides_tests = up_to largest_side ∷ up_to largest_side ∷ []

-- what a reader that stands inside of a comment still sees
unfoldable pub ahead_in_comment : List ℕ → ℕ → List Seen
ahead_in_comment s used = visible true used (drop used (take limit s))

-- above the range of every number: where the code's values stop
abbrev pub above_ranges : ℕ
above_ranges = 65536

-- the pixel at a position of a raster, by the part of it that the pixel takes: how the code reads one
abbrev pub pixel_by_part : ℕ → List ℕ → ℕ → ℕ
pixel_by_part per raster position = pixel_at per (take (position * per + per - position * per) (drop (position * per) raster)) 0

-- the largest of the first `count` pixels: how the code looks for one that is above maxval
unfoldable pub largest : (ℕ → ℕ) → ℕ → ℕ
largest pixel zero = 0
largest pixel (suc count) = max (largest pixel count) (pixel count)
