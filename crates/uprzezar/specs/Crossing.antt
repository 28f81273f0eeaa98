-- The answers that do not cross to C as they are: what the page is told crosses as numbers (SCOPE, Verdict and Dark hours), and so does the choice of
-- a picture (SCOPE, Page); a raster crosses as its place in the lent bytes.
use Rattle.std.specs.Prelude.{ℕ, zero, suc, ◌-◌, List}
use Rattle.book.specs.declared.verdicts.Verdict.{Verdict}
use Rattle.book.specs.declared.verdicts.Verdict.TheVariants.{Live, Frozen, Undecided, Resting}
use Rattle.book.specs.Answers.{Ruling}
use Rattle.book.specs.Answers.{Told, Refused}
use Rattle.book.specs.Verdict.{refusal_in, ruling_number, window_in, value_in}
use Rattle.image.specs.declared.told.Numbers.{Numbers}
use Rattle.image.specs.Reading.{numbers_of}
use Rattle.page.specs.Answers.{Picture}
use Rattle.page.specs.Answers.{Neither, Newest, Older}
use Rattle.page.specs.Answers.{Choice}
use Rattle.page.specs.Shown.{picture_number}
use Rattle.uprzezar.specs.declared.Ruled.{Ruled}
use Rattle.uprzezar.specs.declared.Raster.{Raster}
use Rattle.uprzezar.specs.declared.Shown.{Shown}

-- the refusal, the verdict, the window and the figure; numbers that there are not are 0
abbrev pub as_numbers : Ruling → Ruled
as_numbers ruling =
    record { refusal = refusal_in ruling; verdict = ruling_number ruling; window = window_in ruling; figure = value_in ruling }

-- a verdict with the window and the figure of four numbers
abbrev pub told_with : Ruled → (ℕ → Verdict) → Ruling
told_with told verdict = Told (record { window = told.window; verdict = verdict told.figure })

-- the answer that four numbers tell, by the verdict's number; a refusal is told by its own
abbrev pub verdict_in : Ruled → ℕ → Ruling
verdict_in told zero = Refused told.refusal
verdict_in told (suc zero) = told_with told Live
verdict_in told (suc (suc zero)) = told_with told Frozen
verdict_in told (suc (suc (suc zero))) = told_with told Undecided
verdict_in told (suc (suc (suc (suc other)))) = told_with told Resting

-- where the raster lies by the image's numbers: its first byte, and how many they are
abbrev pub place_in : Numbers → Raster
place_in numbers = record { refusal = numbers.refusal; offset = numbers.start; length = numbers.used - numbers.start }

abbrev pub raster_place : List ℕ → Raster
raster_place s = place_in (numbers_of s)

-- a choice, with its picture's number
abbrev pub shown_as : Choice → Shown
shown_as choice =
    record {
      refusal = choice.refusal;
      picture = picture_number choice.picture;
      offset = choice.offset;
      length = choice.length;
      age = choice.age;
    }

-- the picture that a number tells
abbrev pub picture_at : ℕ → Picture
picture_at zero = Neither
picture_at (suc zero) = Newest
picture_at (suc (suc other)) = Older

-- the choice that five numbers tell
abbrev pub choice_in : Shown → Choice
choice_in told =
    record {
      refusal = told.refusal;
      picture = picture_at told.picture;
      offset = told.offset;
      length = told.length;
      age = told.age;
    }
