-- What crosses to C says the same as the answer: the place is that of the raster's very bytes, and a case is told by its number.
-- Assumes nothing.
use Prim.Native.Nat.{ℕ}
use mathlib.Core.List.{List}
use mathlib.Core.Path.{◌≡◌, refl}
use lib.ListN.{take, drop}
use Rattle.book.specs.declared.verdicts.Verdict.{Verdict}
use Rattle.book.specs.declared.verdicts.Verdict.TheVariants.{Live, Frozen, Undecided, Resting}
use Rattle.book.specs.Answers.{Ruling}
use Rattle.book.specs.Answers.{Told, Refused}
use Rattle.image.specs.Reading.{raster_in}
use Rattle.page.specs.Answers.{Picture}
use Rattle.page.specs.Answers.{Neither, Newest, Older}
use Rattle.page.specs.Answers.{Choice}
use Rattle.page.specs.Shown.{picture_number}
use Rattle.uprzezar.specs.Crossing.{as_numbers, raster_place, verdict_in, shown_as, picture_at, choice_in}

pub place_is_raster : (s : List ℕ) → take (raster_place s).length (drop (raster_place s).offset s) ≡ raster_in s
place_is_raster s = refl

told_back : (window : ℕ) (verdict : Verdict) → let ruling = Told (record { window = window; verdict = verdict }) in
    verdict_in (as_numbers ruling) (as_numbers ruling).verdict ≡ ruling
told_back window (Live figure) = refl
told_back window (Frozen figure) = refl
told_back window (Undecided figure) = refl
told_back window (Resting figure) = refl

-- nothing is lost: the answer can be read back, its window too
pub read_back : (ruling : Ruling) → verdict_in (as_numbers ruling) (as_numbers ruling).verdict ≡ ruling
read_back (Told notice) = told_back notice.window notice.verdict
read_back (Refused refusal) = refl

picture_back : (picture : Picture) → picture_at (picture_number picture) ≡ picture
picture_back Neither = refl
picture_back Newest = refl
picture_back Older = refl

-- nor of a choice: its picture can be read back, and all else crosses as it is
pub choice_back : (choice : Choice) → choice_in (shown_as choice) ≡ choice
choice_back choice =
    λ i.
    record {
      refusal = choice.refusal;
      picture = picture_back choice.picture i;
      offset = choice.offset;
      length = choice.length;
      age = choice.age;
    }
