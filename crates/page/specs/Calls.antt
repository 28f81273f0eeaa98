-- What the two calls of the page give, for every input: one says which picture is shown, where its raster lies and how old it is, and the other gives
-- the raster itself. Both are made from one definition, `page_call`.
use Rattle.std.specs.Prelude.{ℕ, ◌-◌, List, [], ◌∷◌}
use Rattle.std.specs.Borrow.{Bor}
use Rattle.refusals.specs.First.{Fault, passed_on}
use Rattle.refusals.specs.Call.{Call}
use Rattle.book.specs.declared.Book.{Book}
use Rattle.book.specs.Answers.{Ruling}
use Rattle.book.specs.Verdict.{refusal_in}
use Rattle.image.specs.Reading.{numbers_of}
use Rattle.image.specs.Part.{Part, raster_of, empty_part}
use Rattle.page.specs.Answers.{Picture}
use Rattle.page.specs.Answers.{Neither}
use Rattle.page.specs.Answers.{Choice}
use Rattle.page.specs.declared.Ticks.{Ticks}
use Rattle.page.specs.Shown.{picture_in, ruling_on, of_shown, age_shown}

-- the bytes that are lent
pub record Lent : Type 0 where
  pub ring : List ℕ
  pub newest : List ℕ
  pub older : List ℕ

-- those of the slices that are lent
abbrev pub lent_by : (ring newest older : Bor (List ℕ)) → Lent
lent_by ring newest older = record { ring = ring.now; newest = newest.now; older = older.now }

-- in order: the verdict's refusal, the newest image's, the other's; both images are judged, whichever is shown
abbrev pub page_faults : Ruling → (newest older : List ℕ) → List Fault
page_faults ruling newest older =
    passed_on (refusal_in ruling) ∷ passed_on (numbers_of newest).refusal ∷ passed_on (numbers_of older).refusal ∷ []

-- A call of the page: without a fault it gives what is said of the picture that is shown, with one what is said by the fault's number; all bytes are
-- lent only to be read
unfoldable pub page_call : {Result : Type 0} → Book → (window amount : ℕ) → Lent → (shown : Picture → Result) (refused : ℕ → Result)
    → Call Result Lent
page_call book window amount lent shown refused =
    let ruling = ruling_on book lent.ring window amount in
    record {
      faults = page_faults ruling lent.newest lent.older;
      given = shown (picture_in ruling);
      left = lent;
      back = refused;
      lent = lent;
    }

-- a picture, its raster between two places of its slice, and its age
abbrev pub choice_of : Picture → (start end age : ℕ) → Choice
choice_of picture start end age = record { refusal = 0; picture = picture; offset = start; length = end - start; age = age }

-- a refusal: neither picture, and 0 for all other numbers
abbrev pub no_choice : ℕ → Choice
no_choice refusal = record { refusal = refusal; picture = Neither; offset = 0; length = 0; age = 0 }

-- Show: the picture that is shown, with its raster's place by the numbers of its image, and its age
unfoldable pub show_call : Book → (window amount : ℕ) → Lent → Ticks → Call Choice Lent
show_call book window amount lent ticks =
    page_call book window amount lent
    (λ picture. (let numbers = numbers_of (of_shown picture lent.newest lent.older) in
    choice_of picture numbers.start numbers.used (age_shown ticks picture)))
    no_choice

-- Raster: that of the picture that is shown, as a part of its own slice; with a refusal the empty part where the newest's slice starts
unfoldable pub part_call : Book → (window amount : ℕ) → (ring newest older : Bor (List ℕ)) → Call Part Lent
part_call book window amount ring newest older =
    page_call book window amount (lent_by ring newest older)
    (λ picture. raster_of (of_shown picture newest older))
    (λ refusal. empty_part newest)
