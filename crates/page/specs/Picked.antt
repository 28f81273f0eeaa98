-- What the code finds first, for both calls alike: which picture is shown, and between which bytes of its slice its raster lies. Only contracts of
-- private functions speak of this.
use Rattle.std.specs.Prelude.{ℕ}
use Rattle.refusals.specs.Call.{Call}
use Rattle.book.specs.declared.Book.{Book}
use Rattle.image.specs.Reading.{numbers_of}
use Rattle.page.specs.Answers.{Picture}
use Rattle.page.specs.Answers.{Neither}
use Rattle.page.specs.Answers.{Picked}
use Rattle.page.specs.Shown.{of_shown}
use Rattle.page.specs.Calls.{Lent, page_call}

abbrev pub picked_of : Picture → (start end : ℕ) → Picked
picked_of picture start end = record { refusal = 0; picture = picture; start = start; end = end }

abbrev pub no_picture : ℕ → Picked
no_picture refusal = record { refusal = refusal; picture = Neither; start = 0; end = 0 }

unfoldable pub pick_call : Book → (window amount : ℕ) → Lent → Call Picked Lent
pick_call book window amount lent =
    page_call book window amount lent
    (λ picture. (let numbers = numbers_of (of_shown picture lent.newest lent.older) in
    picked_of picture numbers.start numbers.used))
    no_picture
