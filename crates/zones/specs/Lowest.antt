-- Which zone is refused (SCOPE, Zones): of the zones with a refusal of their own, the lowest.
use Rattle.std.specs.Prelude.{ℕ, zero, suc, List, [], ◌∷◌}
use Rattle.refusals.specs.First.{first_of, or_else}
use Rattle.book.specs.declared.Book.{Book}
use Rattle.book.specs.Calls.{record_faults, rest_fault, item_fault}

-- 8: the zone's record is no book
abbrev pub record_refusal : Book → ℕ
record_refusal book = first_of (record_faults book)

-- 17, then 7: the zone rests, or its item is above its L
abbrev pub taking_refusal : Book → ℕ → ℕ
taking_refusal book item = first_of (rest_fault book ∷ item_fault book item ∷ [])

-- for each zone its own refusal, 0 for none
unfoldable pub record_refusals : List Book → List ℕ
record_refusals [] = []
record_refusals (book ∷ zones) = record_refusal book ∷ record_refusals zones

-- for each zone that has a count
unfoldable pub taking_refusals : List Book → List ℕ → List ℕ
taking_refusals [] counts = []
taking_refusals (book ∷ zones) [] = []
taking_refusals (book ∷ zones) (count ∷ counts) = taking_refusal book count ∷ taking_refusals zones counts

-- the first number in a list that is not 0 …
unfoldable pub refusal_of_lowest : List ℕ → ℕ
refusal_of_lowest [] = 0
refusal_of_lowest (number ∷ later) = or_else number (refusal_of_lowest later)

-- … and where it stands, from 0: its zone
unfoldable pub lowest_zone : List ℕ → ℕ
lowest_zone [] = 0
lowest_zone (zero ∷ later) = suc (lowest_zone later)
lowest_zone (suc number ∷ later) = 0
