-- Adding to zones in a row, from zone `low` on, as the code does it for both calls: adding to all zones has low 0, and adding to one zone has its
-- number for low and one count. That these rows come to what the calls' own rows do is proved (proofs/AsInARow.antt).
use Rattle.std.specs.Prelude.{ℕ, ◌+◌, ◌≤◌, ◌<◌, cond, ◌||◌, List, [], ◌∷◌, ◌++◌, ◌≡◌, eqb, length, drop}
use Rattle.refusals.specs.Numbers.{no_book, book_rests, item_too_large}
use Rattle.refusals.specs.First.{Fault, passed_on, unless_refused}
use Rattle.refusals.specs.Call.{Call}
use Rattle.book.specs.declared.Book.{Book}
use Rattle.book.specs.Sound.{Sound}
use Rattle.book.specs.Calls.{room_fault}
use Rattle.zones.specs.declared.told.Zoned.{Zoned}
use Rattle.zones.specs.Stretches.{ZonesAndRings, zone_at, stretch_start, all_bytes}
use Rattle.zones.specs.Adding.{added_from}
use Rattle.zones.specs.Lowest.{record_refusals, taking_refusals, refusal_of_lowest, lowest_zone}
use Rattle.zones.specs.Calls.{how_many_fault, unequal_fault, zone_fault}
use Rattle.zones.specs.Sound.{TakesItem}

-- what is told of one zone: its refusal with the zone's number, or nothing
abbrev pub told_of : ℕ → ℕ → Zoned
told_of refusal zone = record { refusal = refusal; zone = unless_refused refusal 0 zone }

-- what is told of the refusals of zones from `low` on: that of the lowest
abbrev pub lowest_from : ℕ → List ℕ → Zoned
lowest_from low refusals = told_of (refusal_of_lowest refusals) (low + lowest_zone refusals)

-- 8, 4, then 17 or 7 of the lowest zone, of those that have a count
abbrev pub judged_faults : List Book → List ℕ → ℕ → List ℕ → List Fault
judged_faults zones rings low counts =
    passed_on (refusal_of_lowest (record_refusals zones))
    ∷ room_fault (all_bytes zones) (length rings)
    ∷ passed_on (refusal_of_lowest (taking_refusals (drop low zones) counts))
    ∷ []

-- the zone that comes with a refusal
abbrev pub zone_in_arow : List Book → ℕ → List ℕ → ℕ → ℕ
zone_in_arow zones low counts refusal =
    cond (eqb refusal no_book) (lowest_zone (record_refusals zones))
    (cond (eqb refusal book_rests || eqb refusal item_too_large) (low + lowest_zone (taking_refusals (drop low zones) counts))
    0)

-- `early` gives 20
abbrev pub in_arow : List Fault → List Book → List ℕ → ℕ → List ℕ → Call Zoned ZonesAndRings
in_arow early zones rings low counts =
    record {
      faults = early ++ judged_faults zones rings low counts;
      given = record { refusal = 0; zone = 0 };
      left = added_from low counts (record { zones = zones; rings = rings });
      back = λ refusal. record { refusal = refusal; zone = zone_in_arow zones low counts refusal };
      lent = record { zones = zones; rings = rings };
    }

-- behind 20
unfoldable pub row_call : List Book → List ℕ → ℕ → List ℕ → Call Zoned ZonesAndRings
row_call zones rings low counts = in_arow [] zones rings low counts

-- a zone of those that are lent can take its count next: it is there, a book that takes it, its stretch starts at `start`, and all stretches lie in
-- the slice
pub record AddsNext (zones : List Book) (rings : List ℕ) (zone start count : ℕ) : Type 0 where
  pub there : zone < length zones
  pub sound : Sound (zone_at zones zone)
  pub takes : TakesItem (zone_at zones zone) count
  pub at_start : start ≡ stretch_start zones zone
  pub at_small : start < 4294967296
  pub room : all_bytes zones ≤ length rings

-- what gives 20 in the two calls
abbrev pub early_of_all : ℕ → ℕ → List Fault
early_of_all zones counts = how_many_fault zones ∷ unequal_fault zones counts ∷ []

abbrev pub early_of_one : ℕ → ℕ → List Fault
early_of_one zones zone = how_many_fault zones ∷ zone_fault zones zone ∷ []
