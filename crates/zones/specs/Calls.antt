-- What the calls with zones give and leave, for every input, with their refusals in the order of SCOPE, Zones.
use Rattle.std.specs.Prelude.{ℕ, cond, not, ◌||◌, List, [], ◌∷◌, eqb, leb, length}
use Rattle.refusals.specs.Numbers.{no_book, book_rests, item_too_large, bad_zones}
use Rattle.refusals.specs.First.{Fault, ◌gives◌, passed_on, outside}
use Rattle.refusals.specs.Call.{Call}
use Rattle.book.specs.declared.Book.{Book}
use Rattle.book.specs.Calls.{room_fault, rest_fault, item_fault}
use Rattle.zones.specs.declared.told.Zoned.{Zoned}
use Rattle.zones.specs.Stretches.{ZonesAndRings, zone_at, all_bytes}
use Rattle.zones.specs.Adding.{added_zone, added_from}
use Rattle.zones.specs.Lowest.{record_refusals, taking_refusals, refusal_of_lowest, lowest_zone}

abbrev pub most_zones : ℕ
most_zones = 96

-- 20: no zones, or more than 96
abbrev pub how_many_fault : ℕ → Fault
how_many_fault zones = outside 1 most_zones zones gives bad_zones

-- 20: counts and records differ in number
abbrev pub unequal_fault : ℕ → ℕ → Fault
unequal_fault zones counts = not (eqb counts zones) gives bad_zones

-- 20: the zone's number is not below their count
abbrev pub zone_fault : ℕ → ℕ → Fault
zone_fault zones zone = leb zones zone gives bad_zones

-- 8: a zone's record is no book, of all zones
abbrev pub books_fault : List Book → Fault
books_fault zones = passed_on (refusal_of_lowest (record_refusals zones))

-- 17 or 7: a zone rests, or its count is above its L; of these the refusal of the lowest zone
abbrev pub taking_fault : List Book → List ℕ → Fault
taking_fault zones counts = passed_on (refusal_of_lowest (taking_refusals zones counts))

-- the zone that comes with a refusal: with 8 the lowest such zone, with 17 and 7 the one that is handed on
unfoldable pub zone_with : List Book → ℕ → ℕ → ℕ
zone_with zones late refusal =
    cond (eqb refusal no_book) (lowest_zone (record_refusals zones))
    (cond (eqb refusal book_rests || eqb refusal item_too_large) late
    0)

-- Adding to all zones: 20, 8, 4, then 17 or 7, whichever the lowest zone with one of them has. It adds to each zone its count, from the first on
unfoldable pub add_all_call : List Book → List ℕ → List ℕ → Call Zoned ZonesAndRings
add_all_call zones rings counts =
    record {
      faults =
          how_many_fault (length zones)
          ∷ unequal_fault (length zones) (length counts)
          ∷ books_fault zones
          ∷ room_fault (all_bytes zones) (length rings)
          ∷ taking_fault zones counts
          ∷ [];
      given = record { refusal = 0; zone = 0 };
      left = added_from 0 counts (record { zones = zones; rings = rings });
      back = λ refusal. record { refusal = refusal; zone = zone_with zones (lowest_zone (taking_refusals zones counts)) refusal };
      lent = record { zones = zones; rings = rings };
    }

-- Adding to one zone: 20, 8, 4, 17, 7. All zones are judged for 8 and 4, and its own alone for 17 and 7
unfoldable pub add_one_call : List Book → List ℕ → ℕ → ℕ → Call Zoned ZonesAndRings
add_one_call zones rings zone item =
    record {
      faults =
          how_many_fault (length zones)
          ∷ zone_fault (length zones) zone
          ∷ books_fault zones
          ∷ room_fault (all_bytes zones) (length rings)
          ∷ rest_fault (zone_at zones zone)
          ∷ item_fault (zone_at zones zone) item
          ∷ [];
      given = record { refusal = 0; zone = 0 };
      left = added_zone (record { zones = zones; rings = rings }) zone item;
      back = λ refusal. record { refusal = refusal; zone = zone_with zones zone refusal };
      lent = record { zones = zones; rings = rings };
    }
