-- Adding to zones (SCOPE, Zones): to one of them, and to as many in a row as there are counts.
use Rattle.std.specs.Prelude.{ℕ, suc, List, [], ◌∷◌, set}
use Rattle.book.specs.Adding.{added, added_ring}
use Rattle.zones.specs.Stretches.{ZonesAndRings, zone_at, stretch_start, stretch_of, with_stretch}

-- one zone with an item: its record and its stretch are what the book's own adding makes of them, and nothing else is touched
unfoldable pub added_zone : ZonesAndRings → ℕ → ℕ → ZonesAndRings
added_zone lent zone item =
    let book = zone_at lent.zones zone in
    record {
      zones = set lent.zones zone (added book item);
      rings = with_stretch lent.rings (stretch_start lent.zones zone) (added_ring book (stretch_of lent zone) item);
    }

-- zone by zone: the first count to zone `low`, the next one to the zone after it, and so on
unfoldable pub added_from : ℕ → List ℕ → ZonesAndRings → ZonesAndRings
added_from low [] lent = lent
added_from low (count ∷ later) lent = added_from (suc low) later (added_zone lent low count)
