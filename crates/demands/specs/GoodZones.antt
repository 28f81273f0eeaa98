-- Zones, each with a book from a good start (SCOPE, Zones and Demands): its record and its stretch, with the items of its own.
use Rattle.std.specs.Prelude.{ℕ, ◌<◌, cond, List, ◌∷◌, eqb, length, get_or}
use Rattle.zones.specs.Stretches.{ZonesAndRings, zone_at, stretch_of}
use Rattle.demands.specs.History.{Good}

-- `items zone` are the accepted items of that zone, the newest first
abbrev pub GoodZones : ZonesAndRings → (ℕ → List ℕ) → Type 0
GoodZones lent items = (zone : ℕ) → zone < length lent.zones → Good (zone_at lent.zones zone) (stretch_of lent zone) (items zone)

-- the items of each zone with its count among them
abbrev pub with_counts : List ℕ → (ℕ → List ℕ) → ℕ → List ℕ
with_counts counts items zone = get_or counts zone 0 ∷ items zone

-- and with one item more in one zone
abbrev pub with_item : ℕ → ℕ → (ℕ → List ℕ) → ℕ → List ℕ
with_item own item items zone = cond (eqb zone own) (item ∷ items zone) (items zone)
