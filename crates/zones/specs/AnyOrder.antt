-- What adding to zones comes to, told by other calls (SCOPE, Zones): by the book's own call for each zone, and by calls for one zone at a time, one
-- after the other, in an order of one's own.
use Rattle.std.specs.Prelude.{ℕ, ◌+◌, cond, List, [], ◌∷◌, ◌≡◌, eqb, ltb, get_or}
use Rattle.refusals.specs.Call.{refusal_of, result_of, left_of}
use Rattle.book.specs.Calls.{add_call}
use Rattle.zones.specs.Stretches.{ZonesAndRings, zone_at, stretch_of}
use Rattle.zones.specs.Calls.{add_one_call}

-- the book's own call with the zone's record, its stretch and the item is not refused, and the zone's record and stretch are then what that call
-- gives and leaves
abbrev pub ByItsBook : ZonesAndRings → ZonesAndRings → ℕ → ℕ → Type 0
ByItsBook lent after zone item =
    let call = add_call (zone_at lent.zones zone) (stretch_of lent zone) item in
    (refusal_of call ≡ 0) × (zone_at after.zones zone ≡ (result_of call).book) × (stretch_of after zone ≡ left_of call)

-- how often a number stands in a list
unfoldable pub occurrences : ℕ → List ℕ → ℕ
occurrences number [] = 0
occurrences number (first ∷ later) = cond (eqb number first) 1 0 + occurrences number later

-- an order of the zones 0 to n − 1: each of them stands in it once, and no other number does
abbrev pub EachOnce : ℕ → List ℕ → Type 0
EachOnce n order = (zone : ℕ) → occurrences zone order ≡ cond (ltb zone n) 1 0

-- every zone of the order takes its own count by a call for that zone alone, none of these calls is refused, and that is what they leave in the end
abbrev pub InOrder : List ℕ → List ℕ → ZonesAndRings → ZonesAndRings → Type 0
InOrder [] counts lent after = lent ≡ after
InOrder (zone ∷ order) counts lent after =
    (refusal_of (add_one_call lent.zones lent.rings zone (get_or counts zone 0)) ≡ 0)
    × InOrder order counts (left_of (add_one_call lent.zones lent.rings zone (get_or counts zone 0))) after
