-- Adding to one zone: its record and its stretch are what the book's own adding makes of them, and every other zone, and all that lies behind the
-- stretches, is as it was.
-- Assumes nothing.
use Prim.Native.Nat.{ℕ, suc, ◌+◌, ◌≤◌, ◌<◌, min}
use native.Mathlib.Omega.{arith}
use mathlib.Core.List.{List}
use mathlib.Core.Logic.{⊎_elim}
use mathlib.Core.Path.{◌≡◌, sym, ap, ◌∙◌}
use lib.ListN.{length, take, drop, length-set, length-take, length-drop}
use lib.Seq.{get_or-set_same, get_or-set_other, length-take-le}
use Rattle.book.specs.declared.Book.{Book}
use Rattle.book.specs.Record.{bytes_of, no_book_at_all}
use Rattle.book.specs.Sound.{Sound}
use Rattle.book.specs.Adding.{added, added_ring}
use Rattle.book.proofs.Promises.{le_or_lt}
use Rattle.zones.specs.Stretches.{ZonesAndRings, zone_at, stretch_start, all_bytes, stretch_of}
use Rattle.zones.specs.Adding.{added_zone}
use Rattle.zones.proofs.StartsInOrder.{start_next, start_with, end_before_lem, end_within}
use Rattle.zones.proofs.OtherBytes.{length_with, part_there, part_before, rest_behind}
use Rattle.zones.proofs.AddedInPlace.{added_bytes, added_length}

-- where all stretches lie in the slice, each is as long as its zone's B
pub stretch_length : (lent : ZonesAndRings) → all_bytes lent.zones ≤ length lent.rings → (k : ℕ) → k < length lent.zones
    → length (stretch_of lent k) ≡ bytes_of (zone_at lent.zones k)
unfolding stretch_of
stretch_length lent room k there =
    length-take-le (bytes_of (zone_at lent.zones k)) (drop (stretch_start lent.zones k) lent.rings)
    (rw (length-drop (stretch_start lent.zones k) lent.rings) (omega (arith, end_within lent.zones k there)))

-- where the last stretch is as long as its B, and that is not 0, all stretches lie in the slice
pub all_lent : (lent : ZonesAndRings) (last : ℕ) → suc last ≡ length lent.zones → 1 ≤ bytes_of (zone_at lent.zones last)
    → bytes_of (zone_at lent.zones last) ≤ length (stretch_of lent last) → all_bytes lent.zones ≤ length lent.rings
unfolding stretch_of
all_lent lent last is some whole =
    let bytes : ℕ = bytes_of (zone_at lent.zones last) in
    let start : ℕ = stretch_start lent.zones last in
    let most : length (take bytes (drop start lent.rings)) ≡ min bytes (length (drop start lent.rings)) =
    length-take bytes (drop start lent.rings) in
    let left = length-drop start lent.rings in
    let end : all_bytes lent.zones ≡ start + bytes =
    ap (stretch_start lent.zones) (sym is) ∙ start_next lent.zones last (omega (arith, is)) in
    omega (arith, some, whole, most, left, end)

module _ (lent : ZonesAndRings) (zone item : ℕ) where
  -- as many zones
  pub zones_stay : length (added_zone lent zone item).zones ≡ length lent.zones
  unfolding added_zone
  zones_stay = simp length-set

  -- every stretch starts where it did
  pub start_stays : (k : ℕ) → stretch_start (added_zone lent zone item).zones k ≡ stretch_start lent.zones k
  unfolding added_zone
  start_stays = start_with lent.zones zone (added (zone_at lent.zones zone) item) (added_bytes (zone_at lent.zones zone) item)

  -- and all of them take what they took
  pub all_bytes_stay : all_bytes (added_zone lent zone item).zones ≡ all_bytes lent.zones
  all_bytes_stay = ap (λ (n : ℕ). stretch_start (added_zone lent zone item).zones n) zones_stay ∙ start_stays (length lent.zones)

  -- the zone's own record
  pub own_record : zone < length lent.zones → zone_at (added_zone lent zone item).zones zone ≡ added (zone_at lent.zones zone) item
  unfolding added_zone
  own_record there = get_or-set_same lent.zones zone (added (zone_at lent.zones zone) item) no_book_at_all there

  -- every other record
  pub other_record : (k : ℕ) → (k ≡ zone → ⊥) → zone_at (added_zone lent zone item).zones k ≡ zone_at lent.zones k
  unfolding added_zone
  other_record k other = get_or-set_other lent.zones zone k (added (zone_at lent.zones zone) item) no_book_at_all other

  module _ (there : zone < length lent.zones) (sound : Sound (zone_at lent.zones zone)) (small : item ≤ (zone_at lent.zones zone).bound)
      (room : all_bytes lent.zones ≤ length lent.rings) where
    -- the zone's record, the start of its stretch, and its new bytes
    abbrev own : Book
    own = zone_at lent.zones zone

    abbrev start : ℕ
    start = stretch_start lent.zones zone

    abbrev new : List ℕ
    new = added_ring own (stretch_of lent zone) item

    -- the zone's new bytes are as many as its B
    new_length : length new ≡ bytes_of own
    new_length =
        let long = stretch_length lent room zone there in
        added_length own (stretch_of lent zone) item (record { sound = sound; room = omega (arith, long) }) small ∙ long

    -- so they end where its stretch does
    new_ends : start + length new ≤ length lent.rings
    new_ends = omega (arith, new_length, end_within lent.zones zone there)

    -- no ring byte comes or goes
    pub rings_stay : length (added_zone lent zone item).rings ≡ length lent.rings
    unfolding added_zone
    rings_stay = length_with lent.rings start new new_ends

    -- the zone's own stretch
    pub own_stretch : stretch_of (added_zone lent zone item) zone ≡ added_ring (zone_at lent.zones zone) (stretch_of lent zone) item
    unfolding stretch_of added_zone
    own_stretch =
        let rings : List ℕ = (added_zone lent zone item).rings in
        (λ i. take (ap bytes_of (own_record there) i) (drop (start_stays zone i) rings))
        ∙ ap (λ (n : ℕ). take n (drop start rings)) (added_bytes own item ∙ sym new_length)
        ∙ part_there lent.rings start new new_ends

    -- every other stretch, and behind the last zone too
    pub each_other_stretch : (k : ℕ) → (k ≡ zone → ⊥) → stretch_of (added_zone lent zone item) k ≡ stretch_of lent k
    unfolding stretch_of added_zone
    each_other_stretch k other =
        let rings : List ℕ = (added_zone lent zone item).rings in
        (λ i. take (ap bytes_of (other_record k other) i) (drop (start_stays k i) rings))
        ∙ ⊎_elim
        (λ later. ap (λ (l : List ℕ). take (bytes_of (zone_at lent.zones k)) l)
        (rest_behind lent.rings start new new_ends (stretch_start lent.zones k)
        (omega (arith, new_length, end_before_lem lent.zones zone there k (omega (arith, other))))))
        (λ before. part_before lent.rings start new new_ends (stretch_start lent.zones k) (bytes_of (zone_at lent.zones k))
        (end_before_lem lent.zones k (omega arith) zone before))
        (le_or_lt zone k)

    -- and all that lies behind the stretches
    pub behind_stays : drop (all_bytes lent.zones) (added_zone lent zone item).rings ≡ drop (all_bytes lent.zones) lent.rings
    unfolding added_zone
    behind_stays =
        rest_behind lent.rings start new new_ends (all_bytes lent.zones) (omega (arith, new_length, end_within lent.zones zone there))
