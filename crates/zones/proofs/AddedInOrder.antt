-- Adding to zones in any order, and as often as one likes: each zone is what the book's own adding makes of it as often as the zone stands in the
-- order, no call is refused, and what comes of it does not depend on the order.
-- Assumes nothing.
use Prim.Native.Nat.{ℕ, zero, suc, ◌+◌, ◌≤◌, ◌<◌}
use native.Mathlib.Omega.{arith}
use native.Mathlib.Nat.{add-zero}
use mathlib.Core.List.{List, [], ◌∷◌}
use mathlib.Core.Logic.{⊎_elim}
use mathlib.Core.Path.{◌≡◌, refl, sym, ap, ◌∙◌}
use lib.ListN.{length, get_or, drop}
use Rattle.book.specs.declared.Book.{Book}
use Rattle.book.specs.Sound.{Sound}
use Rattle.book.specs.Adding.{added, added_ring}
use Rattle.book.proofs.Promises.{added_same, added_mark, added_usable}
use Rattle.zones.specs.Stretches.{ZonesAndRings, zone_at, all_bytes, stretch_of}
use Rattle.zones.specs.Adding.{added_zone, added_from}
use Rattle.zones.specs.Sound.{AllSound, TakesItem}
use Rattle.zones.specs.AnyOrder.{occurrences, InOrder}
use Rattle.zones.proofs.OneZone.{zones_stay, all_bytes_stay, own_record, other_record, rings_stay, own_stretch, each_other_stretch, behind_stays}
use Rattle.zones.proofs.WhenTaken.{one_taken, one_gives}
use Rattle.zones.proofs.OneZoneAlone.{zone_usable}
use Rattle.zones.proofs.HowOften.{not_in_none, once_more, as_often, same_or_other, in_turn}
use Rattle.zones.proofs.SameZones.{same_zones}

-- A ZONE with its stretch, and what the book's own adding makes of both, once and so many times
abbrev pub zone_of : ZonesAndRings → ℕ → Book × List ℕ
zone_of lent zone = (zone_at lent.zones zone, stretch_of lent zone)

abbrev pub added_to : ℕ → Book × List ℕ → Book × List ℕ
added_to item own = (added own.0 item, added_ring own.0 own.1 item)

abbrev pub added_times : ℕ → ℕ → Book × List ℕ → Book × List ℕ
added_times zero item own = own
added_times (suc times) item own = added_times times item (added_to item own)

-- what comes of an order
abbrev pub added_in : List ℕ → List ℕ → ZonesAndRings → ZonesAndRings
added_in [] counts lent = lent
added_in (zone ∷ order) counts lent = added_in order counts (added_zone lent zone (get_or counts zone 0))

-- sound zones, each of which takes its own count
pub record AllTake (counts : List ℕ) (lent : ZonesAndRings) : Type 0 where
  pub all : AllSound lent.zones (length lent.rings)
  pub takes : (zone : ℕ) → zone < length lent.zones → TakesItem (zone_at lent.zones zone) (get_or counts zone 0)

-- ONE ZONE MORE
module _ (counts : List ℕ) (lent : ZonesAndRings) (can : AllTake counts lent) (zone : ℕ) (there : zone < length lent.zones) where
  abbrev next : ZonesAndRings
  next = added_zone lent zone (get_or counts zone 0)

  -- what the laws of one zone ask
  own_sound : Sound (zone_at lent.zones zone)
  own_sound = can.all.sound zone there

  own_small : get_or counts zone 0 ≤ (zone_at lent.zones zone).bound
  own_small = (can.takes zone there).small

  -- that zone is added to once, and every other one is as it was
  pub zone_cases : (P : Book × List ℕ → Type 0) (k : ℕ) → (k ≡ zone → P (added_to (get_or counts k 0) (zone_of lent k)))
      → ((k ≡ zone → ⊥) → P (zone_of lent k)) → P (zone_of next k)
  zone_cases P k own other = ⊎_elim here (λ apart. rw (others apart) (other apart)) (same_or_other k zone)
    where
      others : (k ≡ zone → ⊥) → zone_of next k ≡ zone_of lent k
      others apart = λ i. (
        other_record lent zone (get_or counts zone 0) k apart i,
        each_other_stretch lent zone (get_or counts zone 0) there own_sound own_small can.all.room k apart i,
      )

      itself : zone_of next zone ≡ added_to (get_or counts zone 0) (zone_of lent zone)
      itself = λ i. (
        own_record lent zone (get_or counts zone 0) there i,
        own_stretch lent zone (get_or counts zone 0) there own_sound own_small can.all.room i,
      )

      here : k ≡ zone → P (zone_of next k)
      here e = rw (ap (λ (j : ℕ). zone_of next j) e ∙ itself ∙ ap (λ (j : ℕ). added_to (get_or counts j 0) (zone_of lent j)) (sym e)) (own e)

  -- a zone that was added to is a book, awake and with the L that it had: all zones take their counts again
  pub all_take_again : AllTake counts next
  all_take_again =
      let many = zones_stay lent zone (get_or counts zone 0) in
      record {
        all = record {
          some = omega (arith, many, can.all.some);
          few = omega (arith, many, can.all.few);
          sound = λ k within. by_sound k (omega (arith, many, within));
          room = (let bytes = all_bytes_stay lent zone (get_or counts zone 0) in
              let long = rings_stay lent zone (get_or counts zone 0) there own_sound own_small can.all.room in
              let room = can.all.room in omega (arith, bytes, long, room));
        };
        takes = λ k within. by_takes k (omega (arith, many, within));
      }
    where
      by_sound : (k : ℕ) → k < length lent.zones → Sound (zone_at next.zones k)
      by_sound k within =
          zone_cases (λ own. Sound own.0) k
          (λ e. (added_usable (zone_at lent.zones k) (stretch_of lent k) (get_or counts k 0) (zone_usable lent can.all k within)
          (can.takes k within).small).sound)
          (λ apart. can.all.sound k within)

      by_takes : (k : ℕ) → k < length lent.zones → TakesItem (zone_at next.zones k) (get_or counts k 0)
      by_takes k within =
          zone_cases (λ own. TakesItem own.0 (get_or counts k 0)) k
          (λ e. (let same = added_same (zone_at lent.zones k) (get_or counts k 0) in
          let takes = can.takes k within in
          record {
            up = added_mark (zone_at lent.zones k) (get_or counts k 0) ∙ takes.up;
            small = rw same.bound_same takes.small;
          }))
          (λ apart. can.takes k within)

-- AN ORDER, with any zone in it as often as one likes, all of them below n
abbrev pub Below : ℕ → List ℕ → Type 0
Below n order = (zone : ℕ) → 0 < occurrences zone order → zone < n

-- its first zone is below n, and so are the others
module _ (n zone : ℕ) (order : List ℕ) (below : Below n (zone ∷ order)) where
  first_below : zone < n
  first_below = below zone (let more = once_more zone zone order refl in omega (arith, more))

  rest_below : Below n order
  rest_below k stands =
      ⊎_elim (λ e. rw e first_below) (λ other. below k (let same = as_often k zone order other in omega (arith, same, stands))) (same_or_other k zone)

-- what an order comes to: as many zones and ring bytes as before, each zone added to as often as it stands in the order, and the bytes behind the
-- stretches, which take what they took, as they were
pub record Reached (order counts : List ℕ) (lent after : ZonesAndRings) : Type 0 where
  pub many : length after.zones ≡ length lent.zones
  pub long : length after.rings ≡ length lent.rings
  pub each : (zone : ℕ) → zone_of after zone ≡ added_times (occurrences zone order) (get_or counts zone 0) (zone_of lent zone)
  pub bytes : all_bytes after.zones ≡ all_bytes lent.zones
  pub behind : drop (all_bytes lent.zones) after.rings ≡ drop (all_bytes lent.zones) lent.rings

-- one zone more before an order
module _ (counts : List ℕ) (lent : ZonesAndRings) (can : AllTake counts lent) (zone : ℕ) (there : zone < length lent.zones) where
  one_before : (order : List ℕ) (after : ZonesAndRings) → Reached order counts (added_zone lent zone (get_or counts zone 0)) after
      → Reached (zone ∷ order) counts lent after
  one_before order after reached =
      let item = get_or counts zone 0 in
      let bytes = all_bytes_stay lent zone item in
      record {
        many = reached.many ∙ zones_stay lent zone item;
        long = reached.long ∙ rings_stay lent zone item there (can.all.sound zone there) (can.takes zone there).small can.all.room;
        each = λ k. reached.each k ∙ once k;
        bytes = reached.bytes ∙ bytes;
        behind = (rw bytes at reached.behind)
            ∙ behind_stays lent zone item there (can.all.sound zone there) (can.takes zone there).small can.all.room;
      }
    where
      once : (k : ℕ) → added_times (occurrences k order) (get_or counts k 0) (zone_of (added_zone lent zone (get_or counts zone 0)) k)
          ≡ added_times (occurrences k (zone ∷ order)) (get_or counts k 0) (zone_of lent k)
      once k =
          let times : ℕ → Book × List ℕ = λ t. added_times t (get_or counts k 0) (zone_of lent k) in
          zone_cases counts lent can zone there
          (λ own. added_times (occurrences k order) (get_or counts k 0) own ≡ times (occurrences k (zone ∷ order))) k
          (λ e. sym (ap times (once_more k zone order e))) (λ apart. sym (ap times (as_often k zone order apart)))

-- what comes of an order is what it comes to
pub order_reaches : (order counts : List ℕ) (lent : ZonesAndRings) → AllTake counts lent → Below (length lent.zones) order
    → Reached order counts lent (added_in order counts lent)
order_reaches [] counts lent can below =
    record {
      many = refl;
      long = refl;
      each = λ zone. sym (ap (λ (times : ℕ). added_times times (get_or counts zone 0) (zone_of lent zone)) (not_in_none zone));
      bytes = refl;
      behind = refl;
    }
order_reaches (zone ∷ order) counts lent can below =
    let there = first_below (length lent.zones) zone order below in
    one_before counts lent can zone there order (added_in (zone ∷ order) counts lent)
    (order_reaches order counts (added_zone lent zone (get_or counts zone 0)) (all_take_again counts lent can zone there)
    (rw (zones_stay lent zone (get_or counts zone 0)) (rest_below (length lent.zones) zone order below)))

-- and the calls for one zone after the other come to it, and none is refused
pub order_taken : (order counts : List ℕ) (lent : ZonesAndRings) → AllTake counts lent → Below (length lent.zones) order
    → InOrder order counts lent (added_in order counts lent)
order_taken [] counts lent can below = refl
order_taken (zone ∷ order) counts lent can below =
    let there = first_below (length lent.zones) zone order below in
    let taken = one_taken lent.zones lent.rings zone (get_or counts zone 0) can.all there (can.takes zone there) in (
      taken,
      rw (one_gives lent.zones lent.rings zone (get_or counts zone 0) taken).1
          (order_taken order counts (added_zone lent zone (get_or counts zone 0)) (all_take_again counts lent can zone there)
          (rw (zones_stay lent zone (get_or counts zone 0)) (rest_below (length lent.zones) zone order below))),
    )

-- two orders in which each zone stands equally often come to the same
pub same_end : (order order' counts : List ℕ) (lent after after' : ZonesAndRings) → ((zone : ℕ) → occurrences zone order ≡ occurrences zone order')
    → Reached order counts lent after → Reached order' counts lent after' → after ≡ after'
same_end order order' counts lent after after' often reached reached' =
    same_zones after after' (reached.many ∙ sym reached'.many) (λ zone. ap (λ (own : Book × List ℕ). own.0) (alike zone))
    (λ zone. ap (λ (own : Book × List ℕ). own.1) (alike zone)) (rw reached.bytes (reached.behind ∙ sym reached'.behind))
  where
    alike : (zone : ℕ) → zone_of after zone ≡ zone_of after' zone
    alike zone =
        reached.each zone
        ∙ ap (λ (times : ℕ). added_times times (get_or counts zone 0) (zone_of lent zone)) (often zone)
        ∙ sym (reached'.each zone)

-- ALL IN TURN: adding as many counts as there are to the zones from `low` on is that order
pub added_in_turn : (later : List ℕ) (low : ℕ) (counts : List ℕ) (lent : ZonesAndRings)
    → ((place : ℕ) → get_or later place 0 ≡ get_or counts (low + place) 0) → added_from low later lent ≡ added_in (in_turn low (length later)) counts lent
unfolding added_from
added_in_turn [] low counts lent same = refl
added_in_turn (count ∷ later) low counts lent same =
    added_in_turn later (suc low) counts (added_zone lent low count)
    (λ place. (let next : low + suc place ≡ suc low + place = omega arith in same (suc place) ∙ ap (λ (k : ℕ). get_or counts k 0) next))
    ∙ ap (λ (item : ℕ). added_in (in_turn (suc low) (length later)) counts (added_zone lent low item))
    (same 0 ∙ ap (λ (k : ℕ). get_or counts k 0) (add-zero low))
