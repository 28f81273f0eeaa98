-- Adding zone by zone: one count more goes to the next zone; and the zones still to come are as they were.
-- Assumes nothing.
use Prim.Native.Nat.{ℕ, zero, suc, ◌+◌, ◌≤◌, ◌<◌}
use native.Mathlib.Nat.{add-suc, suc-add, add-zero}
use native.Mathlib.Omega.{arith}
use mathlib.Core.List.{List, [], ◌∷◌, ◌++◌}
use mathlib.Core.Path.{◌≡◌, refl, sym, ap, ◌∙◌}
use lib.ListN.{length, get_or, take}
use lib.Seq.{take-suc, length-take-le}
use Rattle.book.specs.Sound.{Sound}
use Rattle.zones.specs.Stretches.{ZonesAndRings, zone_at, stretch_start, all_bytes}
use Rattle.zones.specs.Adding.{added_zone, added_from}
use Rattle.zones.proofs.OneZone.{zones_stay, start_stays, other_record, rings_stay}

-- no count: nothing is added
pub from_none : (low : ℕ) (lent : ZonesAndRings) → added_from low [] lent ≡ lent
unfolding added_from
from_none low lent = refl

-- one count more at the end: it goes to the zone behind the others
pub from_more : (low : ℕ) (counts : List ℕ) (count : ℕ) (lent : ZonesAndRings)
    → added_from low (counts ++ (count ∷ [])) lent ≡ added_zone (added_from low counts lent) (low + length counts) count
unfolding added_from
from_more low [] count lent = ap (λ (zone : ℕ). added_zone lent zone count) (sym (add-zero low))
from_more low (first ∷ counts) count lent =
    from_more (suc low) counts count (added_zone lent low first)
    ∙ ap (λ (zone : ℕ). added_zone (added_from (suc low) counts (added_zone lent low first)) zone count)
    (suc-add low (length counts) ∙ sym (add-suc low (length counts)))

-- the same of the first counts of a list
pub from_next : (low : ℕ) (counts : List ℕ) (lent : ZonesAndRings) (j : ℕ) → j < length counts
    → added_from low (take (suc j) counts) lent ≡ added_zone (added_from low (take j counts) lent) (low + j) (get_or counts j 0)
from_next low counts lent j there =
    ap (λ (l : List ℕ). added_from low l lent) (take-suc counts j 0 there)
    ∙ from_more low (take j counts) (get_or counts j 0) lent
    ∙ ap (λ (n : ℕ). added_zone (added_from low (take j counts) lent) (low + n) (get_or counts j 0)) (length-take-le j counts (omega arith))

-- what was lent, and what it has come to with the zones before `next`: those from `next` on are as they were
pub record ToCome (lent : ZonesAndRings) (next : ℕ) (come : ZonesAndRings) : Type 0 where
  pub as_many : length come.zones ≡ length lent.zones
  pub as_long : length come.rings ≡ length lent.rings
  pub starts : (k : ℕ) → stretch_start come.zones k ≡ stretch_start lent.zones k
  pub records : (k : ℕ) → next ≤ k → zone_at come.zones k ≡ zone_at lent.zones k

-- at first
pub all_to_come : (lent : ZonesAndRings) (next : ℕ) → ToCome lent next lent
all_to_come lent next = record { as_many = refl; as_long = refl; starts = λ k. refl; records = λ k later. refl }

module _ {lent : ZonesAndRings} {next : ℕ} {come : ZonesAndRings} (before : ToCome lent next come) where
  -- all stretches take what they took
  pub all_as_before : all_bytes come.zones ≡ all_bytes lent.zones
  all_as_before = ap (λ (n : ℕ). stretch_start come.zones n) before.as_many ∙ before.starts (length lent.zones)

  -- and so they lie in the slice as before
  pub room_as_before : all_bytes lent.zones ≤ length lent.rings → all_bytes come.zones ≤ length come.rings
  room_as_before room = omega (arith, all_as_before, before.as_long)

  -- with an item to the next one
  pub one_less_to_come : (item : ℕ) → next < length lent.zones → Sound (zone_at lent.zones next) → item ≤ (zone_at lent.zones next).bound
      → all_bytes lent.zones ≤ length lent.rings → ToCome lent (suc next) (added_zone come next item)
  one_less_to_come item there sound small room =
      let same : zone_at come.zones next ≡ zone_at lent.zones next = before.records next (omega arith) in
      record {
        as_many = zones_stay come next item ∙ before.as_many;
        as_long =
            rings_stay come next item (omega (arith, before.as_many)) (rw same sound) (rw same small) (room_as_before room) ∙ before.as_long;
        starts = λ k. start_stays come next item k ∙ before.starts k;
        records = λ k later. other_record come next item k (λ e. omega (arith, later, e)) ∙ before.records k (omega arith);
      }

-- the first counts of a list, each taken by its zone
module _ (low : ℕ) (counts : List ℕ) (lent : ZonesAndRings) (zones_there : low + length counts ≤ length lent.zones)
    (room : all_bytes lent.zones ≤ length lent.rings) (sound : (k : ℕ) → k < length counts → Sound (zone_at lent.zones (low + k)))
    (small : (k : ℕ) → k < length counts → get_or counts k 0 ≤ (zone_at lent.zones (low + k)).bound) where
  -- with so many of them added, the zones behind are still to come
  pub rest_to_come : (j : ℕ) → j ≤ length counts → ToCome lent (low + j) (added_from low (take j counts) lent)
  rest_to_come zero within = rw (from_none low lent) (all_to_come lent (low + 0))
  rest_to_come (suc j) within =
      rw (from_next low counts lent j within, add-suc low j)
      (one_less_to_come (rest_to_come j (omega arith)) (get_or counts j 0) (omega arith) (sound j within) (small j within) room)
