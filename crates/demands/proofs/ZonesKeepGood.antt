-- GOOD ZONES (promise C-20.3): both calls keep a zone good, with its items, whatever the others are; demands 2 and 3 hold for each zone by itself;
-- and good zones that are awake take every count up to their own bounds.
-- Assumes nothing.
use Prim.Native.Nat.{ℕ, ◌-◌, ◌≤◌, ◌<◌}
use native.Mathlib.Omega.{arith}
use mathlib.Core.Bool.{Bool, true, false, cond}
use mathlib.Core.List.{List, ◌∷◌}
use mathlib.Core.Path.{◌≡◌, refl}
use borrow.Author.Tests.{eqb-true, eqb-false}
use lib.Dec.{eqb}
use lib.ListN.{length, get_or}
use Rattle.refusals.specs.Call.{refusal_of, left_of}
use Rattle.zones.specs.Stretches.{ZonesAndRings, zone_at, stretch_of}
use Rattle.zones.specs.Calls.{most_zones, add_all_call, add_one_call}
use Rattle.zones.specs.Sound.{AllSound, TakesItem}
use Rattle.zones.proofs.Promises.{others_stay, as_many, own_zone, each_zone, as_many_in_all, one_cases, all_cases, one_taken, all_taken, all_lent, some_bytes}
use Rattle.demands.specs.History.{Good, adding}
use Rattle.demands.specs.Demand2.{Demand2}
use Rattle.demands.specs.Demand3.{Demand3}
use Rattle.demands.specs.GoodZones.{GoodZones, with_counts, with_item}
use Rattle.demands.proofs.GoodUsable.{good_usable}
use Rattle.demands.proofs.Demand2.{demand_2}
use Rattle.demands.proofs.Demand3.{demand_3}

-- A GOOD ZONE, whatever the others are
module _ (lent : ZonesAndRings) (zone : ℕ) (items : List ℕ) (good : Good (zone_at lent.zones zone) (stretch_of lent zone) items) where
  -- stays good when all zones take their counts, with its own among its items …
  pub zone_with_count : zone < length lent.zones → (counts : List ℕ) → refusal_of (add_all_call lent.zones lent.rings counts) ≡ 0
      → Good (zone_at (left_of (add_all_call lent.zones lent.rings counts)).zones zone)
      (stretch_of (left_of (add_all_call lent.zones lent.rings counts)) zone) (get_or counts zone 0 ∷ items)
  zone_with_count there counts taken =
      let own = each_zone lent.zones lent.rings counts taken zone there in
      rw own.1 (rw own.2 (adding _ _ _ good (get_or counts zone 0) own.0))

  -- … when it takes an item alone …
  pub zone_with_item : (item : ℕ) → refusal_of (add_one_call lent.zones lent.rings zone item) ≡ 0
      → Good (zone_at (left_of (add_one_call lent.zones lent.rings zone item)).zones zone)
      (stretch_of (left_of (add_one_call lent.zones lent.rings zone item)) zone) (item ∷ items)
  zone_with_item item taken =
      let own = own_zone lent.zones lent.rings zone item taken in
      rw own.1 (rw own.2 (adding _ _ _ good item own.0))

  -- … and when another one is added to, refused or not, with the items that it had
  pub zone_beside : (own item : ℕ) → (zone ≡ own → ⊥)
      → Good (zone_at (left_of (add_one_call lent.zones lent.rings own item)).zones zone)
      (stretch_of (left_of (add_one_call lent.zones lent.rings own item)) zone) items
  zone_beside own item apart =
      let stay = others_stay lent.zones lent.rings own item zone apart in
      rw stay.0 (rw stay.1 good)

module _ (lent : ZonesAndRings) (items : ℕ → List ℕ) (good : GoodZones lent items) where
  -- EACH ZONE BY ITSELF: demand 2 …
  pub zone_demand_2 : (zone : ℕ) → zone < length lent.zones → Demand2 (zone_at lent.zones zone) (stretch_of lent zone) (items zone)
  zone_demand_2 zone there = demand_2 _ _ _ (good zone there)

  -- … and demand 3
  pub zone_demand_3 : (zone : ℕ) → zone < length lent.zones → (v : ℕ) → 0 < v
      → Demand3 (zone_at lent.zones zone) (stretch_of lent zone) (items zone) v
  zone_demand_3 zone there = demand_3 _ _ _ (good zone there)

  -- ALL ZONES: where the counts are taken, each zone has its own among its items
  pub all_keep_good : (counts : List ℕ) → refusal_of (add_all_call lent.zones lent.rings counts) ≡ 0
      → GoodZones (left_of (add_all_call lent.zones lent.rings counts)) (with_counts counts items)
  all_keep_good counts taken zone there =
      let there' : zone < length lent.zones = rw (as_many_in_all lent.zones lent.rings counts).0 at there in
      zone_with_count lent zone (items zone) (good zone there') there' counts taken

  -- ONE ZONE: where the item is taken, it is among the items of that zone, and every other zone is as good as it was
  pub one_keeps_good : (zone item : ℕ) → refusal_of (add_one_call lent.zones lent.rings zone item) ≡ 0
      → GoodZones (left_of (add_one_call lent.zones lent.rings zone item)) (with_item zone item items)
  one_keeps_good zone item taken other there =
      by (eqb other zone) refl
    where
      there' : other < length lent.zones
      there' = rw (as_many lent.zones lent.rings zone item).0 at there

      left : ZonesAndRings
      left = left_of (add_one_call lent.zones lent.rings zone item)

      by : (same : Bool) → eqb other zone ≡ same
          → Good (zone_at left.zones other) (stretch_of left other) (cond same (item ∷ items other) (items other))
      by true e =
          let same = eqb-true other zone e in
          rw same (zone_with_item lent zone (items zone) (good zone (omega (arith, same, there'))) item taken)
      by false e = zone_beside lent other (items other) (good other there') zone item (eqb-false other zone e)

  -- REFUSED: everything is as it was
  pub all_refused_good : (counts : List ℕ) → (refusal_of (add_all_call lent.zones lent.rings counts) ≡ 0 → ⊥)
      → GoodZones (left_of (add_all_call lent.zones lent.rings counts)) items
  all_refused_good counts refused =
      all_cases lent.zones lent.rings counts (λ left. GoodZones left items) (λ taken. absurd (refused taken)) good

  pub one_refused_good : (zone item : ℕ) → (refusal_of (add_one_call lent.zones lent.rings zone item) ≡ 0 → ⊥)
      → GoodZones (left_of (add_one_call lent.zones lent.rings zone item)) items
  one_refused_good zone item refused =
      one_cases lent.zones lent.rings zone item (λ left. GoodZones left items) (λ taken. absurd (refused taken)) good

  -- GOOD ZONES TAKE every count up to their own bounds while they are awake, where there are 1 to 96 of them: their stretches are lent whole
  module _ (some : 1 ≤ length lent.zones) (few : length lent.zones ≤ most_zones) where
    good_sound : AllSound lent.zones (length lent.rings)
    good_sound =
        let last : ℕ = length lent.zones - 1 in
        let usable = good_usable _ _ _ (good last (omega (arith, some))) in
        record {
          some = some;
          few = few;
          sound = λ zone there. (good_usable _ _ _ (good zone there)).sound;
          room = all_lent lent last (omega (arith, some)) (some_bytes (zone_at lent.zones last) usable.sound) usable.room;
        }

    pub good_take_all : (counts : List ℕ) → length counts ≡ length lent.zones
        → ((zone : ℕ) → zone < length lent.zones → TakesItem (zone_at lent.zones zone) (get_or counts zone 0))
        → refusal_of (add_all_call lent.zones lent.rings counts) ≡ 0
    good_take_all counts = all_taken lent.zones lent.rings counts good_sound

    pub good_takes_one : (zone item : ℕ) → zone < length lent.zones → TakesItem (zone_at lent.zones zone) item
        → refusal_of (add_one_call lent.zones lent.rings zone item) ≡ 0
    good_takes_one zone item = one_taken lent.zones lent.rings zone item good_sound
