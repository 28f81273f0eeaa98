-- Adding count by count to zones in a row that are judged: each finds its zone as it was lent, and one count more is added.
-- Assumes nothing.
use Prim.Native.Nat.{ℕ, suc, ◌+◌, ◌≤◌, ◌<◌}
use native.Mathlib.Nat.{add-suc, le_refl}
use native.Mathlib.Omega.{arith}
use mathlib.Core.List.{List}
use mathlib.Core.Path.{◌≡◌, sym, ap, ◌∙◌}
use lib.ListN.{length, get_or, take, drop}
use Rattle.refusals.specs.Call.{refusal_of}
use Rattle.book.specs.declared.Book.{Book}
use Rattle.book.specs.Sound.{Sound}
use Rattle.zones.specs.Stretches.{ZonesAndRings, zone_at, stretch_start, all_bytes}
use Rattle.zones.specs.Adding.{added_zone, added_from}
use Rattle.zones.specs.Lowest.{record_refusals, taking_refusals, refusal_of_lowest}
use Rattle.zones.specs.Calls.{most_zones}
use Rattle.zones.specs.Sound.{TakesItem}
use Rattle.zones.specs.InARow.{row_call, AddsNext}
use Rattle.zones.proofs.RefusalsByPlace.{all_sound, each_takes, judged_passed}
use Rattle.zones.proofs.BytesOfABook.{start_small}
use Rattle.zones.proofs.ZoneByZone.{ToCome, from_next, room_as_before, rest_to_come}

module _ (zones : List Book) (rings : List ℕ) (low : ℕ) (counts : List ℕ) (within : low + length counts ≤ length zones)
    (few : length zones ≤ most_zones) (taken : refusal_of (row_call zones rings low counts) ≡ 0) where
  -- the zones and rings with the first j counts
  abbrev with_first : ℕ → ZonesAndRings
  with_first j = added_from low (take j counts) (record { zones = zones; rings = rings })

  passed : (refusal_of_lowest (record_refusals zones) ≡ 0) × (all_bytes zones ≤ length rings)
      × (refusal_of_lowest (taking_refusals (drop low zones) counts) ≡ 0)
  unfolding row_call
  passed = judged_passed zones rings low counts taken

  -- every record is a book
  sound : (k : ℕ) → k < length zones → Sound (zone_at zones k)
  sound = all_sound zones passed.0

  -- every zone takes its count
  take_it : (k : ℕ) → k < length counts → TakesItem (zone_at zones (low + k)) (get_or counts k 0)
  take_it k here = each_takes zones low counts passed.2 k here (omega arith)

  module _ (j : ℕ) (here : j < length counts) where
    -- the zones still to come are as they were
    to_come : ToCome (record { zones = zones; rings = rings }) (low + j) (with_first j)
    to_come =
        rest_to_come low counts (record { zones = zones; rings = rings }) within passed.1
        (λ k counted. sound (low + k) (omega arith)) (λ k counted. (take_it k counted).small) j (omega arith)

    -- so the next zone takes its count
    pub next_takes : AddsNext (with_first j).zones (with_first j).rings (low + j) (stretch_start zones (low + j)) (get_or counts j 0)
    next_takes =
        let own : zone_at (with_first j).zones (low + j) ≡ zone_at zones (low + j) = to_come.records (low + j) (le_refl (low + j)) in
        record {
          there = omega (arith, to_come.as_many);
          sound = rw own (sound (low + j) (omega arith));
          takes = rw own (take_it j here);
          at_start = sym (to_come.starts (low + j));
          at_small = omega (arith, start_small zones sound (low + j));
          room = room_as_before to_come passed.1;
        }

    -- and with it one count more is added
    pub one_more : added_zone (with_first j) (low + j) (get_or counts j 0) ≡ with_first (suc j)
    one_more = sym (from_next low counts (record { zones = zones; rings = rings }) j here)

    -- and the stretch after it starts where it did
    pub next_start : stretch_start (with_first j).zones (suc (low + j)) ≡ stretch_start zones (low + suc j)
    next_start = to_come.starts (suc (low + j)) ∙ ap (λ (k : ℕ). stretch_start zones k) (sym (add-suc low j))
