-- The loop of `zones::adding::in_a_row`: so many counts are added, and the next stretch starts at `at`.
-- Assumes nothing.
use Rattle.std.proofs.Common.{◌≡◌, ◌+◌, take}
use Rattle.zones.specs.Stretches.{ZonesAndRings, stretch_start}
use Rattle.zones.specs.Adding.{added_from}
use Rattle.zones.proofs.adding.in_a_row.Given as goal

abbrev pub invariant-loop-place : goal.invariant-loop-place
invariant-loop-place l =
    let come : ZonesAndRings = added_from l.low (take l.place l.counts) (record { zones = l.fn.zones; rings = l.fn.rings }) in
    record {
      zones_are : l.zones ≡ come.zones;
      rings_are : l.rings ≡ come.rings;
      at_is : l.at ≡ stretch_start l.fn.zones (l.low + l.place);
    }
