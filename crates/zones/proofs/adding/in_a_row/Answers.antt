-- `zones::adding::in_a_row`: each turn adds one count more.
-- Assumes nothing.
use Rattle.std.proofs.Common.{◌≡◌, ℕ, suc, ◌+◌, List, take, get_or, sym, ap, ◌∙◌, add-one}
use native.Mathlib.Nat.{add-zero}
use Rattle.book.specs.declared.Book.{Book}
use Rattle.zones.specs.Stretches.{ZonesAndRings, stretch_start}
use Rattle.zones.specs.Adding.{added_zone, added_from}
use Rattle.zones.specs.InARow.{AddsNext}
use Rattle.zones.proofs.ZoneByZone.{from_none}
use Rattle.zones.proofs.AddedSoFar.{next_takes, one_more, next_start}
use Rattle.zones.proofs.adding.in_a_row.Goals as goal

pub loop-place-init : goal.loop-place-init
loop-place-init c =
    let none = sym (from_none c.args.low (record { zones = c.args.zones.now; rings = c.args.rings.now })) in
    record {
      zones_are = ap (λ (come : ZonesAndRings). come.zones) none;
      rings_are = ap (λ (come : ZonesAndRings). come.rings) none;
      at_is = c.requires.2 ∙ ap (stretch_start c.args.zones.now) (sym (add-zero c.args.low));
    }

-- a zone that takes its count next, seen through where the turn stands
there : {zones zones' : List Book} {rings rings' : List ℕ} {start start' : ℕ} (zone count : ℕ) → zones ≡ zones' → rings ≡ rings' → start ≡ start'
    → AddsNext zones' rings' zone start' count → AddsNext zones rings zone start count
there zone count zones_are rings_are start_is next = rw (zones_are, rings_are, start_is) next

pub one-at-requires : goal.one-at-requires
one-at-requires c =
    let come = c.loop-place.invariant in
    there (c.args.low + c.loop-place.place) (get_or c.args.counts.now c.loop-place.place 0) come.zones_are come.rings_are come.at_is
    (next_takes c.args.zones.now c.args.rings.now c.args.low c.args.counts.now c.requires.0 c.requires.1 c.requires.3 c.loop-place.place
    c.loop-place-test.true)

pub loop-place-preserved : goal.loop-place-preserved
loop-place-preserved c =
    let come = c.loop-place.invariant in
    let place = c.loop-place.place in
    let zones = c.args.zones.now in
    let rings = c.args.rings.now in
    let low = c.args.low in
    let counts = c.args.counts.now in
    let lent : ZonesAndRings = record { zones = zones; rings = rings } in
    let more : added_zone (record { zones = c.loop-place.zones; rings = c.loop-place.rings }) (low + place) (get_or counts place 0)
    ≡ added_from low (take (place + 1) counts) lent =
    (λ i. added_zone (record { zones = come.zones_are i; rings = come.rings_are i }) (low + place) (get_or counts place 0))
    ∙ one_more zones rings low counts c.requires.0 c.requires.1 c.requires.3 place c.loop-place-test.true
    ∙ ap (λ (n : ℕ). added_from low (take n counts) lent) (sym (add-one place)) in
    record {
      zones_are = c.one-at.ensures.1 ∙ ap (λ (come : ZonesAndRings). come.zones) more;
      rings_are = c.one-at.ensures.2 ∙ ap (λ (come : ZonesAndRings). come.rings) more;
      at_is =
          c.one-at.ensures.0 ∙ ap (λ (l : List Book). stretch_start l (suc (low + place))) come.zones_are
          ∙ next_start zones rings low counts c.requires.0 c.requires.1 c.requires.3 place c.loop-place-test.true
          ∙ ap (λ (n : ℕ). stretch_start zones (low + n)) (sym (add-one place));
    }
