-- Adding to all zones is adding each its own count by a call for that zone alone, one after the other, in any order; and zones that take their
-- counts so take them all at once.
-- Assumes nothing.
use Prim.Native.Nat.{ℕ, ◌≤◌, ◌<◌}
use native.Mathlib.Omega.{arith}
use mathlib.Core.List.{List, [], ◌∷◌}
use mathlib.Core.Logic.{⊎_elim}
use mathlib.Core.Path.{◌≡◌, sym, ◌∙◌}
use lib.ListN.{length, get_or}
use Rattle.refusals.specs.Call.{refusal_of, left_of}
use Rattle.book.specs.declared.Book.{Book}
use Rattle.zones.specs.Stretches.{ZonesAndRings, zone_at}
use Rattle.zones.specs.Calls.{add_all_call, add_one_call}
use Rattle.zones.specs.Sound.{AllSound, TakesItem}
use Rattle.zones.specs.AnyOrder.{occurrences, EachOnce, InOrder}
use Rattle.zones.proofs.WhenTaken.{one_known, all_taken}
use Rattle.zones.proofs.OneZoneAlone.{others_stay}
use Rattle.zones.proofs.HowOften.{not_in_none, as_often, same_or_other, in_turn, stands_once, is_below, each_in_turn}
use Rattle.zones.proofs.AddedInOrder.{added_in, order_reaches, order_taken, same_end}
use Rattle.zones.proofs.EachZone.{all_take, all_in_turn}

-- THERE: where all zones take their counts at once, they take them one after the other, in any order, and that leaves the same
pub in_any_order : (zones : List Book) (rings counts : List ℕ) → refusal_of (add_all_call zones rings counts) ≡ 0
    → (order : List ℕ) → EachOnce (length zones) order
    → InOrder order counts (record { zones = zones; rings = rings }) (left_of (add_all_call zones rings counts))
in_any_order zones rings counts taken order each =
    let lent : ZonesAndRings = record { zones = zones; rings = rings } in
    let n = length zones in
    let can = all_take zones rings counts taken in
    let below = is_below n order each in
    let same : added_in order counts lent ≡ left_of (add_all_call zones rings counts) =
    same_end order (in_turn 0 n) counts lent (added_in order counts lent) (left_of (add_all_call zones rings counts))
    (λ zone. each zone ∙ sym (each_in_turn n zone)) (order_reaches order counts lent can below) (all_in_turn zones rings counts taken) in
    rw same at (order_taken order counts lent can below)

-- WHAT AN ORDER TELLS. Every zone in it takes its count, as it was lent …
order_takes : (order counts : List ℕ) (lent after : ZonesAndRings) → InOrder order counts lent after
    → (zone : ℕ) → 0 < occurrences zone order → TakesItem (zone_at lent.zones zone) (get_or counts zone 0)
order_takes [] counts lent after went zone stands = absurd (let none = not_in_none zone in omega (arith, none, stands))
order_takes (first ∷ order) counts lent after went zone stands =
    ⊎_elim (λ e. rw e (one_known lent.zones lent.rings first (get_or counts first 0) went.0).2)
    (λ apart. rw (others_stay lent.zones lent.rings first (get_or counts first 0) zone apart).0 at
    (order_takes order counts (left_of (add_one_call lent.zones lent.rings first (get_or counts first 0))) after went.1 zone
    (let same = as_often zone first order apart in omega (arith, same, stands))))
    (same_or_other zone first)

-- … the zones are sound, if it has one …
order_sound : (order counts : List ℕ) (lent after : ZonesAndRings) → InOrder order counts lent after
    → (zone : ℕ) → 0 < occurrences zone order → AllSound lent.zones (length lent.rings)
order_sound [] counts lent after went zone stands = absurd (let none = not_in_none zone in omega (arith, none, stands))
order_sound (first ∷ order) counts lent after went zone stands =
    (one_known lent.zones lent.rings first (get_or counts first 0) went.0).0

-- … and it has one end alone
pub one_end : (order counts : List ℕ) (lent after after' : ZonesAndRings) → InOrder order counts lent after → InOrder order counts lent after'
    → after ≡ after'
one_end [] counts lent after after' went went' = sym went ∙ went'
one_end (zone ∷ order) counts lent after after' went went' = one_end order counts _ after after' went.1 went'.1

-- AND BACK: where they take them one after the other, in some order, they take them all at once, and that leaves the same
pub any_order_back : (zones : List Book) (rings counts order : List ℕ) (after : ZonesAndRings) → 1 ≤ length zones → length counts ≡ length zones
    → EachOnce (length zones) order → InOrder order counts (record { zones = zones; rings = rings }) after
    → (refusal_of (add_all_call zones rings counts) ≡ 0) × (left_of (add_all_call zones rings counts) ≡ after)
any_order_back zones rings counts order after some many each went =
    let lent : ZonesAndRings = record { zones = zones; rings = rings } in
    let stands : (zone : ℕ) → zone < length zones → 0 < occurrences zone order =
    λ zone there. (let once = stands_once (length zones) order each zone there in omega (arith, once)) in
    let taken = all_taken zones rings counts (order_sound order counts lent after went 0 (stands 0 some)) many
    (λ zone there. order_takes order counts lent after went zone (stands zone there)) in
    (taken, one_end order counts lent (left_of (add_all_call zones rings counts)) after (in_any_order zones rings counts taken order each) went)
