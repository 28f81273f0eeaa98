-- When zones take what is added: exactly where there are 1 to 96 of them, all are books with their stretches lent whole, and each zone that has a
-- count is awake and its count is at most its L; and what the calls then give and leave.
-- Assumes nothing.
use Prim.Native.Nat.{ℕ, zero, suc, ◌+◌, ◌<◌}
use native.Mathlib.Nat.{add-zero, zero-add}
use native.Mathlib.Omega.{arith}
use mathlib.Core.Bool.{Bool, false, not}
use mathlib.Core.List.{List, [], ◌∷◌}
use mathlib.Core.Path.{◌≡◌, refl, sym, ap, ◌∙◌}
use borrow.Author.Tests.{le-ltb, leb-false, lt-leb, eqb-true, eq-eqb, not-false}
use lib.Dec.{leb, eqb}
use lib.ListN.{length, get_or, drop, length-drop}
use Rattle.refusals.specs.Numbers.{bad_zones}
use Rattle.refusals.specs.First.{Fault, ◌gives◌, is_refusal, first_of, outside}
use Rattle.refusals.specs.Call.{Call, refusal_of, result_of, left_of}
use Rattle.refusals.proofs.Laws.{first_passed, in_range, not_outside}
use Rattle.refusals.proofs.Calls.{none_refuses, result_taken, left_taken, left_refused}
use Rattle.book.specs.declared.Book.{Book}
use Rattle.zones.specs.Stretches.{ZonesAndRings, zone_at, all_bytes}
use Rattle.zones.specs.Adding.{added_zone, added_from}
use Rattle.zones.specs.Lowest.{record_refusals, taking_refusals}
use Rattle.zones.specs.Calls.{most_zones, how_many_fault, add_all_call, add_one_call}
use Rattle.zones.specs.InARow.{judged_faults}
use Rattle.zones.specs.Sound.{AllSound, TakesItem}
use Rattle.zones.proofs.AsInARow.{one_refusal}
use Rattle.zones.proofs.RefusalsByPlace.{lowest_of_none, records_many, record_at, takings_many, taking_from, record_passes, taking_passes, all_sound, EachTakes, each_takes, judged_passed}

-- WHAT A CALL LEAVES: what holds of it where it is taken, and of what was lent, holds of it
left_cases : {Result Lent : Type 0} (P : Lent → Type 0) (call : Call Result Lent) → (refusal_of call ≡ 0 → P call.left) → P call.lent
    → P (left_of call)
left_cases P call taken refused = by (refusal_of call) refl
  where
    by : (number : ℕ) → refusal_of call ≡ number → P (left_of call)
    by zero e = rw (left_taken call (sym e) refl) at (taken e)
    by (suc number) e = rw (left_refused call refl (λ none. omega (arith, e, none))) at refused

-- BOTH CALLS: 20 for the number of zones, 20 for a reason of the call's own, then 8, 4, 17 and 7.
module _ (zones : List Book) (rings : List ℕ) (own : Bool) (low : ℕ) (counts : List ℕ) where
  abbrev zones_faults : List Fault
  zones_faults = how_many_fault (length zones) ∷ (own gives bad_zones) ∷ judged_faults zones rings low counts

  -- what is known where nothing is refused
  zones_known : first_of zones_faults ≡ 0 → AllSound zones (length rings) × (own ≡ false) × EachTakes zones low counts
  zones_known e =
      let many = first_passed (outside 1 most_zones (length zones)) 19 ((own gives bad_zones) ∷ judged_faults zones rings low counts) e in
      let call = first_passed own 19 (judged_faults zones rings low counts) many.1 in
      let passed = judged_passed zones rings low counts call.1 in
      let range = in_range 1 most_zones (length zones) many.0 in (
        record { some = range.0; few = range.1; sound = all_sound zones passed.0; room = passed.1 },
        call.0,
        each_takes zones low counts passed.2,
      )

  -- and nothing is refused where that is so
  zones_taken : AllSound zones (length rings) → own ≡ false → EachTakes zones low counts → first_of zones_faults ≡ 0
  zones_taken all passed each =
      none_refuses zones_faults (
        not_outside 1 most_zones (length zones) all.some all.few,
        (
          passed,
          (
            ap is_refusal (lowest_of_none (record_refusals zones) (λ zone there. books zone (rw (records_many zones) at there))),
            (
              le-ltb (length rings) (all_bytes zones) all.room,
              (ap is_refusal (lowest_of_none (taking_refusals (drop low zones) counts) takings), tt),
            ),
          ),
        ),
      )
    where
      books : (zone : ℕ) → zone < length zones → get_or (record_refusals zones) zone 0 ≡ 0
      books zone there = record_at zones zone there ∙ record_passes (zone_at zones zone) (all.sound zone there)

      takings : (place : ℕ) → place < length (taking_refusals (drop low zones) counts) → get_or (taking_refusals (drop low zones) counts) place 0 ≡ 0
      takings place there =
          let both = takings_many (drop low zones) counts place there in
          let within : low + place < length zones = (let h = rw (length-drop low zones) at both.0 in omega (arith, h)) in
          taking_from zones low counts place within both.1
          ∙ taking_passes (zone_at zones (low + place)) (get_or counts place 0) (each place both.1 within)

-- ADDING TO ONE ZONE is taken exactly where the zones are sound, the zone is one of them, and it takes the item
module _ (zones : List Book) (rings : List ℕ) (zone item : ℕ) where
  pub one_known : refusal_of (add_one_call zones rings zone item) ≡ 0
      → AllSound zones (length rings) × (zone < length zones) × TakesItem (zone_at zones zone) item
  one_known e =
      let known = zones_known zones rings (leb (length zones) zone) zone (item ∷ []) (one_refusal zones rings zone item ∙ e) in
      let there = leb-false (length zones) zone known.1 in
      (known.0, there, rw (add-zero zone) at (known.2 0 (omega arith) (omega (arith, there))))

  pub one_taken : AllSound zones (length rings) → zone < length zones → TakesItem (zone_at zones zone) item
      → refusal_of (add_one_call zones rings zone item) ≡ 0
  one_taken all there takes =
      sym (one_refusal zones rings zone item)
      ∙ zones_taken zones rings (leb (length zones) zone) zone (item ∷ []) all (lt-leb (length zones) zone there) only
    where
      only : EachTakes zones zone (item ∷ [])
      only zero here within = rw (add-zero zone) takes
      only (suc place) here within = absurd (omega arith)

  -- it then gives no refusal, and leaves that zone with the item
  pub one_gives : refusal_of (add_one_call zones rings zone item) ≡ 0
      → (result_of (add_one_call zones rings zone item) ≡ record { refusal = 0; zone = 0 })
      × (left_of (add_one_call zones rings zone item) ≡ added_zone (record { zones = zones; rings = rings }) zone item)
  unfolding add_one_call
  one_gives e =
      let call = add_one_call zones rings zone item in
      (sym (result_taken call (sym e) refl), sym (left_taken call (sym e) refl))

  -- what holds of that and of what was lent holds of what the call leaves, refused or not
  pub one_cases : (P : ZonesAndRings → Type 0)
      → (refusal_of (add_one_call zones rings zone item) ≡ 0 → P (added_zone (record { zones = zones; rings = rings }) zone item))
      → P (record { zones = zones; rings = rings }) → P (left_of (add_one_call zones rings zone item))
  unfolding add_one_call
  one_cases P taken refused = left_cases P (add_one_call zones rings zone item) taken refused

-- ADDING TO ALL exactly where the zones are sound, there are as many counts, and every zone takes its own
module _ (zones : List Book) (rings counts : List ℕ) where
  pub all_known : refusal_of (add_all_call zones rings counts) ≡ 0
      → AllSound zones (length rings) × (length counts ≡ length zones)
      × ((zone : ℕ) → zone < length zones → TakesItem (zone_at zones zone) (get_or counts zone 0))
  unfolding add_all_call
  all_known e =
      let known = zones_known zones rings (not (eqb (length counts) (length zones))) 0 counts e in
      let many = eqb-true (length counts) (length zones) (not-false (eqb (length counts) (length zones)) known.1) in
      (known.0, many, λ zone there. rw (zero-add zone) at (known.2 zone (omega (arith, many, there)) (omega (arith, there))))

  pub all_taken : AllSound zones (length rings) → length counts ≡ length zones
      → ((zone : ℕ) → zone < length zones → TakesItem (zone_at zones zone) (get_or counts zone 0))
      → refusal_of (add_all_call zones rings counts) ≡ 0
  unfolding add_all_call
  all_taken all many takes =
      zones_taken zones rings (not (eqb (length counts) (length zones))) 0 counts all
      (ap not (eq-eqb (length counts) (length zones) many))
      (λ place here there. rw (zero-add place) (takes place (omega (arith, there))))

  -- it then gives no refusal, and leaves every zone with its count
  pub all_gives : refusal_of (add_all_call zones rings counts) ≡ 0
      → (result_of (add_all_call zones rings counts) ≡ record { refusal = 0; zone = 0 })
      × (left_of (add_all_call zones rings counts) ≡ added_from 0 counts (record { zones = zones; rings = rings }))
  unfolding add_all_call
  all_gives e =
      let call = add_all_call zones rings counts in
      (sym (result_taken call (sym e) refl), sym (left_taken call (sym e) refl))

  -- what holds of what it leaves where it is taken, and of what was lent, holds of what it leaves, refused or not
  pub all_cases : (P : ZonesAndRings → Type 0)
      → (refusal_of (add_all_call zones rings counts) ≡ 0 → P (left_of (add_all_call zones rings counts)))
      → P (record { zones = zones; rings = rings }) → P (left_of (add_all_call zones rings counts))
  unfolding add_all_call
  all_cases P taken refused =
      left_cases P (add_all_call zones rings counts) (λ e. rw (left_taken (add_all_call zones rings counts) (sym e) refl) (taken e)) refused
