-- Adding to all zones does to each of them what the book's own call does with its record, its stretch and its count.
-- Assumes nothing.
use Prim.Native.Nat.{ℕ, ◌<◌}
use native.Mathlib.Nat.{zero-add}
use mathlib.Core.List.{List}
use mathlib.Core.Path.{◌≡◌, refl, sym, ap, ◌∙◌}
use lib.ListN.{length, get_or, drop}
use Rattle.refusals.specs.Call.{refusal_of, left_of}
use Rattle.book.specs.declared.Book.{Book}
use Rattle.zones.specs.Stretches.{ZonesAndRings, all_bytes}
use Rattle.zones.specs.Calls.{add_all_call}
use Rattle.zones.specs.AnyOrder.{ByItsBook}
use Rattle.zones.proofs.WhenTaken.{all_known, all_gives, all_cases}
use Rattle.zones.proofs.OneZoneAlone.{by_its_book}
use Rattle.zones.proofs.HowOften.{in_turn, stands_once, is_below, each_in_turn}
use Rattle.zones.proofs.AddedInOrder.{AllTake, Reached, zone_of, added_times, added_in, order_reaches, added_in_turn}

module _ (zones : List Book) (rings counts : List ℕ) (taken : refusal_of (add_all_call zones rings counts) ≡ 0) where
  -- all zones take their counts
  pub all_take : AllTake counts (record { zones = zones; rings = rings })
  all_take = (let known = all_known zones rings counts taken in record { all = known.0; takes = known.2 })

  -- and what the call leaves comes of the zones in turn
  pub all_in_turn : Reached (in_turn 0 (length zones)) counts (record { zones = zones; rings = rings }) (left_of (add_all_call zones rings counts))
  all_in_turn =
      let lent : ZonesAndRings = record { zones = zones; rings = rings } in
      let n = length zones in
      let left : left_of (add_all_call zones rings counts) ≡ added_in (in_turn 0 n) counts lent =
      (all_gives zones rings counts taken).1
      ∙ added_in_turn counts 0 counts lent (λ place. ap (λ (k : ℕ). get_or counts k 0) (sym (zero-add place)))
      ∙ ap (λ (many : ℕ). added_in (in_turn 0 many) counts lent) (all_known zones rings counts taken).1 in
      rw left (order_reaches (in_turn 0 n) counts lent all_take (is_below n (in_turn 0 n) (each_in_turn n)))

  -- EACH ZONE is what its book's own call makes of it
  pub each_zone : (zone : ℕ) → zone < length zones
      → ByItsBook (record { zones = zones; rings = rings }) (left_of (add_all_call zones rings counts)) zone (get_or counts zone 0)
  each_zone zone there =
      let lent : ZonesAndRings = record { zones = zones; rings = rings } in
      let n = length zones in
      let once = all_in_turn.each zone
      ∙ ap (λ (times : ℕ). added_times times (get_or counts zone 0) (zone_of lent zone)) (stands_once n (in_turn 0 n) (each_in_turn n) zone there) in
      by_its_book lent all_take.all zone there (left_of (add_all_call zones rings counts)) (get_or counts zone 0) (all_take.takes zone there)
      (ap (λ (own : Book × List ℕ). own.0) once) (ap (λ (own : Book × List ℕ). own.1) once)

-- FOR EVERY INPUT, refused or not
module _ (zones : List Book) (rings counts : List ℕ) where
  -- there are as many records and ring bytes as there were
  pub as_many_in_all : (length (left_of (add_all_call zones rings counts)).zones ≡ length zones)
      × (length (left_of (add_all_call zones rings counts)).rings ≡ length rings)
  as_many_in_all =
      all_cases zones rings counts (λ left. (length left.zones ≡ length zones) × (length left.rings ≡ length rings))
      (λ taken. ((all_in_turn zones rings counts taken).many, (all_in_turn zones rings counts taken).long)) (refl, refl)

  -- and all that lies behind the stretches is as it was
  pub rest_stays_in_all : drop (all_bytes zones) (left_of (add_all_call zones rings counts)).rings ≡ drop (all_bytes zones) rings
  rest_stays_in_all =
      all_cases zones rings counts (λ left. drop (all_bytes zones) left.rings ≡ drop (all_bytes zones) rings)
      (λ taken. (all_in_turn zones rings counts taken).behind) refl
