-- Adding to one zone touches that zone alone: of every other one the record and the stretch are as they were, and so is all that lies behind the
-- stretches, refused or not; and to its own zone a call that is taken does what the book's own call does.
-- Assumes nothing.
use Prim.Native.Nat.{ℕ, ◌<◌}
use native.Mathlib.Omega.{arith}
use mathlib.Core.List.{List}
use mathlib.Core.Path.{◌≡◌, refl, sym, ap, ◌∙◌}
use lib.ListN.{length, drop}
use Rattle.refusals.specs.Call.{refusal_of, left_of}
use Rattle.book.specs.declared.Book.{Book}
use Rattle.book.specs.declared.told.Updated.{Updated}
use Rattle.book.specs.Sound.{Usable}
use Rattle.book.specs.Adding.{added, added_ring}
use Rattle.book.proofs.Promises.{add_taken, add_gives}
use Rattle.zones.specs.Stretches.{ZonesAndRings, zone_at, stretch_start, all_bytes, stretch_of}
use Rattle.zones.specs.Adding.{added_zone}
use Rattle.zones.specs.Calls.{add_one_call}
use Rattle.zones.specs.Sound.{AllSound, TakesItem}
use Rattle.zones.specs.AnyOrder.{ByItsBook}
use Rattle.zones.proofs.OneZone.{stretch_length, zones_stay, start_stays, own_record, other_record, rings_stay, own_stretch, each_other_stretch, behind_stays}
use Rattle.zones.proofs.WhenTaken.{one_known, one_gives, one_cases}

-- A SOUND ZONE is a book with its ring, and its book takes what it takes: what that comes to is what the book's own call gives and leaves
module _ (lent : ZonesAndRings) (all : AllSound lent.zones (length lent.rings)) (zone : ℕ) (there : zone < length lent.zones) where
  pub zone_usable : Usable (zone_at lent.zones zone) (length (stretch_of lent zone))
  zone_usable =
      record { sound = all.sound zone there; room = (let long = stretch_length lent all.room zone there in omega (arith, long)) }

  pub by_its_book : (after : ZonesAndRings) (item : ℕ) → TakesItem (zone_at lent.zones zone) item
      → zone_at after.zones zone ≡ added (zone_at lent.zones zone) item
      → stretch_of after zone ≡ added_ring (zone_at lent.zones zone) (stretch_of lent zone) item → ByItsBook lent after zone item
  by_its_book after item takes book ring =
      let taken = add_taken (zone_at lent.zones zone) (stretch_of lent zone) item zone_usable takes.small takes.up in
      let gives = add_gives (zone_at lent.zones zone) (stretch_of lent zone) item taken in
      (taken, book ∙ sym (ap (λ (updated : Updated). updated.book) gives.0), ring ∙ sym gives.1)

-- ONE ZONE. For every input, refused or not
module _ (zones : List Book) (rings : List ℕ) (zone item : ℕ) where
  abbrev lent : ZonesAndRings
  lent = record { zones = zones; rings = rings }

  -- every other zone has the record and the stretch that it had
  pub others_stay : (other : ℕ) → (other ≡ zone → ⊥)
      → (zone_at (left_of (add_one_call zones rings zone item)).zones other ≡ zone_at zones other)
      × (stretch_of (left_of (add_one_call zones rings zone item)) other ≡ stretch_of (record { zones = zones; rings = rings }) other)
  others_stay other apart =
      one_cases zones rings zone item (λ left. (zone_at left.zones other ≡ zone_at zones other) × (stretch_of left other ≡ stretch_of lent other))
      (λ e. (let known = one_known zones rings zone item e in (
        other_record lent zone item other apart,
        each_other_stretch lent zone item known.1 (known.0.sound zone known.1) known.2.small known.0.room other apart,
      )))
      (refl, refl)

  -- there are as many records and ring bytes as there were
  pub as_many : (length (left_of (add_one_call zones rings zone item)).zones ≡ length zones)
      × (length (left_of (add_one_call zones rings zone item)).rings ≡ length rings)
  as_many =
      one_cases zones rings zone item (λ left. (length left.zones ≡ length zones) × (length left.rings ≡ length rings))
      (λ e. (let known = one_known zones rings zone item e in (
        zones_stay lent zone item,
        rings_stay lent zone item known.1 (known.0.sound zone known.1) known.2.small known.0.room,
      )))
      (refl, refl)

  -- every stretch starts where it did
  pub starts_stay : (k : ℕ) → stretch_start (left_of (add_one_call zones rings zone item)).zones k ≡ stretch_start zones k
  starts_stay k =
      one_cases zones rings zone item (λ left. stretch_start left.zones k ≡ stretch_start zones k) (λ e. start_stays lent zone item k) refl

  -- and all that lies behind the stretches is as it was
  pub rest_stays : drop (all_bytes zones) (left_of (add_one_call zones rings zone item)).rings ≡ drop (all_bytes zones) rings
  rest_stays =
      one_cases zones rings zone item (λ left. drop (all_bytes zones) left.rings ≡ drop (all_bytes zones) rings)
      (λ e. (let known = one_known zones rings zone item e in
      behind_stays lent zone item known.1 (known.0.sound zone known.1) known.2.small known.0.room))
      refl

  -- where it is taken, its own zone is what the book's own call makes of it
  pub own_zone : refusal_of (add_one_call zones rings zone item) ≡ 0
      → ByItsBook (record { zones = zones; rings = rings }) (left_of (add_one_call zones rings zone item)) zone item
  own_zone e =
      let known = one_known zones rings zone item e in
      rw (one_gives zones rings zone item e).1
      (by_its_book lent known.0 zone known.1 (added_zone lent zone item) item known.2
      (own_record lent zone item known.1)
      (own_stretch lent zone item known.1 (known.0.sound zone known.1) known.2.small known.0.room))
