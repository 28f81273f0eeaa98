-- Zones with their ring bytes are the same where each zone has the same record and the same stretch, and the same bytes lie behind the stretches.
-- Assumes nothing.
use Prim.Native.Nat.{ℕ, zero, suc, ◌≤◌, ◌<◌}
use native.Mathlib.Omega.{arith}
use mathlib.Core.List.{List, ◌++◌}
use mathlib.Core.Path.{◌≡◌, refl, sym, ap, ◌∙◌}
use lib.ListN.{length, take, drop, take-append-drop}
use lib.Seq.{take-add, ext_get_or}
use Rattle.book.specs.declared.Book.{Book}
use Rattle.book.specs.Record.{bytes_of, no_book_at_all}
use Rattle.zones.specs.Stretches.{ZonesAndRings, zone_at, stretch_start, all_bytes, stretch_of}
use Rattle.zones.proofs.StartsInOrder.{start_first, start_next}

-- the bytes up to the next stretch are those up to this one, and this one
up_to_next : (zones : List Book) (rings : List ℕ) (zone : ℕ) → zone < length zones
    → take (stretch_start zones (suc zone)) rings ≡ take (stretch_start zones zone) rings ++ stretch_of (record { zones = zones; rings = rings }) zone
unfolding stretch_of
up_to_next zones rings zone there =
    ap (λ (n : ℕ). take n rings) (start_next zones zone there) ∙ take-add (stretch_start zones zone) (bytes_of (zone_at zones zone)) rings

-- so bytes whose stretches are the same are the same up to any stretch …
module _ (zones : List Book) (rings rings' : List ℕ)
    (same : (zone : ℕ) → stretch_of (record { zones = zones; rings = rings }) zone ≡ stretch_of (record { zones = zones; rings = rings' }) zone) where
  same_up_to : (zone : ℕ) → zone ≤ length zones → take (stretch_start zones zone) rings ≡ take (stretch_start zones zone) rings'
  same_up_to zero there = rw (start_first zones) refl
  same_up_to (suc zone) there =
      up_to_next zones rings zone there
      ∙ (λ i. same_up_to zone (omega (arith, there)) i ++ same zone i)
      ∙ sym (up_to_next zones rings' zone there)

  -- … and all of them, with those behind
  same_bytes : drop (all_bytes zones) rings ≡ drop (all_bytes zones) rings' → rings ≡ rings'
  same_bytes behind =
      sym (take-append-drop (all_bytes zones) rings)
      ∙ (λ i. same_up_to (length zones) (omega arith) i ++ behind i)
      ∙ take-append-drop (all_bytes zones) rings'

-- THE SAME ZONES, with the same bytes
pub same_zones : (lent lent' : ZonesAndRings) → length lent.zones ≡ length lent'.zones
    → ((zone : ℕ) → zone_at lent.zones zone ≡ zone_at lent'.zones zone) → ((zone : ℕ) → stretch_of lent zone ≡ stretch_of lent' zone)
    → drop (all_bytes lent.zones) lent.rings ≡ drop (all_bytes lent.zones) lent'.rings → lent ≡ lent'
same_zones lent lent' many records stretches behind =
    let zones = ext_get_or no_book_at_all lent.zones lent'.zones many (λ zone there. records zone) in
    let rings = same_bytes lent.zones lent.rings lent'.rings
    (λ zone. stretches zone ∙ sym (ap (λ (l : List Book). stretch_of (record { zones = l; rings = lent'.rings }) zone) zones)) behind in
    λ i. record { zones = zones i; rings = rings i }
