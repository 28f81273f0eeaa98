-- The book's own call on the stretch of a zone that can take its count is adding to that zone.
-- Assumes nothing.
use Prim.Native.Nat.{ℕ, suc, ◌+◌, ◌-◌, ◌≤◌}
use native.Mathlib.Omega.{arith}
use mathlib.Core.List.{List}
use mathlib.Core.Path.{◌≡◌, refl, ap, ◌∙◌}
use borrow.Rule.Slice.PartMut.{put_mid}
use lib.ListN.{length, take, drop, set}
use Rattle.std.proofs.Common.{Result, Ok, Err}
use Rattle.std.specs.Result.{result_unwrap_or}
use Rattle.refusals.specs.declared.Refusal.{Refusal}
use Rattle.refusals.specs.Call.{refusal_of, result_of, left_of}
use Rattle.book.specs.declared.Book.{Book}
use Rattle.book.specs.declared.told.Updated.{Updated}
use Rattle.book.specs.Record.{bytes_of}
use Rattle.book.specs.Sound.{Usable}
use Rattle.book.specs.Adding.{added_ring}
use Rattle.book.specs.Calls.{add_call}
use Rattle.book.specs.Told.{as_updated}
use Rattle.book.proofs.Promises.{add_taken, add_gives}
use Rattle.zones.specs.Stretches.{ZonesAndRings, zone_at, stretch_start, stretch_of, with_stretch}
use Rattle.zones.specs.Adding.{added_zone}
use Rattle.zones.specs.InARow.{AddsNext}
use Rattle.zones.proofs.StartsInOrder.{start_next, end_within}
use Rattle.zones.proofs.AddedInPlace.{added_length}
use Rattle.zones.proofs.OneZone.{stretch_length}
use Rattle.zones.proofs.StretchPutBack.{span_is, put_back}

-- what the code goes on with is the record that is told
record_told : (book : Book) (answer : Result Book Refusal) → result_unwrap_or answer book ≡ (as_updated book answer).book
record_told book (Ok new) = refl
record_told book (Err refusal) = refl

module _ (zones : List Book) (rings : List ℕ) (zone start count : ℕ) (next : AddsNext zones rings zone start count) where
  -- what is lent, the zone's record, and its stretch
  abbrev lent : ZonesAndRings
  lent = record { zones = zones; rings = rings }

  abbrev own : Book
  own = zone_at zones zone

  abbrev stretch : List ℕ
  stretch = stretch_of lent zone

  long : length stretch ≡ bytes_of own
  long = stretch_length lent next.room zone next.there

  usable : Usable own (length stretch)
  usable = record { sound = next.sound; room = omega (arith, long) }

  -- the book takes the count
  not_refused : refusal_of (add_call own stretch count) ≡ 0
  not_refused = add_taken own stretch count usable next.takes.small next.takes.up

  -- the zone's stretch ends within the slice, and there the next one starts
  pub end_there : start + bytes_of own ≤ length rings
  end_there = omega (arith, next.at_start, end_within zones zone next.there, next.room)

  pub next_start : start + bytes_of own ≡ stretch_start zones (suc zone)
  next_start = omega (arith, next.at_start, start_next zones zone next.there)

  -- the bytes that are lent to the book are its stretch
  stretch_lent : take (start + bytes_of own - start) (drop start rings) ≡ stretch
  unfolding stretch_of
  stretch_lent = λ i. take (span_is start (bytes_of own) i) (drop (next.at_start i) rings)

  module _ (answer : Result Book Refusal) (left : List ℕ)
      (told : as_updated own answer ≡ result_of (add_call own (take (start + bytes_of own - start) (drop start rings)) count))
      (leaves : left ≡ left_of (add_call own (take (start + bytes_of own - start) (drop start rings)) count)) where
    -- its record, put in the place of the old one
    pub zones_added : set zones zone (result_unwrap_or answer own) ≡ (added_zone lent zone count).zones
    unfolding added_zone
    zones_added =
        ap (λ (book : Book). set zones zone book)
        (record_told own answer
        ∙ ap (λ (updated : Updated). updated.book)
        (told ∙ ap (λ (ring : List ℕ). result_of (add_call own ring count)) stretch_lent ∙ (add_gives own stretch count not_refused).0))

    left_is : left ≡ added_ring own stretch count
    left_is = leaves ∙ ap (λ (ring : List ℕ). left_of (add_call own ring count)) stretch_lent ∙ (add_gives own stretch count not_refused).1

    -- and its stretch, put back
    pub rings_added : put_mid start (start + bytes_of own - start) rings left ≡ (added_zone lent zone count).rings
    unfolding added_zone
    rings_added =
        put_back start (bytes_of own) rings left (ap length left_is ∙ added_length own stretch count usable next.takes.small ∙ long)
        ∙ (λ i. with_stretch rings (next.at_start i) (left_is i))
