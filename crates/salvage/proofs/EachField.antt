-- What salvage makes of a ring and a record: slot by slot, and that it stays a book.
-- Assumes nothing.
use Prim.Native.Nat.{ℕ, zero, suc, ◌+◌, ◌*◌, ◌^◌, ◌≤◌, ◌<◌, min}
use native.Mathlib.Omega.{arith}
use mathlib.Core.Bool.{Bool, true, false, cond}
use mathlib.Core.List.{List, ◌∷◌}
use mathlib.Core.Logic.{◌≢◌}
use mathlib.Core.Path.{◌≡◌, refl, sym, ap, ◌∙◌}
use borrow.Author.Tests.{le-ltb, ltb-true, ltb-false, eqb-true, eqb-false}
use lib.Dec.{eqb}
use lib.ListN.{length, drop}
use Rattle.bits.specs.Bytes.{Bytes}
use Rattle.ring.specs.Slot.{written}
use Rattle.ring.specs.Lent.{Lent}
use Rattle.ring.proofs.Promises.{read_back, other_stays, length_written, rest_stays_drop, bytes_written}
use Rattle.book.specs.declared.Book.{Book}
use Rattle.book.specs.Record.{block_of, slots_of, largest_of, width_of, bytes_of, held_in, record_with}
use Rattle.book.specs.Sound.{Usable}
use Rattle.book.proofs.Promises.{bytes_needed_lem}
use Rattle.salvage.specs.Altered.{newest_slot, too_large, altered_of, altered, how_new}
use Rattle.salvage.specs.Salvaged.{capped, tail_cleared, salvaged_ring, kept_for, salvaged_record}
use Rattle.salvage.specs.Mended.{Mended, NoneAltered}
use Rattle.salvage.proofs.NewestSlots.{steps_back, ring_whole, z_fits, newest_in}
use Rattle.salvage.proofs.AlteredSlots.{none_is_none}
use Rattle.salvage.proofs.Behind.{tail_slots_stay, tail_is_0, tail_length, tail_rest_stays}

-- the record, as it is written
pub salvaged_is : (book : Book) (ring : List ℕ)
    → salvaged_record book ring ≡ record_with book book.carry book.phase (kept_for book (how_new book ring)) book.head
unfolding salvaged_record
salvaged_is book ring = refl

-- kept: as it was, or up to the newest altered slot
pub kept_whole : (book : Book) → kept_for book 0 ≡ book.kept
unfolding kept_for
kept_whole book = refl

pub kept_short : (book : Book) (newer : ℕ) → kept_for book (suc newer) ≡ min book.kept (book.phase + newer * block_of book)
unfolding kept_for
kept_short book newer = refl

-- it never grows, and the open block stays in it
kept_between : (book : Book) (u : ℕ) → book.phase ≤ book.kept → (book.phase ≤ kept_for book u) × (kept_for book u ≤ book.kept)
unfolding kept_for
kept_between book zero low = (low, omega arith)
kept_between book (suc newer) low = (omega arith, omega arith)

-- A ring on its way, of which the j newest slots are still to be looked at: every field is at most what it was, and at least that or z, and those of
-- the older slots are not above z
record OnTheWay (book : Book) (ring : List ℕ) (j : ℕ) (ring' : List ℕ) : Type 0 where
  same_length : length ring' ≡ length ring
  bytes_stay : Bytes ring → Bytes ring'
  rest_stays : Bytes ring → drop (bytes_of book) ring' ≡ drop (bytes_of book) ring
  field_low : (slot : ℕ) → slot < slots_of book → min (held_in book ring slot) (largest_of book) ≤ held_in book ring' slot
  field_high : (slot : ℕ) → slot < slots_of book → held_in book ring' slot ≤ held_in book ring slot
  looked_at : (i : ℕ) → j < i → i ≤ slots_of book → held_in book ring' (newest_slot book i) ≤ largest_of book

module _ (book : Book) (ring : List ℕ) (usable : Usable book (length ring)) where
  -- nothing is looked at yet
  set_out : OnTheWay book ring (slots_of book) ring
  set_out =
      record {
        same_length = refl;
        bytes_stay = λ bytes. bytes;
        rest_stays = λ bytes. refl;
        field_low = λ slot below. omega arith;
        field_high = λ slot below. omega arith;
        looked_at = λ i past within. absurd (omega arith);
      }

  module _ (j : ℕ) (ring' : List ℕ) (way : OnTheWay book ring (suc j) ring') where
    -- the next slot is not altered
    passed : held_in book ring (newest_slot book (suc j)) ≤ largest_of book → OnTheWay book ring j ring'
    passed small =
        record {
          same_length = way.same_length;
          bytes_stay = way.bytes_stay;
          rest_stays = way.rest_stays;
          field_low = way.field_low;
          field_high = way.field_high;
          looked_at = λ i past within. by i past within (eqb i (suc j)) refl;
        }
      where
        by : (i : ℕ) → j < i → i ≤ slots_of book → (b : Bool) → eqb i (suc j) ≡ b → held_in book ring' (newest_slot book i) ≤ largest_of book
        by i past within true e =
            rw (eqb-true i (suc j) e) (omega (arith, small, way.field_high (newest_slot book (suc j)) (newest_in book (length ring) usable (suc j))))
        by i past within false e = way.looked_at i (omega (arith, eqb-false i (suc j) e)) within

    -- the next slot is altered: where it is, and the ring with z in it
    module _ (large : largest_of book < held_in book ring (newest_slot book (suc j))) where
      abbrev here : ℕ
      here = newest_slot book (suc j)

      abbrev put : List ℕ
      put = written (width_of book) ring' here (largest_of book)

      -- the ring so far is lent whole, z fits, and this is one of its slots
      on_the_way : Usable book (length ring')
      on_the_way = record { sound = usable.sound; room = rw way.same_length usable.room }

      abbrev whole : Lent (width_of book) (slots_of book) (length ring')
      whole = ring_whole book (length ring') on_the_way

      abbrev fits : largest_of book < 2 ^ width_of book
      fits = z_fits book (length ring') on_the_way

      abbrev in_it : here < slots_of book
      in_it = newest_in book (length ring') on_the_way (suc j)

      -- it holds z then, and every other slot what it held
      put_cases : (P : ℕ → Type 0) (slot : ℕ) → (slot ≡ here → P (largest_of book)) → (slot ≢ here → P (held_in book ring' slot))
          → P (held_in book put slot)
      put_cases P slot same other = by (eqb slot here) refl
        where
          by : (b : Bool) → eqb slot here ≡ b → P (held_in book put slot)
          by true e =
              let is_here = eqb-true slot here e in
              rw (ap (held_in book put) is_here
              ∙ read_back (width_of book) (slots_of book) ring' whole here in_it (largest_of book) fits) (same is_here)
          by false e =
              let elsewhere = eqb-false slot here e in
              rw (other_stays (width_of book) (slots_of book) ring' whole here in_it (largest_of book) fits slot elsewhere)
              (other elsewhere)

      -- the bytes from B on stay
      put_rest : Bytes ring → drop (bytes_of book) put ≡ drop (bytes_of book) ring
      put_rest bytes =
          ap (λ (n : ℕ). drop n put) (bytes_needed_lem book.bound book.length book.tolerance)
          ∙ rest_stays_drop (width_of book) (slots_of book) ring' whole here in_it (largest_of book) fits (way.bytes_stay bytes)
          ∙ ap (λ (n : ℕ). drop n ring') (sym (bytes_needed_lem book.bound book.length book.tolerance))
          ∙ way.rest_stays bytes

      -- so z goes into it
      altered_here : OnTheWay book ring j put
      altered_here =
          record {
            same_length =
                length_written (width_of book) (slots_of book) ring' whole here in_it (largest_of book) fits ∙ way.same_length;
            bytes_stay = λ bytes.
                bytes_written (width_of book) (slots_of book) ring' whole here in_it (largest_of book) fits (way.bytes_stay bytes);
            rest_stays = put_rest;
            field_low = λ slot below.
                put_cases (λ v. min (held_in book ring slot) (largest_of book) ≤ v) slot (λ same. omega arith) (λ other. way.field_low slot below);
            field_high = λ slot below.
                put_cases (λ v. v ≤ held_in book ring slot) slot
                (λ same. omega (arith, large, ap (held_in book ring) same))
                (λ other. way.field_high slot below);
            looked_at = λ i past within.
                put_cases (λ v. v ≤ largest_of book) (newest_slot book i) (λ same. omega arith)
                (λ other. (let not_this : i ≢ suc j = λ e. other (ap (newest_slot book) e) in
                way.looked_at i (omega (arith, not_this)) within));
          }

  -- from any place on, the altered slots that are left lead to the end
  to_the_end : (j : ℕ) (ring' : List ℕ) → OnTheWay book ring j ring' → OnTheWay book ring 0 (capped book ring' (altered_of book ring j))
  unfolding altered_of capped
  to_the_end zero ring' way = way
  to_the_end (suc j) ring' way = by (too_large book ring (newest_slot book (suc j))) refl (to_the_end j)
    where
      by : (b : Bool) → too_large book ring (newest_slot book (suc j)) ≡ b
          → ((next : List ℕ) → OnTheWay book ring j next → OnTheWay book ring 0 (capped book next (altered_of book ring j)))
          → OnTheWay book ring 0 (capped book ring' (cond b (newest_slot book (suc j) ∷ altered_of book ring j) (altered_of book ring j)))
      by true e later =
          later (written (width_of book) ring' (newest_slot book (suc j)) (largest_of book))
          (altered_here j ring' way (ltb-true (largest_of book) (held_in book ring (newest_slot book (suc j))) e))
      by false e later = later ring' (passed j ring' way (ltb-false (largest_of book) (held_in book ring (newest_slot book (suc j))) e))

  -- the ring before the bits after the last slot are cleared
  abbrev capped_ring : List ℕ
  capped_ring = capped book ring (altered book ring)

  -- it has come all the way
  capped_way : OnTheWay book ring 0 capped_ring
  capped_way = to_the_end (slots_of book) ring set_out

  -- it has room for the book's ring
  pub capped_usable : Usable book (length capped_ring)
  capped_usable = record { sound = usable.sound; room = rw capped_way.same_length usable.room }

  -- no field of it is above z, wherever the slot stands
  capped_none : NoneAltered book capped_ring
  capped_none slot below =
      let back = steps_back (slots_of book) book.head slot usable.sound.head_high below in
      le-ltb (largest_of book) (held_in book capped_ring slot)
      (rw back.there at (capped_way.looked_at back.steps back.low back.high))

  -- each field is the smaller of z and what it was
  capped_field : (slot : ℕ) → slot < slots_of book → held_in book capped_ring slot ≡ min (held_in book ring slot) (largest_of book)
  capped_field slot below =
      omega (
        arith,
        capped_way.field_low slot below,
        capped_way.field_high slot below,
        ltb-false (largest_of book) (held_in book capped_ring slot) (capped_none slot below),
      )

  -- the ring after salvage
  pub ring_mended : Mended book ring (salvaged_ring book ring)
  unfolding salvaged_ring
  ring_mended =
      record {
        field_is = λ slot below. tail_slots_stay book capped_ring capped_usable slot below ∙ capped_field slot below;
        tail_0 = tail_is_0 book capped_ring capped_usable;
        same_length = tail_length book capped_ring capped_usable ∙ capped_way.same_length;
        rest_stays = λ bytes.
            tail_rest_stays book capped_ring capped_usable (capped_way.bytes_stay bytes) ∙ capped_way.rest_stays bytes;
      }

  -- no field is above z then
  pub none_then : NoneAltered book (salvaged_ring book ring)
  none_then slot below =
      le-ltb (largest_of book) (held_in book (salvaged_ring book ring) slot) (omega (arith, ring_mended.field_is slot below))

  -- it is a book with its ring
  pub salvaged_usable : Usable (salvaged_record book ring) (length (salvaged_ring book ring))
  unfolding salvaged_record
  salvaged_usable =
      let between = kept_between book (how_new book ring) usable.sound.kept_low in
      record {
        sound =
            record {
              ranges = usable.sound.ranges;
              kept_high = omega (arith, between.1, usable.sound.kept_high);
              kept_low = between.0;
              phase_high = usable.sound.phase_high;
              head_high = usable.sound.head_high;
              carry_high = usable.sound.carry_high;
            };
        room = rw ring_mended.same_length usable.room;
      }

  -- where no slot is altered, the record is as it was, and the ring but for the bits after the last slot
  pub none_altered_leaves : NoneAltered book ring → (salvaged_record book ring ≡ book) × (salvaged_ring book ring ≡ tail_cleared book ring)
  unfolding salvaged_record salvaged_ring capped kept_for
  none_altered_leaves none =
      let nothing = none_is_none book ring usable none in (
        ap (λ (u : ℕ). record_with book book.carry book.phase (kept_for book u) book.head) nothing.1,
        ap (λ (slots : List ℕ). tail_cleared book (capped book ring slots)) nothing.0,
      )
