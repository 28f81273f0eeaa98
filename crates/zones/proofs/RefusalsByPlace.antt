-- The zones' own refusals, one by one: that of the lowest is 0 exactly where each of them is, each stands at its zone's number, and a zone has none
-- exactly where its record is a book, or where it is awake and its count at most its L.
-- Assumes nothing.
use Prim.Native.Nat.{ℕ, zero, suc, ◌+◌, ◌≤◌, ◌<◌}
use native.Mathlib.Omega.{arith}
use mathlib.Core.List.{List, [], ◌∷◌}
use mathlib.Core.Path.{◌≡◌, refl, sym, ap, ◌∙◌}
use borrow.Author.Tests.{le-ltb, ltb-false}
use lib.Dec.{ltb}
use lib.ListN.{length, get_or, drop, length-drop}
use lib.Seq.{get_or-drop}
use Rattle.refusals.specs.First.{passed_on, first_of}
use Rattle.refusals.proofs.Laws.{first_both, first_passed}
use Rattle.refusals.proofs.Calls.{nothing_holds, none_refuses, written_out, passed_on_alone}
use Rattle.book.specs.declared.Book.{Book}
use Rattle.book.specs.Record.{no_book_at_all}
use Rattle.book.specs.Resting.{awake}
use Rattle.book.specs.Sound.{Sound}
use Rattle.book.specs.Calls.{room_fault, rest_fault, item_fault}
use Rattle.book.proofs.Promises.{mark_known, mark_taken, mark_refusal}
use Rattle.zones.specs.Stretches.{zone_at, all_bytes}
use Rattle.zones.specs.Lowest.{record_refusal, taking_refusal, record_refusals, taking_refusals, refusal_of_lowest}
use Rattle.zones.specs.InARow.{judged_faults}
use Rattle.zones.specs.Sound.{TakesItem}

-- THE LOWEST. It is 0 only where every number of the list is 0 …
pub lowest_none : (numbers : List ℕ) → refusal_of_lowest numbers ≡ 0 → (place : ℕ) → get_or numbers place 0 ≡ 0
unfolding refusal_of_lowest
lowest_none [] e place = refl
lowest_none (zero ∷ later) e zero = refl
lowest_none (zero ∷ later) e (suc place) = lowest_none later e place
lowest_none (suc number ∷ later) e place = absurd (omega arith)

-- … and it is 0 there
pub lowest_of_none : (numbers : List ℕ) → ((place : ℕ) → place < length numbers → get_or numbers place 0 ≡ 0) → refusal_of_lowest numbers ≡ 0
unfolding refusal_of_lowest
lowest_of_none [] none = refl
lowest_of_none (number ∷ later) none =
    rw (none 0 (omega arith)) (lowest_of_none later (λ place there. none (suc place) (omega (arith, there))))

-- THE REFUSALS BY PLACE. Each record has its own
pub records_many : (zones : List Book) → length (record_refusals zones) ≡ length zones
unfolding record_refusals
records_many [] = refl
records_many (book ∷ zones) = ap suc (records_many zones)

pub record_at : (zones : List Book) (zone : ℕ) → zone < length zones → get_or (record_refusals zones) zone 0 ≡ record_refusal (zone_at zones zone)
unfolding record_refusals
record_at [] zone there = absurd (omega arith)
record_at (book ∷ zones) zero there = refl
record_at (book ∷ zones) (suc zone) there = record_at zones zone (omega (arith, there))

-- and so has each record with its count, where both are there
pub takings_many : (zones : List Book) (counts : List ℕ) (zone : ℕ) → zone < length (taking_refusals zones counts)
    → (zone < length zones) × (zone < length counts)
unfolding taking_refusals
takings_many [] counts zone there = absurd (omega arith)
takings_many (book ∷ zones) [] zone there = absurd (omega arith)
takings_many (book ∷ zones) (count ∷ counts) zero there = (omega arith, omega arith)
takings_many (book ∷ zones) (count ∷ counts) (suc zone) there =
    let both = takings_many zones counts zone (omega (arith, there)) in
    (omega (arith, both.0), omega (arith, both.1))

pub taking_at : (zones : List Book) (counts : List ℕ) (zone : ℕ) → zone < length zones → zone < length counts
    → get_or (taking_refusals zones counts) zone 0 ≡ taking_refusal (zone_at zones zone) (get_or counts zone 0)
unfolding taking_refusals
taking_at [] counts zone there own = absurd (omega arith)
taking_at (book ∷ zones) [] zone there own = absurd (omega arith)
taking_at (book ∷ zones) (count ∷ counts) zero there own = refl
taking_at (book ∷ zones) (count ∷ counts) (suc zone) there own = taking_at zones counts zone (omega (arith, there)) (omega (arith, own))

-- with counts for the zones from `low` on
pub taking_from : (zones : List Book) (low : ℕ) (counts : List ℕ) (place : ℕ) → low + place < length zones → place < length counts
    → get_or (taking_refusals (drop low zones) counts) place 0 ≡ taking_refusal (zone_at zones (low + place)) (get_or counts place 0)
taking_from zones low counts place there own =
    taking_at (drop low zones) counts place (rw (length-drop low zones) (omega (arith, there))) own
    ∙ ap (λ (book : Book). taking_refusal book (get_or counts place 0)) (get_or-drop low zones place no_book_at_all)

-- A RECORD has no refusal exactly where it is a book
pub record_known : (book : Book) → record_refusal book ≡ 0 → Sound book
record_known book e = mark_known book awake (mark_refusal book awake ∙ e)

pub record_passes : (book : Book) → Sound book → record_refusal book ≡ 0
record_passes book sound = sym (mark_refusal book awake) ∙ mark_taken book awake sound

-- and it takes an item exactly where it is awake and the item is at most its L
module _ (book : Book) (item : ℕ) where
  pub taking_known : taking_refusal book item ≡ 0 → TakesItem book item
  taking_known e =
      let faults = rest_fault book ∷ item_fault book item ∷ [] in
      let h = nothing_holds faults (written_out faults tt) e in
      let still = ltb-false awake book.resting h.0 in
      record { up = omega (arith, still); small = ltb-false book.bound item h.1.0 }

  pub taking_passes : TakesItem book item → taking_refusal book item ≡ 0
  taking_passes takes =
      none_refuses (rest_fault book ∷ item_fault book item ∷ [])
      (le-ltb awake book.resting (omega (arith, takes.up)), (le-ltb book.bound item takes.small, tt))

-- NONE IS REFUSED: every record is a book …
pub all_sound : (zones : List Book) → refusal_of_lowest (record_refusals zones) ≡ 0 → (zone : ℕ) → zone < length zones → Sound (zone_at zones zone)
all_sound zones none zone there =
    record_known (zone_at zones zone) (sym (record_at zones zone there) ∙ lowest_none (record_refusals zones) none zone)

-- … and every zone with a count takes it
abbrev pub EachTakes : List Book → ℕ → List ℕ → Type 0
EachTakes zones low counts =
    (place : ℕ) → place < length counts → low + place < length zones → TakesItem (zone_at zones (low + place)) (get_or counts place 0)

pub each_takes : (zones : List Book) (low : ℕ) (counts : List ℕ)
    → refusal_of_lowest (taking_refusals (drop low zones) counts) ≡ 0 → EachTakes zones low counts
each_takes zones low counts none place here there =
    taking_known (zone_at zones (low + place)) (get_or counts place 0)
    (sym (taking_from zones low counts place there here) ∙ lowest_none (taking_refusals (drop low zones) counts) none place)

-- WHERE 8, 4, 17 AND 7 ARE PASSED, no record is refused, the stretches are lent whole, and no count is refused
pub judged_passed : (zones : List Book) (rings : List ℕ) (low : ℕ) (counts : List ℕ) → first_of (judged_faults zones rings low counts) ≡ 0
    → (refusal_of_lowest (record_refusals zones) ≡ 0) × (all_bytes zones ≤ length rings) × (refusal_of_lowest (taking_refusals (drop low zones) counts) ≡ 0)
judged_passed zones rings low counts e =
    let records = refusal_of_lowest (record_refusals zones) in
    let takings = refusal_of_lowest (taking_refusals (drop low zones) counts) in
    let books = first_both (passed_on records ∷ []) (room_fault (all_bytes zones) (length rings) ∷ passed_on takings ∷ []) e in
    let room = first_passed (ltb (length rings) (all_bytes zones)) 3 (passed_on takings ∷ []) books.1 in (
      sym (passed_on_alone records) ∙ books.0,
      ltb-false (length rings) (all_bytes zones) room.0,
      sym (passed_on_alone takings) ∙ room.1,
    )
