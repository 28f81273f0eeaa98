-- The calls' own rows, and those of zones in a row as the code goes through them (specs/InARow.antt): the same refusal, the same result, and the same records and
-- ring bytes are left.
-- Assumes nothing.
use Prim.Native.Nat.{ℕ, zero, suc, ◌+◌, ◌<◌}
use native.Mathlib.Nat.{zero-add}
use native.Mathlib.Omega.{arith}
use mathlib.Core.Bool.{Bool, true, false, cond, ◌||◌}
use mathlib.Core.List.{List, [], ◌∷◌}
use mathlib.Core.Logic.{◌⊎◌, inl, inr, ⊎_elim}
use mathlib.Core.Path.{◌≡◌, refl, sym, ap, ◌∙◌}
use borrow.Author.Tests.{leb-false, eqb-true}
use lib.Dec.{leb, eqb}
use lib.ListN.{length, drop}
use Rattle.refusals.specs.Numbers.{no_book, book_rests, item_too_large, bad_zones}
use Rattle.refusals.specs.First.{Fault, ◌gives◌, passed_on, first_of, or_else}
use Rattle.refusals.specs.Call.{Call, refusal_of, result_of, left_of}
use Rattle.refusals.proofs.Laws.{first_append, first_only}
use Rattle.refusals.proofs.Calls.{passed_on_alone, result_taken, result_refused, same_result, same_left}
use Rattle.book.specs.declared.Book.{Book}
use Rattle.book.specs.Calls.{room_fault, rest_fault, item_fault}
use Rattle.zones.specs.Stretches.{ZonesAndRings, zone_at, all_bytes}
use Rattle.zones.specs.Adding.{added_from}
use Rattle.zones.specs.Lowest.{taking_refusal, record_refusals, taking_refusals, refusal_of_lowest, lowest_zone}
use Rattle.zones.specs.declared.told.Zoned.{Zoned}
use Rattle.zones.specs.Calls.{how_many_fault, zone_with, add_all_call, add_one_call}
use Rattle.zones.specs.InARow.{zone_in_arow, in_arow, early_of_all, early_of_one}
use Rattle.zones.proofs.RefusalsByPlace.{takings_many}
use Rattle.zones.proofs.LowestInARow.{first_at, with_17_or_7}

-- with a 0 behind it a refusal is itself
or_else_0 : (number : ℕ) → or_else number 0 ≡ number
or_else_0 zero = refl
or_else_0 (suc number) = refl

-- without a count no zone has a refusal of that kind
no_counts : (zones : List Book) → taking_refusals zones [] ≡ []
unfolding taking_refusals
no_counts [] = refl
no_counts (book ∷ zones) = refl

-- with one count it is that of its zone
one_taking : (zones : List Book) (zone item : ℕ) → zone < length zones
    → refusal_of_lowest (taking_refusals (drop zone zones) (item ∷ [])) ≡ taking_refusal (zone_at zones zone) item
unfolding taking_refusals refusal_of_lowest
one_taking [] zone item there = absurd (omega arith)
one_taking (book ∷ zones) zero item there =
    ap (λ (later : List ℕ). or_else (taking_refusal book item) (refusal_of_lowest later)) (no_counts zones) ∙ or_else_0 (taking_refusal book item)
one_taking (book ∷ zones) (suc zone) item there = one_taking zones zone item (omega (arith, there))

-- ONE ZONE: 17 and 7 are asked of that zone
pub one_refusal : (zones : List Book) (rings : List ℕ) (zone item : ℕ)
    → refusal_of (in_arow (early_of_one (length zones) zone) zones rings zone (item ∷ [])) ≡ refusal_of (add_one_call zones rings zone item)
unfolding add_one_call
one_refusal zones rings zone item = by (leb (length zones) zone) refl
  where
    first : List Fault → Bool → ℕ
    first later over =
        first_of (how_many_fault (length zones) ∷ (over gives bad_zones) ∷ passed_on (refusal_of_lowest (record_refusals zones))
        ∷ room_fault (all_bytes zones) (length rings) ∷ later)

    late : List Fault
    late = passed_on (refusal_of_lowest (taking_refusals (drop zone zones) (item ∷ []))) ∷ []

    own : List Fault
    own = rest_fault (zone_at zones zone) ∷ item_fault (zone_at zones zone) item ∷ []

    by : (over : Bool) → leb (length zones) zone ≡ over → first late over ≡ first own over
    by true e = refl
    by false e =
        let same : first_of late ≡ first_of own = passed_on_alone _ ∙ one_taking zones zone item (leb-false (length zones) zone e) in
        let early : List Fault =
        how_many_fault (length zones) ∷ (false gives bad_zones) ∷ passed_on (refusal_of_lowest (record_refusals zones))
        ∷ room_fault (all_bytes zones) (length rings) ∷ [] in
        first_append early late ∙ ap (or_else (first_of early)) same ∙ sym (first_append early own)

module _ (zones : List Book) (rings : List ℕ) (zone item : ℕ) where
  abbrev one : Call Zoned ZonesAndRings
  one = in_arow (early_of_one (length zones) zone) zones rings zone (item ∷ [])

  abbrev own : Call Zoned ZonesAndRings
  own = add_one_call zones rings zone item

  early_20 : (first_of (early_of_one (length zones) zone) ≡ 0 → ⊥) → first_of (early_of_one (length zones) zone) ≡ bad_zones
  early_20 = first_only bad_zones (early_of_one (length zones) zone) tt

  -- with 17 and 7 the zone is its own
  same_zone : (number : ℕ) → refusal_of one ≡ number → zone_in_arow zones zone (item ∷ []) number ≡ zone_with zones zone number
  unfolding zone_with
  same_zone number e = by (eqb number book_rests) refl (eqb number item_too_large) refl
    where
      refusals : List ℕ
      refusals = taking_refusals (drop zone zones) (item ∷ [])

      its_own : (number ≡ book_rests) ⊎ (number ≡ item_too_large) → zone + lowest_zone refusals ≡ zone
      its_own which =
          let is = with_17_or_7 (early_of_one (length zones) zone) zones rings zone (item ∷ []) early_20 number which e in
          let some : refusal_of_lowest refusals ≡ 0 → ⊥ = λ none. ⊎_elim (λ f. omega (arith, f, is, none)) (λ f. omega (arith, f, is, none)) which in
          let there = takings_many (drop zone zones) (item ∷ []) (lowest_zone refusals) (first_at refusals some).there in
          omega (arith, there.1)

      by : (rests : Bool) → eqb number book_rests ≡ rests → (large : Bool) → eqb number item_too_large ≡ large
          → cond (eqb number no_book) (lowest_zone (record_refusals zones)) (cond (rests || large) (zone + lowest_zone refusals) 0)
          ≡ cond (eqb number no_book) (lowest_zone (record_refusals zones)) (cond (rests || large) zone 0)
      by true e large f = ap (cond (eqb number no_book) (lowest_zone (record_refusals zones))) (its_own (inl (eqb-true number book_rests e)))
      by false e true f = ap (cond (eqb number no_book) (lowest_zone (record_refusals zones))) (its_own (inr (eqb-true number item_too_large f)))
      by false e false f = refl

  pub one_result : result_of one ≡ result_of own
  unfolding add_one_call
  one_result = by (refusal_of one) refl
    where
      same : refusal_of one ≡ refusal_of own
      same = one_refusal zones rings zone item

      by : (number : ℕ) → refusal_of one ≡ number → result_of one ≡ result_of own
      by zero e = sym (result_taken one (sym e) refl) ∙ result_taken own (sym e ∙ same) refl
      by (suc number) e =
          sym (result_refused one (sym e) (λ none. omega (arith, none)))
          ∙ ap (λ (zone' : ℕ). record { refusal = suc number; zone = zone' }) (same_zone (suc number) e)
          ∙ result_refused own (sym e ∙ same) (λ none. omega (arith, none))

  pub one_left : left_of one ≡ left_of own
  unfolding add_one_call added_from
  one_left = same_left (λ (lent : ZonesAndRings). lent) one own (one_refusal zones rings zone item) refl refl

-- ALL ZONES: low is 0
module _ (zones : List Book) (rings counts : List ℕ) where
  abbrev all : Call Zoned ZonesAndRings
  all = in_arow (early_of_all (length zones) (length counts)) zones rings 0 counts

  pub all_result : result_of all ≡ result_of (add_all_call zones rings counts)
  unfolding add_all_call zone_with
  all_result =
      same_result all (add_all_call zones rings counts) refl refl
      (λ i number. record {
        refusal = number;
        zone = cond (eqb number no_book) (lowest_zone (record_refusals zones))
            (cond (eqb number book_rests || eqb number item_too_large) (zero-add (lowest_zone (taking_refusals zones counts)) i) 0);
      })

  pub all_left : left_of all ≡ left_of (add_all_call zones rings counts)
  unfolding add_all_call
  all_left = same_left (λ (lent : ZonesAndRings). lent) all (add_all_call zones rings counts) refl refl refl
