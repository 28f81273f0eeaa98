-- Of zones in a row: the zone that comes with a refusal is the lowest one that has it, with 8 of all zones, with 17 and 7 of those that have a count.
-- Assumes nothing.
use Prim.Native.Nat.{ℕ, zero, suc, ◌+◌, ◌-◌, ◌<◌}
use native.Mathlib.Omega.{arith}
use mathlib.Core.Bool.{Bool, true, false, cond}
use mathlib.Core.List.{List, [], ◌∷◌, ◌++◌}
use mathlib.Core.Logic.{◌⊎◌, inl, inr, ⊎_elim}
use mathlib.Core.Path.{◌≡◌, refl, sym, ap, ◌∙◌}
use lib.Dec.{ltb}
use lib.ListN.{length, get_or, drop, length-drop}
use Rattle.refusals.specs.Numbers.{ring_too_short, item_too_large, no_book, book_rests, bad_zones}
use Rattle.refusals.specs.First.{Fault, first_of, is_refusal, or_else}
use Rattle.refusals.specs.Call.{refusal_of, result_of}
use Rattle.refusals.proofs.Laws.{first_append}
use Rattle.refusals.proofs.Calls.{result_cases}
use Rattle.book.specs.declared.Book.{Book}
use Rattle.zones.specs.declared.told.Zoned.{Zoned}
use Rattle.zones.specs.Stretches.{zone_at, all_bytes}
use Rattle.zones.specs.Lowest.{record_refusal, taking_refusal, record_refusals, taking_refusals, refusal_of_lowest, lowest_zone}
use Rattle.zones.specs.InARow.{judged_faults, zone_in_arow, in_arow}
use Rattle.zones.specs.Named.{LowestWith}
use Rattle.zones.proofs.RefusalsByPlace.{records_many, record_at, takings_many, taking_from}
use Rattle.zones.proofs.RefusalNumbers.{records_8, takings_not_8}

-- THE FIRST NUMBER THAT IS NOT 0 stands at its place, and before it there are zeros alone
pub record FirstAt (numbers : List ℕ) (place number : ℕ) : Type 0 where
  pub there : place < length numbers
  pub is : get_or numbers place 0 ≡ number
  pub before : (k : ℕ) → k < place → get_or numbers k 0 ≡ 0

pub first_at : (numbers : List ℕ) → (refusal_of_lowest numbers ≡ 0 → ⊥) → FirstAt numbers (lowest_zone numbers) (refusal_of_lowest numbers)
unfolding refusal_of_lowest lowest_zone
first_at [] some = absurd (some refl)
first_at (zero ∷ later) some =
    let further = first_at later some in
    record { there = omega (arith, further.there); is = further.is; before = by further.before }
  where
    by : ((k : ℕ) → k < lowest_zone later → get_or later k 0 ≡ 0) → (k : ℕ) → k < suc (lowest_zone later) → get_or (zero ∷ later) k 0 ≡ 0
    by zeros zero h = refl
    by zeros (suc k) h = zeros k (omega (arith, h))
first_at (suc number ∷ later) some = record { there = omega arith; is = refl; before = λ k h. absurd (omega (arith, h)) }

-- WHICH FAULT IT IS, with `early` giving 20 or nothing: the numbers of the three others differ
module _ (early : List Fault) (zones : List Book) (rings : List ℕ) (low : ℕ) (counts : List ℕ) where
  abbrev records : ℕ
  records = refusal_of_lowest (record_refusals zones)

  abbrev short : ℕ
  short = cond (ltb (length rings) (all_bytes zones)) ring_too_short 0

  abbrev takings : ℕ
  takings = refusal_of_lowest (taking_refusals (drop low zones) counts)

  -- the refusal, in the order of its faults
  pub refusal_is : first_of (early ++ judged_faults zones rings low counts)
      ≡ or_else (first_of early) (or_else records (or_else short takings))
  refusal_is =
      first_append early (judged_faults zones rings low counts)
      ∙ ap (or_else (first_of early)) (λ i. or_else (passed records i) (or_else short (last takings i)))
    where
      passed : (n : ℕ) → cond (is_refusal n) n 0 ≡ n
      passed zero = refl
      passed (suc n) = refl

      last : (n : ℕ) → or_else (cond (is_refusal n) n 0) 0 ≡ n
      last zero = refl
      last (suc n) = refl

  module _ (early_20 : (first_of early ≡ 0 → ⊥) → first_of early ≡ bad_zones) where
    -- the one of four numbers that comes first
    four : (P : ℕ → Type 0) (e r s t : ℕ) → P e → ((e ≡ 0) → P r) → ((r ≡ 0) → P s) → ((r ≡ 0) → (s ≡ 0) → P t) → P (or_else e (or_else r (or_else s t)))
    four P (suc e) r s t pe pr ps pt = pe
    four P zero (suc r) s t pe pr ps pt = pr refl
    four P zero zero (suc s) t pe pr ps pt = ps refl
    four P zero zero zero t pe pr ps pt = pt refl refl

    -- a room that is short gives 4
    short_4 : (k : ℕ) → short ≡ k → (k ≡ 0) ⊎ (k ≡ ring_too_short)
    short_4 k e = by (ltb (length rings) (all_bytes zones)) e
      where
        by : (b : Bool) → cond b ring_too_short 0 ≡ k → (k ≡ 0) ⊎ (k ≡ ring_too_short)
        by true e = inr (sym e)
        by false e = inl (sym e)

    -- 8 comes from the records alone …
    pub with_8 : first_of (early ++ judged_faults zones rings low counts) ≡ no_book → records ≡ no_book
    with_8 e =
        four (λ number. number ≡ no_book → records ≡ no_book) (first_of early) records short takings
        (λ h. absurd (omega (arith, h, early_20 (λ none. omega (arith, h, none)))))
        (λ _ h. h)
        (λ _ h. ⊎_elim (λ none. absurd (omega (arith, h, none))) (λ four. absurd (omega (arith, h, four))) (short_4 short refl))
        (λ _ _ h. absurd (takings_not_8 (drop low zones) counts h))
        (sym refusal_is ∙ e)

    -- … and 17 and 7 from the zones that have a count
    pub with_17_or_7 : (number : ℕ) → (number ≡ book_rests) ⊎ (number ≡ item_too_large)
        → first_of (early ++ judged_faults zones rings low counts) ≡ number → takings ≡ number
    with_17_or_7 number which e =
        four (λ k. k ≡ number → takings ≡ number) (first_of early) records short takings
        (λ h. absurd (apart (first_of early) bad_zones h (early_20 (λ none. some (sym h ∙ none))) (λ f. omega (arith, f)) (λ f. omega (arith, f))))
        (λ _ h. absurd (apart records no_book h (records_8 zones (λ none. some (sym h ∙ none))) (λ f. omega (arith, f)) (λ f. omega (arith, f))))
        (λ _ h. ⊎_elim (λ none. absurd (some (sym h ∙ none)))
        (λ is. absurd (apart short ring_too_short h is (λ f. omega (arith, f)) (λ f. omega (arith, f)))) (short_4 short refl))
        (λ _ _ h. h)
        (sym refusal_is ∙ e)
      where
        some : number ≡ 0 → ⊥
        some none = ⊎_elim (λ f. omega (arith, f, none)) (λ f. omega (arith, f, none)) which

        apart : (k other : ℕ) → k ≡ number → k ≡ other → (other ≡ book_rests → ⊥) → (other ≡ item_too_large → ⊥) → ⊥
        apart k other e is not_17 not_7 = ⊎_elim (λ f. not_17 (sym is ∙ e ∙ f)) (λ f. not_7 (sym is ∙ e ∙ f)) which

    -- THE ZONE that comes with it
    pub zone_is : (result_of (in_arow early zones rings low counts)).zone
        ≡ zone_in_arow zones low counts (refusal_of (in_arow early zones rings low counts))
    zone_is =
        result_cases (λ (r : Zoned). r.zone ≡ zone_in_arow zones low counts (refusal_of (in_arow early zones rings low counts)))
        (in_arow early zones rings low counts)
        (λ none. (rw none))
        (λ number e. rw e)

    pub named_with_8 : refusal_of (in_arow early zones rings low counts) ≡ no_book
        → LowestWith (λ zone. record_refusal (zone_at zones zone)) 0 (length zones) (result_of (in_arow early zones rings low counts)).zone no_book
    named_with_8 e =
        let found = first_at (record_refusals zones) (λ none. omega (arith, none, with_8 e)) in
        let there : lowest_zone (record_refusals zones) < length zones = rw (records_many zones) at found.there in
        rw (zone_is ∙ ap (zone_in_arow zones low counts) e)
        (record {
          from_low = omega arith;
          below_past = there;
          its_own = sym (record_at zones (lowest_zone (record_refusals zones)) there) ∙ found.is ∙ with_8 e;
          none_before = λ other _ before. sym (record_at zones other (omega (arith, before, there))) ∙ found.before other before;
        })

    -- with 17 and 7 it is the lowest of those that have a count
    zone_late : (k : ℕ) → (k ≡ book_rests) ⊎ (k ≡ item_too_large)
        → zone_in_arow zones low counts k ≡ low + lowest_zone (taking_refusals (drop low zones) counts)
    zone_late k (inl f) = rw f
    zone_late k (inr f) = rw f

    -- the refusals of those that have a count, each by its zone
    of_drop : (place : ℕ) → place < length (taking_refusals (drop low zones) counts)
        → get_or (taking_refusals (drop low zones) counts) place 0 ≡ taking_refusal (zone_at zones (low + place)) (get_or counts place 0)
    of_drop place there =
        let both = takings_many (drop low zones) counts place there in
        taking_from zones low counts place (let h = rw (length-drop low zones) at both.0 in omega (arith, h)) both.1

    at_zone : (place : ℕ) → place < length (taking_refusals (drop low zones) counts)
        → get_or (taking_refusals (drop low zones) counts) place 0
        ≡ taking_refusal (zone_at zones (low + place)) (get_or counts (low + place - low) 0)
    at_zone place there =
        let back : low + place - low ≡ place = omega arith in
        of_drop place there ∙ ap (λ (k : ℕ). taking_refusal (zone_at zones (low + place)) (get_or counts k 0)) (sym back)

    pub named_with_17_or_7 : (number : ℕ) → (number ≡ book_rests) ⊎ (number ≡ item_too_large)
        → refusal_of (in_arow early zones rings low counts) ≡ number
        → LowestWith (λ zone. taking_refusal (zone_at zones zone) (get_or counts (zone - low) 0)) low (low + length counts)
        (result_of (in_arow early zones rings low counts)).zone number
    named_with_17_or_7 number which e =
        let is = with_17_or_7 number which e in
        let refusals : List ℕ = taking_refusals (drop low zones) counts in
        let found = first_at refusals (λ none. ⊎_elim (λ f. omega (arith, f, is, none)) (λ f. omega (arith, f, is, none)) which) in
        rw (zone_is ∙ ap (zone_in_arow zones low counts) e ∙ zone_late number which)
        (record {
          from_low = omega arith;
          below_past = omega (arith, (takings_many (drop low zones) counts (lowest_zone refusals) found.there).1);
          its_own = sym (at_zone (lowest_zone refusals) found.there) ∙ found.is ∙ is;
          none_before = λ other from before.
              let place_less : other - low < lowest_zone refusals = omega (arith, from, before) in
              let back : low + (other - low) ≡ other = omega (arith, from) in
              ap (λ (k : ℕ). taking_refusal (zone_at zones k) (get_or counts (other - low) 0)) (sym back)
              ∙ sym (of_drop (other - low) (omega (arith, place_less, found.there)))
              ∙ found.before (other - low) place_less;
        })
