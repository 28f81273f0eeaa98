-- The zone that comes with a refusal is the lowest one that has it (promise C-20.4): with 8 of all zones, with 17 and 7 of those that have a count;
-- with every other number, and without a refusal, it is 0.
-- Assumes nothing.
use Prim.Native.Nat.{ℕ, ◌-◌}
use native.Mathlib.Nat.{zero-add, sub-zero}
use native.Mathlib.Omega.{arith}
use mathlib.Core.List.{List, [], ◌∷◌}
use mathlib.Core.Logic.{◌⊎◌}
use mathlib.Core.Path.{◌≡◌, refl, sym, ap, ◌∙◌}
use borrow.Author.Tests.{ne_eqb}
use lib.ListN.{length, get_or}
use Rattle.refusals.specs.Numbers.{item_too_large, no_book, book_rests, bad_zones}
use Rattle.refusals.specs.First.{Fault}
use Rattle.refusals.specs.Call.{refusal_of, result_of}
use Rattle.refusals.proofs.Laws.{first_only}
use Rattle.refusals.proofs.Calls.{result_cases}
use Rattle.book.specs.declared.Book.{Book}
use Rattle.zones.specs.declared.told.Zoned.{Zoned}
use Rattle.zones.specs.Stretches.{zone_at}
use Rattle.zones.specs.Lowest.{record_refusal, taking_refusal}
use Rattle.zones.specs.Calls.{zone_with, add_all_call, add_one_call}
use Rattle.zones.specs.Named.{LowestWith}
use Rattle.zones.specs.InARow.{early_of_all, early_of_one}
use Rattle.zones.proofs.LowestInARow.{named_with_8, named_with_17_or_7}
use Rattle.zones.proofs.AsInARow.{one_refusal, one_result, all_result}

-- With 8 comes the lowest zone whose record is no book, of all; with 17 and 7 the lowest zone whose own refusal it is
module _ (zones : List Book) (rings counts : List ℕ) where
  abbrev early_all : List Fault
  early_all = early_of_all (length zones) (length counts)

  pub all_8 : refusal_of (add_all_call zones rings counts) ≡ no_book
      → LowestWith (λ zone. record_refusal (zone_at zones zone)) 0 (length zones) (result_of (add_all_call zones rings counts)).zone no_book
  unfolding add_all_call
  all_8 e = rw (all_result zones rings counts) at (named_with_8 early_all zones rings 0 counts (first_only bad_zones early_all tt) e)

  pub all_17_or_7 : (number : ℕ) → (number ≡ book_rests) ⊎ (number ≡ item_too_large) → refusal_of (add_all_call zones rings counts) ≡ number
      → LowestWith (λ zone. taking_refusal (zone_at zones zone) (get_or counts zone 0)) 0 (length counts)
      (result_of (add_all_call zones rings counts)).zone number
  unfolding add_all_call
  all_17_or_7 number which e =
      let named =
      rw (all_result zones rings counts) at (named_with_17_or_7 early_all zones rings 0 counts (first_only bad_zones early_all tt) number which e) in
      let itself : (k : ℕ) → taking_refusal (zone_at zones k) (get_or counts k 0) ≡ taking_refusal (zone_at zones k) (get_or counts (k - 0) 0) =
      λ k. ap (λ (j : ℕ). taking_refusal (zone_at zones k) (get_or counts j 0)) (sym (sub-zero k)) in
      record {
        from_low = named.from_low;
        below_past = rw (zero-add (length counts)) at named.below_past;
        its_own = itself _ ∙ named.its_own;
        none_before = λ other from before. itself other ∙ named.none_before other from before;
      }

module _ (zones : List Book) (rings : List ℕ) (zone item : ℕ) where
  abbrev early_one : List Fault
  early_one = early_of_one (length zones) zone

  pub one_8 : refusal_of (add_one_call zones rings zone item) ≡ no_book
      → LowestWith (λ k. record_refusal (zone_at zones k)) 0 (length zones) (result_of (add_one_call zones rings zone item)).zone no_book
  one_8 e =
      rw (one_result zones rings zone item) at
      (named_with_8 early_one zones rings zone (item ∷ []) (first_only bad_zones early_one tt) (one_refusal zones rings zone item ∙ e))

  -- of one zone it is that zone
  pub one_17_or_7 : (number : ℕ) → (number ≡ book_rests) ⊎ (number ≡ item_too_large) → refusal_of (add_one_call zones rings zone item) ≡ number
      → ((result_of (add_one_call zones rings zone item)).zone ≡ zone) × (taking_refusal (zone_at zones zone) item ≡ number)
  one_17_or_7 number which e =
      let named =
      rw (one_result zones rings zone item) at
      (named_with_17_or_7 early_one zones rings zone (item ∷ []) (first_only bad_zones early_one tt) number which
      (one_refusal zones rings zone item ∙ e)) in
      let same : (result_of (add_one_call zones rings zone item)).zone ≡ zone = omega (arith, named.from_low, named.below_past) in
      let none : zone - zone ≡ 0 = omega arith in (
        same,
        ap (λ (k : ℕ). taking_refusal (zone_at zones zone) (get_or (item ∷ []) k 0)) (sym none)
            ∙ ap (λ (k : ℕ). taking_refusal (zone_at zones k) (get_or (item ∷ []) (k - zone) 0)) (sym same) ∙ named.its_own,
      )

-- with any other number, and without a refusal, it is 0
module _ (number : ℕ) (not_8 : number ≡ no_book → ⊥) (not_17 : number ≡ book_rests → ⊥) (not_7 : number ≡ item_too_large → ⊥) where
  zone_none : (zones : List Book) (late : ℕ) → zone_with zones late number ≡ 0
  unfolding zone_with
  zone_none zones late = simp (ne_eqb number no_book not_8, ne_eqb number book_rests not_17, ne_eqb number item_too_large not_7)

  pub all_none : (zones : List Book) (rings counts : List ℕ) → refusal_of (add_all_call zones rings counts) ≡ number
      → (result_of (add_all_call zones rings counts)).zone ≡ 0
  unfolding add_all_call
  all_none zones rings counts =
      result_cases (λ (r : Zoned). refusal_of (add_all_call zones rings counts) ≡ number → r.zone ≡ 0) (add_all_call zones rings counts)
      (λ none is. refl) (λ found e is. ap (zone_with zones _) (sym e ∙ is) ∙ zone_none zones _)

  pub one_none : (zones : List Book) (rings : List ℕ) (zone item : ℕ) → refusal_of (add_one_call zones rings zone item) ≡ number
      → (result_of (add_one_call zones rings zone item)).zone ≡ 0
  unfolding add_one_call
  one_none zones rings zone item =
      result_cases (λ (r : Zoned). refusal_of (add_one_call zones rings zone item) ≡ number → r.zone ≡ 0) (add_one_call zones rings zone item)
      (λ none is. refl) (λ found e is. ap (zone_with zones zone) (sym e ∙ is) ∙ zone_none zones zone)
