-- Refusals that are gone through one by one, from the first on: the first that is not 0 is that of the lowest zone, and where all are 0 there is none.
-- Assumes nothing.
use Prim.Native.Nat.{ℕ, zero, suc, ◌+◌, ◌≤◌, ◌<◌}
use native.Mathlib.Omega.{arith}
use mathlib.Core.List.{List, [], ◌∷◌}
use mathlib.Core.Path.{◌≡◌, refl, sym, ap, ◌∙◌}
use lib.ListN.{length, get_or}
use Rattle.book.specs.declared.Book.{Book}
use Rattle.zones.specs.Stretches.{zone_at}
use Rattle.zones.specs.Lowest.{record_refusal, taking_refusal, record_refusals, taking_refusals, refusal_of_lowest, lowest_zone}
use Rattle.zones.specs.InARow.{told_of, lowest_from}
use Rattle.zones.proofs.RefusalsByPlace.{lowest_of_none, records_many, record_at, takings_many, taking_at}

-- one that is not 0, with zeros alone before it
lowest_found : (low : ℕ) (numbers : List ℕ) (place : ℕ) → ((k : ℕ) → k < place → get_or numbers k 0 ≡ 0) → (get_or numbers place 0 ≡ 0 → ⊥)
    → lowest_from low numbers ≡ told_of (get_or numbers place 0) (low + place)
unfolding refusal_of_lowest lowest_zone
lowest_found low [] place before some = absurd (some refl)
lowest_found low (zero ∷ later) zero before some = absurd (some refl)
lowest_found low (suc number ∷ later) zero before some = refl
lowest_found low (suc number ∷ later) (suc place) before some = absurd (let z : suc number ≡ 0 = before 0 (omega arith) in omega arith)
lowest_found low (zero ∷ later) (suc place) before some =
    let here : low + suc (lowest_zone later) ≡ suc low + lowest_zone later = omega arith in
    let there : suc low + place ≡ low + suc place = omega arith in
    ap (told_of (refusal_of_lowest later)) here
    ∙ lowest_found (suc low) later place (λ k h. before (suc k) (omega arith)) some
    ∙ ap (told_of (get_or later place 0)) there

-- zeros alone
lowest_is_none : (low : ℕ) (numbers : List ℕ) → ((place : ℕ) → place < length numbers → get_or numbers place 0 ≡ 0)
    → told_of 0 0 ≡ lowest_from low numbers
lowest_is_none low numbers none = sym (ap (λ (number : ℕ). told_of number (low + lowest_zone numbers)) (lowest_of_none numbers none))

-- OF RECORDS: the first that is no book, or none
module _ (first : ℕ) (zones : List Book) where
  pub book_found : (place : ℕ) → place < length zones → ((k : ℕ) → k < place → record_refusal (zone_at zones k) ≡ 0)
      → (number : ℕ) → number ≡ record_refusal (zone_at zones place) → (number ≡ 0 → ⊥)
      → told_of number (first + place) ≡ lowest_from first (record_refusals zones)
  book_found place there before number is some =
      let own : get_or (record_refusals zones) place 0 ≡ number = record_at zones place there ∙ sym is in
      sym (lowest_found first (record_refusals zones) place (λ k h. record_at zones k (omega arith) ∙ before k h) (λ none. some (sym own ∙ none))
      ∙ ap (λ (refusal : ℕ). told_of refusal (first + place)) own)

  pub all_books : ((k : ℕ) → k < length zones → record_refusal (zone_at zones k) ≡ 0) → told_of 0 0 ≡ lowest_from first (record_refusals zones)
  all_books none =
      lowest_is_none first (record_refusals zones)
      (λ k there. (let h : k < length zones = rw (records_many zones) at there in record_at zones k h ∙ none k h))

-- OF COUNTS: the first that its zone does not take, or none
module _ (first : ℕ) (zones : List Book) (counts : List ℕ) (within : length counts ≤ length zones) where
  pub count_found : (place : ℕ) → place < length counts
      → ((k : ℕ) → k < place → taking_refusal (zone_at zones k) (get_or counts k 0) ≡ 0)
      → (number : ℕ) → number ≡ taking_refusal (zone_at zones place) (get_or counts place 0) → (number ≡ 0 → ⊥)
      → told_of number (first + place) ≡ lowest_from first (taking_refusals zones counts)
  count_found place there before number is some =
      let own : get_or (taking_refusals zones counts) place 0 ≡ number = taking_at zones counts place (omega arith) there ∙ sym is in
      sym (lowest_found first (taking_refusals zones counts) place
      (λ k h. taking_at zones counts k (omega arith) (omega arith) ∙ before k h) (λ none. some (sym own ∙ none))
      ∙ ap (λ (refusal : ℕ). told_of refusal (first + place)) own)

  pub all_taken : ((k : ℕ) → k < length counts → taking_refusal (zone_at zones k) (get_or counts k 0) ≡ 0)
      → told_of 0 0 ≡ lowest_from first (taking_refusals zones counts)
  all_taken none =
      lowest_is_none first (taking_refusals zones counts)
      (λ k there. (let both = takings_many zones counts k there in taking_at zones counts k both.0 both.1 ∙ none k both.1))
