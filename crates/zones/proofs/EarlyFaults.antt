-- What gives 20 in both calls, before any zone is judged: with it all is as it was lent, and behind it a call is adding to zones in a row.
-- Assumes nothing.
use Prim.Native.Nat.{ℕ, ◌≤◌, ◌<◌}
use mathlib.Core.Bool.{not}
use mathlib.Core.List.{List, [], ◌∷◌}
use mathlib.Core.Path.{◌≡◌, ap, ◌∙◌}
use borrow.Author.Tests.{eqb-true, eq-eqb, leb-false, lt-leb, not-false}
use lib.Dec.{leb, eqb}
use lib.ListN.{length}
use Rattle.refusals.specs.Numbers.{bad_zones}
use Rattle.refusals.specs.First.{◌gives◌, first_of, outside}
use Rattle.refusals.specs.Call.{result_of, left_of}
use Rattle.refusals.proofs.Laws.{first_only, first_passed, in_range, not_outside}
use Rattle.book.specs.declared.Book.{Book}
use Rattle.zones.specs.Stretches.{ZonesAndRings}
use Rattle.zones.specs.Calls.{most_zones, unequal_fault, zone_fault, add_all_call, add_one_call}
use Rattle.zones.specs.InARow.{early_of_all, early_of_one, row_call}
use Rattle.zones.proofs.RowTold.{behind_20, with_20}
use Rattle.zones.proofs.AsInARow.{all_result, all_left, one_result, one_left}

-- there are 1 to 96 zones
abbrev HowMany : ℕ → Type 0
HowMany zones = (1 ≤ zones) × (zones ≤ most_zones)

-- ADDING TO ALL
module _ (zones : List Book) (rings counts : List ℕ) where
  abbrev many : ℕ
  many = length zones

  -- 20, where there are not so many zones, or not as many counts
  pub all_20 : (HowMany (length zones) → length counts ≡ length zones → ⊥)
      → (record { refusal = bad_zones; zone = 0 } ≡ result_of (add_all_call zones rings counts))
      × (zones ≡ (left_of (add_all_call zones rings counts)).zones)
      × (rings ≡ (left_of (add_all_call zones rings counts)).rings)
  all_20 unfit =
      let early = early_of_all many (length counts) in
      let is = with_20 zones rings 0 counts early (first_only bad_zones early tt some) in
      let left = is.1 ∙ all_left zones rings counts in
      (is.0 ∙ all_result zones rings counts, ap (λ (l : ZonesAndRings). l.zones) left, ap (λ (l : ZonesAndRings). l.rings) left)
    where
      some : first_of (early_of_all many (length counts)) ≡ 0 → ⊥
      some none =
          let range = first_passed (outside 1 most_zones many) 19 (unequal_fault many (length counts) ∷ []) none in
          let same = first_passed (not (eqb (length counts) many)) 19 [] range.1 in
          unfit (in_range 1 most_zones many range.0) (eqb-true (length counts) many (not-false (eqb (length counts) many) same.0))

  -- otherwise it is adding to zones in a row, from zone 0 on
  pub all_fit : HowMany (length zones) → length counts ≡ length zones
      → (result_of (row_call zones rings 0 counts) ≡ result_of (add_all_call zones rings counts))
      × (left_of (row_call zones rings 0 counts) ≡ left_of (add_all_call zones rings counts))
  all_fit how_many same =
      let behind = behind_20 zones rings 0 counts (early_of_all many (length counts)) none in
      (behind.0 ∙ all_result zones rings counts, behind.1 ∙ all_left zones rings counts)
    where
      none : first_of (early_of_all many (length counts)) ≡ 0
      none =
          λ i. first_of ((not_outside 1 most_zones many how_many.0 how_many.1 i gives bad_zones)
          ∷ (not (eq-eqb (length counts) many same i) gives bad_zones) ∷ [])

-- ADDING TO ONE
module _ (zones : List Book) (rings : List ℕ) (zone item : ℕ) where
  -- 20, where there are not so many zones, or not this one
  pub one_20 : (HowMany (length zones) → zone < length zones → ⊥)
      → (record { refusal = bad_zones; zone = 0 } ≡ result_of (add_one_call zones rings zone item))
      × (zones ≡ (left_of (add_one_call zones rings zone item)).zones)
      × (rings ≡ (left_of (add_one_call zones rings zone item)).rings)
  one_20 unfit =
      let early = early_of_one (length zones) zone in
      let is = with_20 zones rings zone (item ∷ []) early (first_only bad_zones early tt some) in
      let left = is.1 ∙ one_left zones rings zone item in
      (is.0 ∙ one_result zones rings zone item, ap (λ (l : ZonesAndRings). l.zones) left, ap (λ (l : ZonesAndRings). l.rings) left)
    where
      some : first_of (early_of_one (length zones) zone) ≡ 0 → ⊥
      some none =
          let range = first_passed (outside 1 most_zones (length zones)) 19 (zone_fault (length zones) zone ∷ []) none in
          let there = first_passed (leb (length zones) zone) 19 [] range.1 in
          unfit (in_range 1 most_zones (length zones) range.0) (leb-false (length zones) zone there.0)

  -- otherwise it is adding one count to zones in a row, from this one on
  pub one_fits : HowMany (length zones) → zone < length zones
      → (result_of (row_call zones rings zone (item ∷ [])) ≡ result_of (add_one_call zones rings zone item))
      × (left_of (row_call zones rings zone (item ∷ [])) ≡ left_of (add_one_call zones rings zone item))
  one_fits how_many there =
      let behind = behind_20 zones rings zone (item ∷ []) (early_of_one (length zones) zone) none in
      (behind.0 ∙ one_result zones rings zone item, behind.1 ∙ one_left zones rings zone item)
    where
      none : first_of (early_of_one (length zones) zone) ≡ 0
      none =
          λ i. first_of ((not_outside 1 most_zones (length zones) how_many.0 how_many.1 i gives bad_zones)
          ∷ (lt-leb (length zones) zone there i gives bad_zones) ∷ [])
