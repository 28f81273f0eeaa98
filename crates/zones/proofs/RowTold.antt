-- What the row of zones in a row tells, as it is judged: 8, then 4, then 17 or 7; and what it leaves, refused or not.
-- Assumes nothing.
use Prim.Native.Nat.{ℕ, zero, suc, ◌+◌, ◌≤◌, ◌<◌}
use native.Mathlib.Nat.{zero-add}
use native.Mathlib.Omega.{arith}
use mathlib.Core.Bool.{Bool, true, false, cond}
use mathlib.Core.List.{List, [], ◌∷◌}
use mathlib.Core.Logic.{◌⊎◌, inl, inr}
use mathlib.Core.Path.{◌≡◌, refl, sym, ap, ◌∙◌}
use borrow.Author.Tests.{lt-ltb, le-ltb}
use lib.Dec.{ltb}
use lib.ListN.{length, drop}
use Rattle.refusals.specs.Numbers.{no_book, ring_too_short, book_rests, item_too_large, bad_zones}
use Rattle.refusals.specs.First.{Fault, ◌gives◌, passed_on, first_of}
use Rattle.refusals.specs.Call.{by_refusal, refusal_of, result_of, left_of}
use Rattle.refusals.proofs.Laws.{first_goes_on, first_stops}
use Rattle.refusals.proofs.Calls.{result_cases, result_refused, left_taken, left_refused, same_result, same_left}
use Rattle.book.specs.declared.Book.{Book}
use Rattle.zones.specs.declared.told.Zoned.{Zoned}
use Rattle.zones.specs.Stretches.{ZonesAndRings, all_bytes}
use Rattle.zones.specs.Adding.{added_from}
use Rattle.zones.specs.Lowest.{record_refusals, taking_refusals, refusal_of_lowest, lowest_zone}
use Rattle.zones.specs.InARow.{told_of, lowest_from, judged_faults, zone_in_arow, in_arow, row_call}
use Rattle.zones.proofs.TwoParts.{then_told, told_first, Parted, books_apart, bytes_apart}
use Rattle.zones.proofs.RefusalNumbers.{records_8, takings_17_or_7}

module _ (zones : List Book) (rings : List ℕ) (low : ℕ) (counts : List ℕ) where
  abbrev takings : List ℕ
  takings = taking_refusals (drop low zones) counts

  -- WHAT IT TELLS: 8 of the lowest zone, 4, then 17 or 7 of the lowest zone
  row_told : result_of (row_call zones rings low counts)
      ≡ then_told (lowest_from 0 (record_refusals zones))
      (then_told (told_of (cond (ltb (length rings) (all_bytes zones)) ring_too_short 0) 0) (lowest_from low takings))
  unfolding row_call result_of
  row_told =
      by (refusal_of_lowest (record_refusals zones)) (refusal_of_lowest takings) (ltb (length rings) (all_bytes zones)) (records_8 zones)
      (takings_17_or_7 (drop low zones) counts)
    where
      with_late : (number : ℕ) → (number ≡ book_rests) ⊎ (number ≡ item_too_large) → zone_in_arow zones low counts number ≡ low + lowest_zone takings
      with_late number (inl e) = rw e
      with_late number (inr e) = rw e

      by : (first late : ℕ) (short : Bool) → ((first ≡ 0 → ⊥) → first ≡ no_book)
          → ((late ≡ 0 → ⊥) → (late ≡ book_rests) ⊎ (late ≡ item_too_large))
          → by_refusal (first_of (passed_on first ∷ (short gives ring_too_short) ∷ passed_on late ∷ [])) (told_of 0 0)
          (λ number. record { refusal = number; zone = zone_in_arow zones low counts number })
          ≡ then_told (told_of first (0 + lowest_zone (record_refusals zones)))
          (then_told (told_of (cond short ring_too_short 0) 0) (told_of late (low + lowest_zone takings)))
      by (suc first) late short is_8 which =
          let eight : suc first ≡ no_book = is_8 (λ e. omega (arith, e)) in
          let zone : zone_in_arow zones low counts (suc first) ≡ 0 + lowest_zone (record_refusals zones) =
          rw eight (sym (zero-add (lowest_zone (record_refusals zones)))) in
          ap (told_of (suc first)) zone
      by zero late true is_8 which = refl
      by zero zero false is_8 which = refl
      by zero (suc late) false is_8 which = ap (told_of (suc late)) (with_late (suc late) (which (λ e. omega (arith, e))))

  -- 8 is told first
  row_8 : (told : Zoned) → told ≡ lowest_from 0 (record_refusals zones) → (told.refusal ≡ 0 → ⊥) → told ≡ result_of (row_call zones rings low counts)
  row_8 told is some =
      is
      ∙ told_first (lowest_from 0 (record_refusals zones)) _ (λ none. some (ap (λ (t : Zoned). t.refusal) is ∙ none))
      ∙ sym row_told

  module _ (before rest : List Book) (parts : Parted zones low before rest) where
    -- 8 of a zone below `low` …
    pub row_before : (told : Zoned) → told ≡ lowest_from 0 (record_refusals before) → (told.refusal ≡ 0 → ⊥)
        → told ≡ result_of (row_call zones rings low counts)
    row_before told is some =
        row_8 told
        (told_first told (lowest_from low (record_refusals rest)) some
        ∙ ap (λ (first : Zoned). then_told first (lowest_from low (record_refusals rest))) is
        ∙ sym (books_apart parts))
        some

    module _ (books_before : told_of 0 0 ≡ lowest_from 0 (record_refusals before)) where
      -- … or of one of the others
      rest_is : lowest_from low (record_refusals rest) ≡ lowest_from 0 (record_refusals zones)
      rest_is =
          ap (λ (first : Zoned). then_told first (lowest_from low (record_refusals rest))) books_before ∙ sym (books_apart parts)

      pub row_rest : (told : Zoned) → told ≡ lowest_from low (record_refusals rest) → (told.refusal ≡ 0 → ⊥)
          → told ≡ result_of (row_call zones rings low counts)
      row_rest told is some = row_8 told (is ∙ rest_is) some

      module _ (all_books : told_of 0 0 ≡ lowest_from low (record_refusals rest)) where
        -- where all records are books, what follows is told
        behind_8 : (short : Bool) → ltb (length rings) (all_bytes zones) ≡ short
            → then_told (told_of (cond short ring_too_short 0) 0) (lowest_from low takings) ≡ result_of (row_call zones rings low counts)
        behind_8 short is =
            sym (row_told
            ∙ (λ i. then_told (sym (all_books ∙ rest_is) i) (then_told (told_of (cond (is i) ring_too_short 0) 0) (lowest_from low takings))))

        -- 4 …
        pub row_4 : length rings < all_bytes before + all_bytes rest → told_of ring_too_short 0 ≡ result_of (row_call zones rings low counts)
        row_4 short = behind_8 true (lt-ltb (length rings) (all_bytes zones) (omega (arith, bytes_apart parts)))

        -- … or that of the counts, or nothing
        pub row_late : all_bytes before + all_bytes rest ≤ length rings
            → lowest_from low (taking_refusals rest counts) ≡ result_of (row_call zones rings low counts)
        row_late room =
            ap (λ (l : List Book). lowest_from low (taking_refusals l counts)) parts.back
            ∙ behind_8 false (le-ltb (length rings) (all_bytes zones) (omega (arith, bytes_apart parts)))

  -- the number that is told is its refusal
  pub row_number : (result_of (row_call zones rings low counts)).refusal ≡ refusal_of (row_call zones rings low counts)
  unfolding row_call
  row_number =
      result_cases (λ (r : Zoned). r.refusal ≡ refusal_of (row_call zones rings low counts)) (row_call zones rings low counts) (λ e. sym e)
      (λ number e. sym e)

  -- WHAT IT LEAVES, where it tells a refusal: all as it was lent
  pub row_refused : (told : Zoned) → (told.refusal ≡ 0 → ⊥) → told ≡ result_of (row_call zones rings low counts)
      → record { zones = zones; rings = rings } ≡ left_of (row_call zones rings low counts)
  unfolding row_call
  row_refused told some is =
      left_refused (row_call zones rings low counts) (ap (λ (t : Zoned). t.refusal) is ∙ row_number) some

  -- and otherwise the zones with their counts
  pub row_taken : told_of 0 0 ≡ result_of (row_call zones rings low counts)
      → (refusal_of (row_call zones rings low counts) ≡ 0)
      × (added_from low counts (record { zones = zones; rings = rings }) ≡ left_of (row_call zones rings low counts))
  unfolding row_call
  row_taken is =
      let none : 0 ≡ refusal_of (row_call zones rings low counts) = ap (λ (t : Zoned). t.refusal) is ∙ row_number in
      (sym none, left_taken (row_call zones rings low counts) none refl)

  -- BEHIND 20: it is the row of a call whose early faults do not hold …
  module _ (early : List Fault) where
    pub behind_20 : first_of early ≡ 0
        → (result_of (row_call zones rings low counts) ≡ result_of (in_arow early zones rings low counts))
        × (left_of (row_call zones rings low counts) ≡ left_of (in_arow early zones rings low counts))
    unfolding row_call
    behind_20 passed =
        let same = sym (first_goes_on early (judged_faults zones rings low counts) passed) in
        let call = row_call zones rings low counts in
        let whole = in_arow early zones rings low counts in
        (same_result call whole same refl refl, same_left (λ (lent : ZonesAndRings). lent) call whole same refl refl)

    -- … and with 20 all is as it was lent
    pub with_20 : first_of early ≡ bad_zones
        → (record { refusal = bad_zones; zone = 0 } ≡ result_of (in_arow early zones rings low counts))
        × (record { zones = zones; rings = rings } ≡ left_of (in_arow early zones rings low counts))
    with_20 is =
        let call = in_arow early zones rings low counts in
        let some : bad_zones ≡ 0 → ⊥ = λ e. omega (arith, e) in
        let number : bad_zones ≡ refusal_of call = first_stops early (judged_faults zones rings low counts) bad_zones (sym is) some in
        (result_refused call number some, left_refused call number some)
