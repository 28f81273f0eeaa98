-- A run that is refused: with 7 comes the place of the first count above L, with any other number no place (promise C-11.2). And an empty
-- run of a book that is awake is not refused and changes nothing (promise C-11.3).
-- Assumes nothing.
use Rattle.std.proofs.Common.{◌≡◌, ℕ, zero, suc, Bool, true, false, List, [], ◌∷◌, ◌++◌, length, sym, refl, ◌∙◌, arith, ne_eqb}
use Rattle.refusals.specs.Numbers.{item_too_large}
use Rattle.refusals.specs.First.{Fault, ◌gives◌, first_of}
use Rattle.refusals.specs.Call.{refusal_of, result_of, left_of}
use Rattle.refusals.proofs.Laws.{first_stops, first_goes_on, first_avoids}
use Rattle.refusals.proofs.Calls.{none_refuses, result_cases, result_refused, left_refused}
use Rattle.book.specs.declared.Book.{Book}
use Rattle.book.specs.declared.told.Ran.{Ran}
use Rattle.book.specs.RunOfCounts.{any_above, place_above, place_with, FirstAbove, added_all, added_all_ring}
use Rattle.book.specs.Sound.{Usable}
use Rattle.book.specs.Resting.{awake}
use Rattle.book.specs.Calls.{book_faults, rest_fault, counts_fault, run_call}
use Rattle.book.proofs.LookingAtAll.{above_empty, place_first}
use Rattle.book.proofs.AwakeOrAtRest.{awake_passes}
use Rattle.book.proofs.WhenTaken.{usable_passes, run_taken, run_gives}

-- with a number that is not 7 comes no place
no_place : (bound : ℕ) (counts : List ℕ) (number : ℕ) → (number ≡ item_too_large → ⊥) → place_with bound counts number ≡ 0
no_place bound counts number other = rw (ne_eqb number item_too_large other)

-- what a run asks of the book and its ring before it looks at the counts …
abbrev asked_before : Book → ℕ → List Fault
asked_before book lent = book_faults book lent ++ rest_fault book ∷ []

-- … gives 8, 4 or 17, and never 7
book_never_7 : (book : Book) (lent : ℕ) → first_of (asked_before book lent) ≡ item_too_large → ⊥
book_never_7 book lent = first_avoids 6 (asked_before book lent) tt

-- so no place comes with what the judging of the book found
pub judged_no_place : (book : Book) (lent : ℕ) (counts : List ℕ) {number : ℕ} → number ≡ first_of (asked_before book lent)
    → place_with book.bound counts number ≡ 0
judged_no_place book lent counts {number} found =
    no_place book.bound counts number (λ seven. book_never_7 book lent (sym found ∙ seven))

module _ (book : Book) (ring counts : List ℕ) where
  abbrev of_book : List Fault
  of_book = asked_before book (length ring)

  abbrev own : List Fault
  own = counts_fault book counts ∷ []

  -- 7 is given only where a count is above L …
  seven_is_above : refusal_of (run_call book ring counts) ≡ item_too_large → any_above book.bound counts ≡ true
  unfolding run_call
  seven_is_above seven = judged (first_of of_book) refl
    where
      looked : (b : Bool) → first_of ((b gives item_too_large) ∷ []) ≡ item_too_large → b ≡ true
      looked true e = refl
      looked false e = absurd (omega (arith, e))

      judged : (n : ℕ) → first_of of_book ≡ n → any_above book.bound counts ≡ true
      judged zero e = looked (any_above book.bound counts) (sym (first_goes_on of_book own e) ∙ seven)
      judged (suc n) e = absurd (book_never_7 book (length ring) (e ∙ first_stops of_book own (suc n) (sym e) (λ z. omega (arith, z)) ∙ seven))

  -- … and wherever one is, if the record is a book with its ring and is awake
  pub run_above : Usable book (length ring) → book.resting ≡ awake → any_above book.bound counts ≡ true
      → refusal_of (run_call book ring counts) ≡ item_too_large
  unfolding run_call
  run_above u up above =
      first_goes_on of_book own (none_refuses of_book (usable_passes book (length ring) (rest_fault book ∷ []) u (awake_passes book up, tt)))
      ∙ rw above

  -- with it comes the place of the first one; the record comes back and the ring is left as they came
  pub run_7 : refusal_of (run_call book ring counts) ≡ item_too_large
      → FirstAbove book.bound counts (place_above book.bound counts)
      × (result_of (run_call book ring counts) ≡ record { refusal = item_too_large; place = place_above book.bound counts; book = book })
      × (left_of (run_call book ring counts) ≡ ring)
  unfolding run_call
  run_7 seven =
      let call = run_call book ring counts in (
        place_first book.bound counts (seven_is_above seven),
        sym (result_refused call (sym seven) (λ e. omega (arith, e))),
        sym (left_refused call (sym seven) (λ e. omega (arith, e))),
      )

  -- without a refusal, and with any other, the place is 0
  pub run_place_0 : (refusal_of (run_call book ring counts) ≡ item_too_large → ⊥) → (result_of (run_call book ring counts)).place ≡ 0
  unfolding run_call
  run_place_0 other =
      result_cases (λ (r : Ran). r.place ≡ 0) (run_call book ring counts) (λ e. refl)
      (λ number e. no_place book.bound counts (suc number) (λ seven. other (e ∙ seven)))

-- AN EMPTY RUN of a book that is awake gives the record and leaves the ring as they came
pub empty_run : (book : Book) (ring : List ℕ) → Usable book (length ring) → book.resting ≡ awake
    → (result_of (run_call book ring []) ≡ record { refusal = 0; place = 0; book = book }) × (left_of (run_call book ring []) ≡ ring)
unfolding added_all added_all_ring
empty_run book ring u up = run_gives book ring [] (run_taken book ring [] u (above_empty book.bound) up)
