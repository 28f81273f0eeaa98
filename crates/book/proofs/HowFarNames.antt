-- How far back (promise 3.1), for every record and every ring: the window named is the smallest whose figure reaches v, and 9 comes exactly
-- where there is none.
-- Assumes nothing.
use Rattle.std.proofs.Common.{◌≡◌, ℕ, zero, suc, ◌<◌, ◌≤◌, ◌⊎◌, List, [], ◌∷◌, length, sym, refl, ap, ◌∙◌, inl, inr, arith, eq-eqb, ne_eqb}
use Rattle.refusals.specs.Numbers.{not_reached}
use Rattle.refusals.specs.First.{first_of}
use Rattle.refusals.specs.Call.{refusal_of, result_of}
use Rattle.refusals.proofs.Laws.{first_goes_on}
use Rattle.refusals.proofs.Calls.{none_refuses, result_taken, result_refused}
use Rattle.book.specs.declared.Book.{Book}
use Rattle.book.specs.Sound.{Usable}
use Rattle.book.specs.Figure.{figure}
use Rattle.book.specs.HowFar.{how_far_back, Smallest, NoWindow, Found}
use Rattle.book.specs.Calls.{book_faults, zero_fault, reach_fault, how_far_call}
use Rattle.book.proofs.RoundedUp.{le_or_lt}
use Rattle.book.proofs.FirstWindowReaching.{first_is, first_none, first_found, first_never}
use Rattle.book.proofs.WhenTaken.{usable_passes, far_taken}

-- there is one smallest window at the most
pub smallest_unique : (kept : ℕ) (measure : ℕ → ℕ) (v i j : ℕ) → Smallest kept measure v i → Smallest kept measure v j → i ≡ j
smallest_unique kept measure v i j a b = by (le_or_lt i j) (le_or_lt j i)
  where
    by : (i ≤ j) ⊎ (j < i) → (j ≤ i) ⊎ (i < j) → i ≡ j
    by (inl le) (inl ge) = omega arith
    by (inl le) (inr lt) = absurd (omega (arith, b.shortest i a.low lt, a.reaches))
    by (inr gt) other = absurd (omega (arith, a.shortest j b.low gt, b.reaches))

module _ (book : Book) (ring : List ℕ) (v : ℕ) where
  pub smallest_or_none : Found book.kept (figure book ring) v ⊎ NoWindow book.kept (figure book ring) v
  unfolding how_far_back
  smallest_or_none = by (how_far_back book ring v) refl
    where
      by : (n : ℕ) → how_far_back book ring v ≡ n → Found book.kept (figure book ring) v ⊎ NoWindow book.kept (figure book ring) v
      by zero e = inr (λ k low high. first_never (figure book ring) v book.kept 1 (omega arith) e k low (omega arith))
      by (suc n) e =
          let f = first_found (figure book ring) v book.kept 1 (suc n) (omega arith) (omega arith) e in
          inl (record {
            window = suc n;
            smallest = record { low = f.low; high = omega (arith, f.high); reaches = f.reaches; shortest = f.shortest };
          })

  module _ (usable : Usable book (length ring)) (asked : 0 < v) where
    -- the smallest window, where there is one, is named
    pub smallest_is_named : (i : ℕ) → Smallest book.kept (figure book ring) v i → result_of (how_far_call book ring v) ≡ record { refusal = 0; window = i }
    unfolding how_far_back how_far_call
    smallest_is_named i s =
        let is : how_far_back book ring v ≡ i =
        first_is (figure book ring) v book.kept 1 i s.low (omega (arith, s.high)) s.reaches s.shortest in
        let taken : refusal_of (how_far_call book ring v) ≡ 0 = far_taken book ring v usable asked (omega (arith, s.low, is)) in
        sym (result_taken (how_far_call book ring v) (sym taken) refl) ∙ ap (λ (w : ℕ). record { refusal = 0; window = w }) is

    -- where there is none, 9 is given
    pub none_is_9 : NoWindow book.kept (figure book ring) v → result_of (how_far_call book ring v) ≡ record { refusal = not_reached; window = 0 }
    unfolding how_far_back how_far_call
    none_is_9 none =
        let e : how_far_back book ring v ≡ 0 = first_none (figure book ring) v book.kept 1 (λ k low high. none k low (omega arith)) in
        let own = zero_fault v ∷ reach_fault (how_far_back book ring v) ∷ [] in
        let nine : first_of own ≡ not_reached = rw (ne_eqb v 0 (λ z. omega arith), eq-eqb (how_far_back book ring v) 0 e) in
        let passed : first_of (book_faults book (length ring)) ≡ 0 =
        none_refuses (book_faults book (length ring)) (usable_passes book (length ring) [] usable tt) in
        let found : not_reached ≡ refusal_of (how_far_call book ring v) = sym (first_goes_on (book_faults book (length ring)) own passed ∙ nine) in
        sym (result_refused (how_far_call book ring v) found (λ z. omega arith))
