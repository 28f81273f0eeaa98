-- Two totals at once are the two totals one by one: refused as the longer one is, and then with the figures of both.
-- Assumes nothing.
use Rattle.std.proofs.Common.{◌≡◌, ℕ, ◌+◌, List, sym, refl, ap, ◌∙◌, arith}
use Rattle.refusals.specs.Call.{refusal_of, result_of}
use Rattle.refusals.proofs.Calls.{result_taken}
use Rattle.book.specs.declared.Book.{Book}
use Rattle.book.specs.declared.told.Figure.{Figure}
use Rattle.book.specs.Answers.{Figures}
use Rattle.book.specs.Figure.{figure}
use Rattle.book.specs.Calls.{total_call, two_totals_call}
use Rattle.book.proofs.WhenTaken.{total_known, total_taken, total_gives}

module _ (book : Book) (ring : List ℕ) (window more : ℕ) where
  pub two_totals_refusal : refusal_of (two_totals_call book ring window more) ≡ refusal_of (total_call book ring (window + more))
  unfolding total_call two_totals_call
  two_totals_refusal = refl

  -- what is given, what a refusal gives, and that the ring stays
  pub two_totals_given : (two_totals_call book ring window more).given
      ≡ record { refusal = 0; shorter = figure book ring window; longer = figure book ring (window + more) }
  unfolding two_totals_call
  two_totals_given = refl

  pub two_totals_back : (number : ℕ) → (two_totals_call book ring window more).back number ≡ record { refusal = number; shorter = 0; longer = 0 }
  unfolding two_totals_call
  two_totals_back number = refl

  pub two_totals_asks : ((two_totals_call book ring window more).left ≡ ring) × ((two_totals_call book ring window more).lent ≡ ring)
  unfolding two_totals_call
  two_totals_asks = (refl, refl)

  pub two_totals_one_by_one : refusal_of (two_totals_call book ring window more) ≡ 0
      → ((result_of (two_totals_call book ring window more)).shorter ≡ (result_of (total_call book ring window)).figure)
      × ((result_of (two_totals_call book ring window more)).longer ≡ (result_of (total_call book ring (window + more))).figure)
  two_totals_one_by_one none =
      let longer : refusal_of (total_call book ring (window + more)) ≡ 0 = sym two_totals_refusal ∙ none in
      let known = total_known book ring (window + more) longer in
      let shorter : refusal_of (total_call book ring window) ≡ 0 = total_taken book ring window known.0 (omega (arith, known.1)) in
      let both = sym (result_taken (two_totals_call book ring window more) (sym none) refl) ∙ two_totals_given in (
        ap (λ (r : Figures). r.shorter) both ∙ sym (ap (λ (r : Figure). r.figure) (total_gives book ring window shorter)),
        ap (λ (r : Figures). r.longer) both ∙ sym (ap (λ (r : Figure). r.figure) (total_gives book ring (window + more) longer)),
      )
