-- The trend is two totals at once seen as one number: for every record, ring and window, refused or not.
-- Assumes nothing.
use Prim.Native.Nat.{ℕ, suc, ◌+◌, ◌*◌, ◌^◌, ◌<◌}
use native.Mathlib.Omega.{arith}
use mathlib.Core.List.{List}
use mathlib.Core.Path.{◌≡◌, sym, ap, ◌∙◌}
use Rattle.refusals.specs.Call.{refusal_of, result_of, seen_as}
use Rattle.refusals.proofs.Calls.{result_cases, same_result, seen_result}
use Rattle.book.specs.declared.Book.{Book}
use Rattle.book.specs.Answers.{Figures}
use Rattle.book.specs.Figure.{figure}
use Rattle.book.specs.Calls.{total_call, two_totals_call}
use Rattle.book.proofs.Promises.{total_known, two_totals_refusal, two_totals_given, two_totals_back}
use Rattle.trend.specs.declared.Answer.{Answer}
use Rattle.trend.specs.Trend.{twice_less, trend_of, trend_call}
use Rattle.trend.proofs.FigureFits.{figure_small}
use Rattle.trend.proofs.Trends.{trend_as_total}

abbrev pub as_trend : Figures → Answer
as_trend r = record { refusal = r.refusal; trend = twice_less r.shorter r.longer }

module _ (book : Book) (ring : List ℕ) (window : ℕ) where
  -- the two figures, which are 0 at a refusal, are far from 2^63
  pub both_small : (more : ℕ)
      → ((result_of (two_totals_call book ring window more)).shorter < 2 ^ 56) × ((result_of (two_totals_call book ring window more)).longer < 2 ^ 56)
  both_small more =
      result_cases (λ (r : Figures). (r.shorter < 2 ^ 56) × (r.longer < 2 ^ 56)) (two_totals_call book ring window more)
      (λ none. (let known = total_known book ring (window + more) (sym (two_totals_refusal book ring window more) ∙ none) in
      rw (two_totals_given book ring window more)
      (figure_small book ring known.0 window (omega (arith, known.1)), figure_small book ring known.0 (window + more) known.1)))
      (λ number e. rw (two_totals_back book ring window more (suc number)) (omega arith, omega arith))

  twice : window + window ≡ 2 * window
  twice = omega arith

  same_refusal : refusal_of (two_totals_call book ring window window) ≡ refusal_of (trend_call book ring window)
  same_refusal =
      two_totals_refusal book ring window window ∙ ap (λ (n : ℕ). refusal_of (total_call book ring n)) twice ∙ sym (trend_as_total book ring window)

  same_given : as_trend (two_totals_call book ring window window).given ≡ (trend_call book ring window).given
  unfolding trend_of trend_call
  same_given =
      ap as_trend (two_totals_given book ring window window)
      ∙ ap (λ (n : ℕ). record { refusal = 0; trend = twice_less (figure book ring window) (figure book ring n) }) twice

  same_back : (number : ℕ) → as_trend ((two_totals_call book ring window window).back number) ≡ (trend_call book ring window).back number
  unfolding trend_call
  same_back number = ap as_trend (two_totals_back book ring window window number)

  pub totals_as_trend : as_trend (result_of (two_totals_call book ring window window)) ≡ result_of (trend_call book ring window)
  totals_as_trend =
      let seen = seen_as as_trend (two_totals_call book ring window window) in
      seen_result as_trend (two_totals_call book ring window window)
      ∙ same_result seen (trend_call book ring window) same_refusal same_given (λ i number. same_back number i)
