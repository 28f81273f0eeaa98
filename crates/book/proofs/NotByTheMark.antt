-- WHAT DOES NOT LOOK AT THE MARK (promises C-15.4, C-15.5): of every record and ring, a figure, one total or two and how far back, in whole, and a
-- verdict's own refusals are the same with any mark.
-- Assumes nothing.
use Rattle.std.proofs.Common.{◌≡◌, ℕ, List, refl}
use Rattle.refusals.specs.Call.{refusal_of}
use Rattle.book.specs.declared.Book.{Book}
use Rattle.book.specs.Figure.{reckoned, slots_for, figure_by, figure}
use Rattle.book.specs.HowFar.{how_far_back}
use Rattle.book.specs.Resting.{marked}
use Rattle.book.specs.Calls.{total_call, two_totals_call, how_far_call, verdict_call}

module _ (book : Book) (ring : List ℕ) (mark : ℕ) where
  pub figure_unmarked : (window : ℕ) → figure (marked book mark) ring window ≡ figure book ring window
  unfolding figure_by reckoned slots_for
  figure_unmarked window = refl

  pub total_unmarked : (window : ℕ) → total_call (marked book mark) ring window ≡ total_call book ring window
  unfolding total_call figure_by reckoned slots_for
  total_unmarked window = refl

  pub two_totals_unmarked : (window more : ℕ) → two_totals_call (marked book mark) ring window more ≡ two_totals_call book ring window more
  unfolding two_totals_call figure_by reckoned slots_for
  two_totals_unmarked window more = refl

  pub far_unmarked : (amount : ℕ) → how_far_call (marked book mark) ring amount ≡ how_far_call book ring amount
  unfolding how_far_call how_far_back figure_by reckoned slots_for
  far_unmarked amount = refl

  -- so that resting, which comes with the answer, comes behind them
  pub verdict_refusal_unmarked : (window amount : ℕ)
      → refusal_of (verdict_call (marked book mark) ring window amount) ≡ refusal_of (verdict_call book ring window amount)
  unfolding verdict_call
  verdict_refusal_unmarked window amount = refl
