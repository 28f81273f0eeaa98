-- The call for a trend: it is refused as the total of twice the window is, and otherwise gives the difference; refused or not it leaves the ring.
-- Assumes nothing.
use Prim.Native.Nat.{ℕ, ◌*◌, ◌≤◌}
use native.Mathlib.Omega.{arith}
use mathlib.Core.List.{List, [], ◌∷◌, ◌++◌}
use mathlib.Core.Path.{◌≡◌, refl, sym, ap, ◌∙◌}
use lib.IntN.{pos}
use lib.ListN.{length}
use Rattle.refusals.specs.First.{first_of}
use Rattle.refusals.specs.Call.{refusal_of, result_of}
use Rattle.refusals.proofs.Calls.{result_taken}
use Rattle.book.specs.declared.Book.{Book}
use Rattle.book.specs.Record.{held_in}
use Rattle.book.specs.Resting.{marked}
use Rattle.book.specs.Sound.{Usable}
use Rattle.book.specs.Figure.{figure}
use Rattle.book.specs.Calls.{book_faults, window_fault, total_call}
use Rattle.book.proofs.Promises.{total_refusal, total_taken, total_known, window_0, figure_unmarked}
use Rattle.trend.specs.Trend.{twice_less, trend_of, trend_call}

module _ (book : Book) (ring : List ℕ) (window : ℕ) where
  -- REFUSALS: 8 and 4, then 5 for twice the window …
  pub trend_refusal : refusal_of (trend_call book ring window) ≡ first_of (book_faults book (length ring) ++ window_fault book (2 * window) ∷ [])
  unfolding trend_call
  trend_refusal = refl

  -- … which are those of a total of twice the window
  pub trend_as_total : refusal_of (trend_call book ring window) ≡ refusal_of (total_call book ring (2 * window))
  trend_as_total = trend_refusal ∙ sym (total_refusal book ring (2 * window))

  -- so it is taken exactly where record and ring pass 8 and 4 and twice the window is kept
  pub trend_taken : Usable book (length ring) → 2 * window ≤ book.kept → refusal_of (trend_call book ring window) ≡ 0
  trend_taken usable kept = trend_as_total ∙ total_taken book ring (2 * window) usable kept

  pub trend_known : refusal_of (trend_call book ring window) ≡ 0 → Usable book (length ring) × (2 * window ≤ book.kept)
  trend_known taken = total_known book ring (2 * window) (sym trend_as_total ∙ taken)

  -- THE RESULT where it is taken: twice the figure for the window less the figure for twice the window
  pub trend_gives : refusal_of (trend_call book ring window) ≡ 0
      → result_of (trend_call book ring window)
      ≡ record { refusal = 0; trend = twice_less (figure book ring window) (figure book ring (2 * window)) }
  unfolding trend_call trend_of
  trend_gives taken = sym (result_taken (trend_call book ring window) (sym taken) refl)

  -- with a refusal the trend is 0
  pub trend_hands_back : (number : ℕ) → (trend_call book ring window).back number ≡ record { refusal = number; trend = pos 0 }
  unfolding trend_call
  trend_hands_back number = refl

  -- it only asks
  pub trend_asks : ((trend_call book ring window).left ≡ ring) × ((trend_call book ring window).lent ≡ ring)
  unfolding trend_call
  trend_asks = (refl, refl)

  -- it does not look at the mark
  pub trend_unmarked : (mark : ℕ) → trend_call (marked book mark) ring window ≡ trend_call book ring window
  unfolding trend_call trend_of
  trend_unmarked mark = rw (figure_unmarked book ring mark window, figure_unmarked book ring mark (2 * window))

-- A WINDOW OF 0 gives 0
pub trend_of_none : (book : Book) (ring : List ℕ) → Usable book (length ring) → result_of (trend_call book ring 0) ≡ record { refusal = 0; trend = pos 0 }
trend_of_none book ring usable =
    trend_gives book ring 0 (trend_taken book ring 0 usable (omega arith))
    ∙ ap (λ (f : ℕ). record { refusal = 0; trend = twice_less f f }) (window_0 book (held_in book ring) usable.sound)
