-- What a trend means over the true totals (SCOPE, Trend): of a good book, each window i whose 2i is up to kept is answered, with a trend that is at
-- most D − 1 above the true one and at most 2·(D − 1) below it; how far its sign can be trusted; and that at D = 1 it is the true one.
-- Assumes nothing.
use Prim.Native.Nat.{ℕ, ◌+◌, ◌-◌, ◌*◌, ◌≤◌}
use native.Mathlib.Nat.{two-mul}
use native.Mathlib.Omega.{arith}
use mathlib.Core.List.{List, ◌++◌}
use mathlib.Core.Path.{◌≡◌, ap, ◌∙◌}
use lib.IntN.{pos, ◌-ℤ◌}
use lib.ListN.{take, drop}
use lib.Seq.{take-add}
use Rattle.refusals.specs.Call.{result_of}
use Rattle.book.specs.declared.Book.{Book}
use Rattle.book.specs.Figure.{figure}
use Rattle.trend.specs.declared.Answer.{Answer}
use Rattle.trend.specs.Trend.{twice_less, trend_call}
use Rattle.trend.proofs.Promises.{trend_taken, trend_gives, difference_lt, difference_same, difference_within, difference_above, difference_below}
use Rattle.demands.specs.History.{Good, sum_of, true_total}
use Rattle.demands.specs.Demand2.{Bounds}
use Rattle.demands.specs.TrendMeans.{true_trend, TrendBounds, SignSure, TrendOfGood, SignOfGood, ExactTrend}
use Rattle.demands.proofs.TrueTotals.{sum_of_both}
use Rattle.demands.proofs.GoodUsable.{good_usable}
use Rattle.demands.proofs.Demand2.{good_bounds, good_exact}

-- THE TRUE TREND sets the last i items against the i before them
pub true_trend_lem : (window : ℕ) (items : List ℕ) → true_trend window items ≡ pos (true_total window items) -ℤ pos (true_total window (drop window items))
unfolding true_total
true_trend_lem window items =
    let before = take window (drop window items) in
    let both : take (2 * window) items ≡ take window items ++ before = rw (two-mul window) (take-add window window items) in
    let sum : sum_of (take (2 * window) items) ≡ sum_of (take window items) + sum_of before = ap sum_of both ∙ sum_of_both (take window items) before in
    difference_same (2 * sum_of (take window items)) (sum_of (take (2 * window) items)) (sum_of (take window items)) (sum_of before) (omega arith)

-- TWO FIGURES f and g within D of their true totals F and G
module _ (f F g G D : ℕ) (shorter : Bounds f F D) (longer : Bounds g G D) where
  bounds_of_both : TrendBounds (twice_less f g) (twice_less F G) D
  bounds_of_both =
      record {
        not_far_above = difference_within (2 * f) g (2 * F) G _ (omega (arith, shorter.not_above, longer.not_far_below));
        not_far_below = difference_within (2 * F) G (2 * f) g _ (omega (arith, shorter.not_far_below, longer.not_above));
      }

  sign_of_both : SignSure (twice_less f g) (twice_less F G) D
  sign_of_both =
      record {
        truly_more = λ h.
            difference_lt 0 0 (2 * F) G (omega (arith, difference_above (2 * f) g _ h, shorter.not_above, longer.not_far_below));
        truly_less = λ h.
            difference_lt (2 * F) G 0 0 (omega (arith, difference_below (2 * f) g (2 * (D - 1)) h, shorter.not_far_below, longer.not_above));
        more_seen = λ h.
            difference_lt 0 0 (2 * f) g (omega (arith, difference_above (2 * F) G _ h, shorter.not_far_below, longer.not_above));
        less_seen = λ h.
            difference_lt (2 * f) g 0 0 (omega (arith, difference_below (2 * F) G (D - 1) h, shorter.not_above, longer.not_far_below));
      }

module _ (book : Book) (ring items : List ℕ) (good : Good book ring items) where
  module _ (window : ℕ) (kept : 2 * window ≤ book.kept) where
    gives : result_of (trend_call book ring window)
        ≡ record { refusal = 0; trend = twice_less (figure book ring window) (figure book ring (2 * window)) }
    gives = trend_gives book ring window (trend_taken book ring window (good_usable book ring items good) kept)

    shorter : Bounds (figure book ring window) (true_total window items) book.tolerance
    shorter = good_bounds book ring items good window (omega arith)

    longer : Bounds (figure book ring (2 * window)) (true_total (2 * window) items) book.tolerance
    longer = good_bounds book ring items good (2 * window) kept

  pub trend_of_good : TrendOfGood book ring items
  trend_of_good window kept =
      record {
        not_refused = ap (λ (r : Answer). r.refusal) (gives window kept);
        bounds = rw (ap (λ (r : Answer). r.trend) (gives window kept)) (bounds_of_both _ _ _ _ _ (shorter window kept) (longer window kept));
      }

  pub sign_sure : SignOfGood book ring items
  sign_sure window kept =
      rw (ap (λ (r : Answer). r.trend) (gives window kept)) (sign_of_both _ _ _ _ _ (shorter window kept) (longer window kept))

  pub exact_at_1 : ExactTrend book ring items
  exact_at_1 one window kept =
      let exact = good_exact book ring items good one in
      ap (λ (r : Answer). r.trend) (gives window kept) ∙ (λ i. twice_less (exact window (omega arith) i) (exact (2 * window) kept i))
