-- What a trend (SCOPE, Trend) means over the true totals: for a good book it is at most D − 1 above the same difference of true totals and at most
-- 2·(D − 1) below it; and when its sign can be trusted.
use Rattle.std.specs.Prelude.{ℕ, ◌-◌, ◌*◌, ◌≤◌, List, ◌≡◌, ℤ, pos, neg_ℤ, ◌+ℤ◌, ◌≤ℤ◌, ◌<ℤ◌}
use Rattle.refusals.specs.Call.{result_of}
use Rattle.book.specs.declared.Book.{Book}
use Rattle.trend.specs.Trend.{twice_less, trend_call}
use Rattle.demands.specs.History.{true_total}

-- the true trend: twice the true total of the last i items less that of the last 2i
abbrev pub true_trend : ℕ → List ℕ → ℤ
true_trend window items = twice_less (true_total window items) (true_total (2 * window) items)

-- a trend t for the true one T under the tolerance D
pub record TrendBounds (t T : ℤ) (D : ℕ) : Type 0 where
  pub not_far_above : t ≤ℤ (T +ℤ pos (D - 1))
  pub not_far_below : T ≤ℤ (t +ℤ pos (2 * (D - 1)))

-- how far the sign of a trend t can be trusted, where T is the true one
pub record SignSure (t T : ℤ) (D : ℕ) : Type 0 where
  -- above D − 1, there truly is more movement than before; below −2·(D − 1), there truly is less
  pub truly_more : pos (D - 1) <ℤ t → pos 0 <ℤ T
  pub truly_less : t <ℤ neg_ℤ (pos (2 * (D - 1))) → T <ℤ pos 0
  -- and a true trend above 2·(D − 1) is seen as one above 0, a true one below −(D − 1) as one below 0
  pub more_seen : pos (2 * (D - 1)) <ℤ T → pos 0 <ℤ t
  pub less_seen : T <ℤ neg_ℤ (pos (D - 1)) → t <ℤ pos 0

-- the call `trend` for a window: it is not refused, and its trend is within the bounds
pub record TrendGiven (book : Book) (ring items : List ℕ) (window : ℕ) : Type 0 where
  pub not_refused : (result_of (trend_call book ring window)).refusal ≡ 0
  pub bounds : TrendBounds (result_of (trend_call book ring window)).trend (true_trend window items) book.tolerance

-- so it is with every window i whose 2i is up to kept …
abbrev pub TrendOfGood : Book → List ℕ → List ℕ → Type 0
TrendOfGood book ring items = (window : ℕ) → 2 * window ≤ book.kept → TrendGiven book ring items window

-- … the sign can be trusted so far …
abbrev pub SignOfGood : Book → List ℕ → List ℕ → Type 0
SignOfGood book ring items =
    (window : ℕ) → 2 * window ≤ book.kept
    → SignSure (result_of (trend_call book ring window)).trend (true_trend window items) book.tolerance

-- … and at D = 1 the trend is the true one
abbrev pub ExactTrend : Book → List ℕ → List ℕ → Type 0
ExactTrend book ring items =
    book.tolerance ≡ 1 → (window : ℕ) → 2 * window ≤ book.kept → (result_of (trend_call book ring window)).trend ≡ true_trend window items
