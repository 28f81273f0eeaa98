-- Demand 2 for calls with a row (SCOPE, Running sums): the total by the row is the walk's own, so never above the true total and short of it by less
-- than D. (Demand 3 is said as before: how far back is asked of record and ring.)
use Rattle.std.specs.Prelude.{ℕ, ◌≤◌, List, ◌≡◌}
use Rattle.refusals.specs.Call.{result_of}
use Rattle.book.specs.declared.Book.{Book}
use Rattle.book.specs.Calls.{total_call}
use Rattle.sums.specs.Calls.{RingAndRow, total_row_call}
use Rattle.demands.specs.History.{true_total}
use Rattle.demands.specs.Demand2.{Bounds}

-- the total by the row and the plain walk's, for one window: both are refused with the same number or not at all, and give the same figure
pub record SameTotal (book : Book) (lent : RingAndRow) (window : ℕ) : Type 0 where
  pub same_refusal : (result_of (total_row_call book lent.ring lent.row window)).refusal ≡ (result_of (total_call book lent.ring window)).refusal
  pub same_figure : (result_of (total_row_call book lent.ring lent.row window)).figure ≡ (result_of (total_call book lent.ring window)).figure

-- the total by the row: it is not refused, and its figure is within the bounds
pub record RowTotalGiven (book : Book) (lent : RingAndRow) (items : List ℕ) (window : ℕ) : Type 0 where
  pub not_refused : (result_of (total_row_call book lent.ring lent.row window)).refusal ≡ 0
  pub bounds : Bounds (result_of (total_row_call book lent.ring lent.row window)).figure (true_total window items) book.tolerance

-- so it is with every window up to kept
abbrev pub Demand2WithRow : Book → RingAndRow → List ℕ → Type 0
Demand2WithRow book lent items = (window : ℕ) → window ≤ book.kept → RowTotalGiven book lent items window
