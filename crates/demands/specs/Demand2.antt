-- Demand 2 (SCOPE, Demands): a total is never above the true total, and short of it by less than D.
use Rattle.std.specs.Prelude.{ℕ, ◌+◌, ◌≤◌, ◌<◌, List, ◌≡◌}
use Rattle.refusals.specs.Call.{result_of}
use Rattle.book.specs.declared.Book.{Book}
use Rattle.book.specs.Calls.{total_call}
use Rattle.demands.specs.History.{true_total}

-- a figure f for the true total S under the tolerance D
pub record Bounds (f S D : ℕ) : Type 0 where
  pub not_above : f ≤ S
  pub not_far_below : S < f + D

-- the call `total` for a window: it is not refused, and its figure is within the bounds
pub record TotalGiven (book : Book) (ring items : List ℕ) (window : ℕ) : Type 0 where
  pub not_refused : (result_of (total_call book ring window)).refusal ≡ 0
  pub bounds : Bounds (result_of (total_call book ring window)).figure (true_total window items) book.tolerance

-- so it is with every window up to kept
abbrev pub Demand2 : Book → List ℕ → List ℕ → Type 0
Demand2 book ring items = (window : ℕ) → window ≤ book.kept → TotalGiven book ring items window
