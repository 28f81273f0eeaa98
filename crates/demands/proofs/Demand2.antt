-- DEMAND 2 (promises 2.3, B.2): of every good book, each window that is kept is answered, and its figure is never above the true total and
-- short of it by less than D.
-- Assumes nothing.
use Prim.Native.Nat.{ℕ, ◌≤◌}
use native.Mathlib.Omega.{arith}
use mathlib.Core.List.{List}
use mathlib.Core.Path.{◌≡◌, ap}
use Rattle.book.specs.declared.Book.{Book}
use Rattle.book.specs.declared.told.Figure.{Figure}
use Rattle.book.specs.Record.{held_in}
use Rattle.book.specs.Figure.{figure}
use Rattle.book.proofs.Promises.{total_taken, total_gives}
use Rattle.demands.specs.History.{Good, true_total}
use Rattle.demands.specs.Demand2.{Bounds, Demand2}
use Rattle.demands.proofs.FigureBounds.{figure_bounds}
use Rattle.demands.proofs.GoodUsable.{good_invariant, good_usable}

module _ (book : Book) (ring items : List ℕ) (good : Good book ring items) where
  -- of the figure itself
  pub good_bounds : (window : ℕ) → window ≤ book.kept → Bounds (figure book ring window) (true_total window items) book.tolerance
  good_bounds = figure_bounds book (held_in book ring) items (good_invariant book ring items good)

  -- which at D = 1 is the true total
  pub good_exact : book.tolerance ≡ 1 → (window : ℕ) → window ≤ book.kept → figure book ring window ≡ true_total window items
  good_exact one window kept = let b = good_bounds window kept in omega (arith, b.not_above, b.not_far_below)

  -- and of the call
  pub demand_2 : Demand2 book ring items
  demand_2 window kept =
      let gives = total_gives book ring window (total_taken book ring window (good_usable book ring items good) kept) in
      record {
        not_refused = ap (λ (r : Figure). r.refusal) gives;
        bounds = rw (ap (λ (r : Figure). r.figure) gives) (good_bounds window kept);
      }
