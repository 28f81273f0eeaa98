-- DEMAND 3 (promises 3.2 to 3.5, B.1): of every good book and every amount of 1 or more.
-- Assumes nothing.
use Prim.Native.Nat.{ℕ, zero, suc, ◌+◌, ◌-◌, ◌≤◌, ◌<◌}
use native.Mathlib.Omega.{arith}
use mathlib.Core.List.{List}
use mathlib.Core.Logic.{◌⊎◌, inl, inr}
use mathlib.Core.Path.{◌≡◌, sym, ap, ◌∙◌}
use lib.ListN.{length}
use Rattle.refusals.specs.Numbers.{not_reached}
use Rattle.book.specs.declared.Book.{Book}
use Rattle.book.specs.declared.told.Window.{Window}
use Rattle.book.specs.Sound.{Usable}
use Rattle.book.specs.Figure.{figure}
use Rattle.book.specs.HowFar.{Smallest, NoWindow, Found}
use Rattle.book.proofs.Promises.{smallest_or_none, smallest_is_named, none_is_9}
use Rattle.demands.specs.History.{Good, sum_of, true_total}
use Rattle.demands.specs.Demand3.{Names, SaysNotReached, Named, SomeNamed, NotReached, Exact, Demand3}
use Rattle.demands.proofs.GoodUsable.{good_usable}
use Rattle.demands.proofs.Demand2.{good_bounds, good_exact}

-- two windows that are named are one, and a window that is named is not "not reached"
same_window : {i j : ℕ} → ◌≡◌ {A = Window} (record { refusal = 0; window = i }) (record { refusal = 0; window = j }) → i ≡ j
same_window e = ap (λ (w : Window). w.window) e

never_both : {i : ℕ} → ◌≡◌ {A = Window} (record { refusal = 0; window = i }) (record { refusal = not_reached; window = 0 }) → ⊥
never_both e = let z : 0 ≡ not_reached = ap (λ (w : Window). w.refusal) e in omega arith

module _ (book : Book) (ring items : List ℕ) (good : Good book ring items) (v : ℕ) (asked : 0 < v) where
  usable : Usable book (length ring)
  usable = good_usable book ring items good

  D-low : 1 ≤ book.tolerance
  D-low = usable.sound.ranges.tolerance_low

  -- what does not reach v by its figure truly holds less than v + D − 1, and so does the empty window
  holds_less : (k : ℕ) → k ≤ book.kept → (1 ≤ k → figure book ring k < v) → true_total k items < v + book.tolerance - 1
  unfolding true_total sum_of
  holds_less zero kept short = omega (arith, D-low)
  holds_less (suc k) kept short = omega (arith, (good_bounds book ring items good (suc k) kept).not_far_below, short (omega arith), D-low)

  pub named : (i : ℕ) → Smallest book.kept (figure book ring) v i → Named book ring items v i
  named i s =
      record {
        names = smallest_is_named book ring v usable asked i s;
        smallest = s;
        truly_holds = omega (arith, s.reaches, (good_bounds book ring items good i s.high).not_above);
        shorter_less = λ k h. holds_less k (omega (arith, s.high)) (λ low. s.shortest k low h);
      }

  pub not_reached_lem : NoWindow book.kept (figure book ring) v → NotReached book ring items v
  not_reached_lem none =
      record {
        says = none_is_9 book ring v usable asked none;
        none_reaches = none;
        none_holds = λ k h. holds_less k h (λ low. none k low h);
      }

  pub named_or_not : SomeNamed book ring items v ⊎ NotReached book ring items v
  named_or_not = by (smallest_or_none book ring v)
    where
      by : Found book.kept (figure book ring) v ⊎ NoWindow book.kept (figure book ring) v → SomeNamed book ring items v ⊎ NotReached book ring items v
      by (inl found) = inl (record { window = found.window; named = named found.window found.smallest })
      by (inr none) = inr (not_reached_lem none)

  -- at D = 1 the figure of a window that is kept is its true total
  module _ (one : book.tolerance ≡ 1) where
    figure_true : (k : ℕ) → k ≤ book.kept → figure book ring k ≡ true_total k items
    figure_true = good_exact book ring items good one

    by_figure : (i : ℕ) → Smallest book.kept (λ k. true_total k items) v i → Smallest book.kept (figure book ring) v i
    by_figure i s =
        record {
          low = s.low;
          high = s.high;
          reaches = omega (arith, figure_true i s.high, s.reaches);
          shortest = λ k low h. omega (arith, figure_true k (omega (arith, s.high)), s.shortest k low h);
        }

    by_truth : (i : ℕ) → Smallest book.kept (figure book ring) v i → Smallest book.kept (λ k. true_total k items) v i
    by_truth i s =
        record {
          low = s.low;
          high = s.high;
          reaches = omega (arith, figure_true i s.high, s.reaches);
          shortest = λ k low h. omega (arith, figure_true k (omega (arith, s.high)), s.shortest k low h);
        }

    none_by_figure : NoWindow book.kept (λ k. true_total k items) v → NoWindow book.kept (figure book ring) v
    none_by_figure none k low high = omega (arith, figure_true k high, none k low high)

    window_there : (i : ℕ) → Names book ring items v i → Smallest book.kept (λ k. true_total k items) v i
    window_there i told = by named_or_not
      where
        by : SomeNamed book ring items v ⊎ NotReached book ring items v → Smallest book.kept (λ k. true_total k items) v i
        by (inl n) = let same : n.window ≡ i = same_window (sym n.named.names ∙ told) in rw same at (by_truth n.window n.named.smallest)
        by (inr n) = absurd (never_both (sym told ∙ n.says))

    none_there : SaysNotReached book ring items v → NoWindow book.kept (λ k. true_total k items) v
    none_there told = by named_or_not
      where
        by : SomeNamed book ring items v ⊎ NotReached book ring items v → NoWindow book.kept (λ k. true_total k items) v
        by (inl n) = absurd (never_both (sym n.named.names ∙ told))
        by (inr n) = λ k low high. omega (arith, figure_true k high, n.none_reaches k low high)

    pub exact : Exact book ring items v
    exact =
        record {
          window_exact = λ i. (window_there i, λ s. (named i (by_figure i s)).names);
          none_exact = (none_there, λ none. (not_reached_lem (none_by_figure none)).says);
        }

  pub demand_3 : Demand3 book ring items v
  demand_3 = record { decided = named_or_not; where_some = named; where_none = not_reached_lem; exact_at_1 = exact }
