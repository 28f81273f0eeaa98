-- Any way of storing what has come in (SCOPE, No smaller book). `store` makes a state of the items, the oldest first, and `answer` reads the figure
-- of a window off a state. What the states are made of, and how they come about, is not asked.
use Rattle.std.specs.Prelude.{ℕ, ◌≤◌, Bool, List, [], map, ◌≡◌}
use Rattle.demands.specs.History.{after_run, true_total}
use Rattle.demands.specs.Demand2.{Bounds}
use Rattle.smallest.specs.SolidHistories.{solid_count, items_of, FullRow}
use Rattle.smallest.specs.Counting.{all_rows}

module _ {State : Type 0} (bound n tolerance : ℕ) (store : List ℕ → State) where
  -- the state after the history of a row
  abbrev pub state_after : List Bool → State
  state_after row = store (items_of bound n tolerance row)

  -- IT KEEPS THE ANSWERS WITHIN THE TOLERANCE: after each solid history the figure for every window up to n is within the bounds of demand 2
  abbrev pub KeepsBounds : (State → ℕ → ℕ) → Type 0
  KeepsBounds answer =
      (row : List Bool) → FullRow bound n tolerance row → (window : ℕ) → window ≤ n
      → Bounds (answer (state_after row) window) (true_total window (after_run (items_of bound n tolerance row) [])) tolerance

  -- ONE STATE FOR EACH ROW: where two rows come to the same state they are the same
  abbrev pub OneStateEach : Type 0
  OneStateEach =
      (one other : List Bool) → FullRow bound n tolerance one → FullRow bound n tolerance other → state_after one ≡ state_after other → one ≡ other

  -- the states of all solid histories
  abbrev pub all_states : List State
  all_states = map state_after (all_rows (solid_count bound n tolerance))
