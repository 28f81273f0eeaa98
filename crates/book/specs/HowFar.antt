-- How far back for v: SCOPE, How far back.
use Rattle.std.specs.Prelude.{ℕ, zero, suc, ◌<◌, ◌≤◌, cond, List, nat_le}
use Rattle.book.specs.declared.Book.{Book}
use Rattle.book.specs.Figure.{figure}

-- the first of the `count` windows i, i + 1, i + 2, … whose figure is at least v, and 0 where there is none
unfoldable pub first_reaching : (ℕ → ℕ) → ℕ → ℕ → ℕ → ℕ
first_reaching figure_of v zero i = 0
first_reaching figure_of v (suc count) i = cond (nat_le v (figure_of i)) i (first_reaching figure_of v count (suc i))

-- the smallest i from 1 to kept whose figure is at least v, and 0 where there is none
unfoldable pub how_far_back : Book → List ℕ → ℕ → ℕ
how_far_back book ring v = first_reaching (figure book ring) v book.kept 1

-- Said without a search: i is the smallest window from 1 to kept whose measure (its figure, or its true total) is at least v …
pub record Smallest (kept : ℕ) (measure : ℕ → ℕ) (v i : ℕ) : Type 0 where
  pub low : 1 ≤ i
  pub high : i ≤ kept
  pub reaches : v ≤ measure i
  pub shortest : (k : ℕ) → 1 ≤ k → k < i → measure k < v

-- … there is such a window …
pub record Found (kept : ℕ) (measure : ℕ → ℕ) (v : ℕ) : Type 0 where
  pub window : ℕ
  pub smallest : Smallest kept measure v window

-- … and there is none
abbrev pub NoWindow : ℕ → (ℕ → ℕ) → ℕ → Type 0
NoWindow kept measure v = (k : ℕ) → 1 ≤ k → k ≤ kept → measure k < v
