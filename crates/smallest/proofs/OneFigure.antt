-- ONE FIGURE CANNOT SERVE TWO (for promises C-24.1 and C-24.2). Of two different rows take the newest bit that differs: the window that begins with
-- its block truly holds at least D more after the one history than after the other, and no figure is within D of both.
-- Assumes nothing.
use Prim.Native.Nat.{ℕ, ◌+◌, ◌-◌, ◌*◌, ◌≤◌, ◌<◌}
use native.Mathlib.Nat.{lt-div-mul-add, div-add-mod, suc-mul}
use native.Mathlib.Omega.{arith}
use mathlib.Core.Bool.{Bool, true, false, cond}
use mathlib.Core.List.{List, [], ◌∷◌}
use mathlib.Core.Path.{◌≡◌, refl, sym, ap, ap₂, ◌∙◌}
use lib.ListN.{length, length-append, length-replicate}
use Rattle.book.proofs.Promises.{rounded_up}
use Rattle.demands.specs.History.{after_run, sum_of, true_total}
use Rattle.demands.specs.Demand2.{Bounds}
use Rattle.demands.proofs.TrueTotals.{sum_of_both, sum_of_same, total_of_all, total_of_later}
use Rattle.smallest.specs.SolidHistories.{solid_length, leftover, solid, items_of, FullRow}

module _ (bound n tolerance : ℕ) where
  abbrev w : ℕ
  w = solid_length bound tolerance

  abbrev items : List Bool → List ℕ
  items = items_of bound n tolerance

  -- a solid block of L items holds D …
  holds_d : 0 < bound → tolerance ≤ w * bound
  holds_d some = rw (rounded_up tolerance bound) (omega (arith, lt-div-mul-add {a = tolerance + (bound - 1)} {b = bound} some))

  -- … and a history is its oldest block and the others
  length_more : (bit : Bool) (later : List Bool) → length (items (bit ∷ later)) ≡ w + length (items later)
  unfolding items_of
  length_more bit later =
      length-append (solid bound n tolerance bit) (items later)
      ∙ ap (λ (k : ℕ). k + length (items later)) (length-replicate w (cond bit bound 0))

  length_none : length (items []) ≡ leftover bound n tolerance
  unfolding items_of
  length_none = length-replicate (leftover bound n tolerance) 0

  sum_more : (bit : Bool) (later : List Bool) → sum_of (items (bit ∷ later)) ≡ w * cond bit bound 0 + sum_of (items later)
  unfolding items_of
  sum_more bit later =
      sum_of_both (solid bound n tolerance bit) (items later)
      ∙ ap (λ (k : ℕ). k + sum_of (items later)) (sum_of_same w (cond bit bound 0))

  -- so many blocks and the leftover items
  length_row : (row : List Bool) → length (items row) ≡ length row * w + leftover bound n tolerance
  length_row [] = length_none ∙ omega arith
  length_row (bit ∷ later) = length_more bit later ∙ omega (arith, length_row later, suc-mul (length later) w)

  -- OF n ITEMS
  pub solid_has_n : (row : List Bool) → FullRow bound n tolerance row → length (items_of bound n tolerance row) ≡ n
  solid_has_n row full = length_row row ∙ omega (arith, ap (λ (k : ℕ). k * w) full, div-add-mod n w)

  -- these figures, one for each window, are within D after the history of this row
  abbrev pub Serves : (ℕ → ℕ) → List Bool → Type 0
  Serves figures row = (window : ℕ) → window ≤ length (items row) → Bounds (figures window) (true_total window (after_run (items row) [])) tolerance

  module _ (figures : ℕ → ℕ) where
    -- a window that does not reach back to the oldest block does not see it …
    serves_later : (bit : Bool) (later : List Bool) → Serves figures (bit ∷ later) → Serves figures later
    unfolding items_of
    serves_later bit later serves window inside =
        rw (total_of_later (solid bound n tolerance bit) (items later) window inside) at
        (serves window (omega (arith, inside, length_more bit later)))

    -- … and the window of all items does
    serves_all : (bit : Bool) (later : List Bool) → Serves figures (bit ∷ later)
        → Bounds (figures (w + length (items later))) (w * cond bit bound 0 + sum_of (items later)) tolerance
    serves_all bit later serves =
        let whole = length_more bit later in
        rw (total_of_all (items (bit ∷ later)) (w + length (items later)) (sym whole), sum_more bit later) at
        (serves (w + length (items later)) (omega (arith, whole)))

    -- no figure serves both a block of 0 and a block of L, with the same items after it
    not_both : (later : List Bool) → 0 < bound → Serves figures (false ∷ later) → Serves figures (true ∷ later) → ⊥
    not_both later some none all =
        let low = serves_all false later none in
        let high = serves_all true later all in
        omega (arith, low.not_above, high.not_far_below, holds_d some)

    same_bit : (one other : Bool) (later : List Bool) → 0 < bound → Serves figures (one ∷ later) → Serves figures (other ∷ later) → one ≡ other
    same_bit false false later some a b = refl
    same_bit false true later some a b = absurd (not_both later some a b)
    same_bit true false later some a b = absurd (not_both later some b a)
    same_bit true true later some a b = refl

    -- SO THE ROWS ARE THE SAME
    pub one_row : 0 < bound → (one other : List Bool) → length one ≡ length other → Serves figures one → Serves figures other → one ≡ other
    one_row some [] [] same a b = refl
    one_row some [] (bit ∷ later) same a b = absurd (omega arith)
    one_row some (bit ∷ later) [] same a b = absurd (omega arith)
    one_row some (bit ∷ later) (bit' ∷ later') same a b =
        let rest : later ≡ later' = one_row some later later' (omega arith) (serves_later bit later a) (serves_later bit' later' b) in
        ap₂ ◌∷◌ (same_bit bit bit' later' some (rw rest at a) b) rest
