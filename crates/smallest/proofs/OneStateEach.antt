-- ONE STATE FOR EACH ROW (promise C-24.2): whatever keeps the answers within the tolerance has a state of its own for the history of each row. D need
-- not be at least L, and of L, n and D nothing is asked at all (`one_history_each` has D above 0 as a premise).
-- Assumes nothing.
use Prim.Native.Nat.{ℕ, zero, suc, ◌+◌, ◌/◌, ◌<◌}
use native.Mathlib.Nat.{div-zero}
use native.Mathlib.Omega.{arith}
use mathlib.Core.Bool.{Bool}
use mathlib.Core.List.{List, [], ◌∷◌}
use mathlib.Core.Path.{◌≡◌, refl, sym, ap, subst, ◌∙◌}
use lib.ListN.{length}
use Rattle.book.proofs.Promises.{rounded_up}
use Rattle.demands.specs.History.{after_run, true_total}
use Rattle.smallest.specs.SolidHistories.{solid_count, FullRow}
use Rattle.smallest.specs.Storing.{state_after, KeepsBounds, OneStateEach}
use Rattle.smallest.proofs.OneFigure.{solid_has_n, Serves, one_row}

-- where L is 0 there is no block, and so there is one row alone
no_blocks : (n tolerance : ℕ) → solid_count 0 n tolerance ≡ 0
no_blocks n tolerance = ap (λ (k : ℕ). n / k) (rounded_up tolerance 0 ∙ div-zero (tolerance + 0)) ∙ div-zero n

only_row : (one other : List Bool) → length one ≡ 0 → length other ≡ 0 → one ≡ other
only_row [] [] a b = refl
only_row [] (bit ∷ later) a b = absurd (omega arith)
only_row (bit ∷ later) other a b = absurd (omega arith)

module _ {State : Type 0} (bound n tolerance : ℕ) (store : List ℕ → State) (answer : State → ℕ → ℕ)
    (keeps : KeepsBounds bound n tolerance store answer) where
  -- the figures of a state serve its history
  within : (row : List Bool) → FullRow bound n tolerance row → Serves bound n tolerance (answer (state_after bound n tolerance store row)) row
  within row full window inside = keeps row full window (omega (arith, inside, solid_has_n bound n tolerance row full))

pub one_state_each : {State : Type 0} (bound n tolerance : ℕ) (store : List ℕ → State) (answer : State → ℕ → ℕ)
    → KeepsBounds bound n tolerance store answer → OneStateEach bound n tolerance store
one_state_each zero n tolerance store answer keeps one other full full' same =
    only_row one other (full ∙ no_blocks n tolerance) (full' ∙ no_blocks n tolerance)
one_state_each {State} (suc below) n tolerance store answer keeps one other full full' same =
    let L : ℕ = suc below in
    one_row L n tolerance (answer (state_after L n tolerance store other)) (omega arith) one other (full ∙ sym full')
    (subst (λ (state : State). Serves L n tolerance (answer state) one) same (within L n tolerance store answer keeps one full))
    (within L n tolerance store answer keeps other full')

-- the items themselves are such a state, so that each row has a history of its own, and there are as many solid histories as rows
pub one_history_each : (bound n tolerance : ℕ) → 0 < tolerance → OneStateEach bound n tolerance (λ items. items)
one_history_each bound n tolerance some =
    one_state_each bound n tolerance (λ items. items) (λ items window. true_total window (after_run items []))
    (λ row full window inside. record { not_above = omega arith; not_far_below = omega arith })
