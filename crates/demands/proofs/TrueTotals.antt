-- Laws of sums and of true totals, for items as they came in, the oldest first, as a run of counts has them.
-- Assumes nothing.
use Prim.Native.Nat.{ℕ, zero, suc, ◌+◌, ◌*◌, ◌≤◌}
use native.Mathlib.Nat.{suc-mul}
use native.Mathlib.Omega.{arith}
use mathlib.Core.List.{List, [], ◌∷◌, ◌++◌}
use mathlib.Core.Path.{◌≡◌, refl, sym, ap, ◌∙◌}
use lib.ListN.{length, take, replicate}
use lib.Seq.{take_all, take-append-le, append_snoc}
use Rattle.demands.specs.History.{after_run, sum_of, true_total}
use Rattle.demands.proofs.SlotsNotReached.{length_after}

-- SUMS, of both parts of a list …
pub sum_of_both : (newer older : List ℕ) → sum_of (newer ++ older) ≡ sum_of newer + sum_of older
unfolding sum_of
sum_of_both [] older = omega arith
sum_of_both (item ∷ newer) older = omega (arith, sum_of_both newer older)

-- … and of items that are all the same
pub sum_of_same : (count item : ℕ) → sum_of (replicate count item) ≡ count * item
unfolding sum_of
sum_of_same zero item = omega arith
sum_of_same (suc count) item = omega (arith, sum_of_same count item, suc-mul count item)

-- A RUN leaves what was there behind it …
after_joined : (counts items : List ℕ) → after_run counts items ≡ after_run counts [] ++ items
unfolding after_run
after_joined [] items = refl
after_joined (count ∷ later) items =
    after_joined later (count ∷ items)
    ∙ sym (append_snoc (after_run later []) count items)
    ∙ ap (λ (l : List ℕ). l ++ items) (sym (after_joined later (count ∷ [])))

-- … a run of two parts is one after the other …
after_parts : (earlier later items : List ℕ) → after_run (earlier ++ later) items ≡ after_run later (after_run earlier items)
unfolding after_run
after_parts [] later items = refl
after_parts (count ∷ earlier) later items = after_parts earlier later (count ∷ items)

-- … and it adds its own sum
sum_after : (counts items : List ℕ) → sum_of (after_run counts items) ≡ sum_of counts + sum_of items
unfolding after_run sum_of
sum_after [] items = omega arith
sum_after (count ∷ later) items = omega (arith, sum_after later (count ∷ items))

-- TRUE TOTALS of all items …
pub total_of_all : (counts : List ℕ) (window : ℕ) → window ≡ length counts → true_total window (after_run counts []) ≡ sum_of counts
unfolding true_total sum_of
total_of_all counts window all =
    ap sum_of (take_all window (after_run counts []) (omega (arith, length_after counts [])))
    ∙ omega (arith, sum_after counts [])

-- … and of a window that ends among the later ones, to which the earlier ones are nothing
pub total_of_later : (earlier later : List ℕ) (window : ℕ) → window ≤ length later
    → true_total window (after_run (earlier ++ later) []) ≡ true_total window (after_run later [])
unfolding true_total
total_of_later earlier later window inside =
    ap (λ (l : List ℕ). sum_of (take window l)) (after_parts earlier later [] ∙ after_joined later (after_run earlier []))
    ∙ ap sum_of (take-append-le window (after_run later []) (after_run earlier []) (omega (arith, length_after later [])))
