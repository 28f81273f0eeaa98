-- HOW MUCH IS NEEDED (promise C-24.2): whatever keeps the answers within the tolerance has 2^floor(n/ceil(D/L)) different states at the least, and
-- where each of its states is a row of at most m bits, m is at least floor(n/ceil(D/L)).
-- Assumes nothing.
use Prim.Native.Nat.{ℕ, suc, ◌^◌, ◌≤◌, ◌<◌}
use native.Mathlib.Omega.{arith}
use mathlib.Core.Bool.{Bool}
use mathlib.Core.List.{List}
use mathlib.Core.Logic.{◌⊎◌, inl, inr}
use mathlib.Core.Path.{◌≡◌, ◌∙◌}
use lib.ListN.{length, length-map}
use lib.Pow.{pow_mono}
use Rattle.book.proofs.Promises.{le_or_lt}
use Rattle.smallest.specs.SolidHistories.{solid_count, FullRow}
use Rattle.smallest.specs.Storing.{state_after, KeepsBounds, all_states}
use Rattle.smallest.specs.Counting.{Each, AllDifferent, all_rows}
use Rattle.smallest.specs.Saving.{AtMostBits}
use Rattle.smallest.proofs.OneStateEach.{one_state_each}
use Rattle.smallest.proofs.AllRows.{each_follows, each_made, made_different, rows_long, rows_many, rows_different}
use Rattle.smallest.proofs.FewRows.{few_rows}

module _ {State : Type 0} (bound n tolerance : ℕ) (store : List ℕ → State) (answer : State → ℕ → ℕ)
    (keeps : KeepsBounds bound n tolerance store answer) where
  pub many_states : AllDifferent (all_states bound n tolerance store) × (length (all_states bound n tolerance store) ≡ 2 ^ solid_count bound n tolerance)
  many_states =
      let k : ℕ = solid_count bound n tolerance in
      let apart = one_state_each bound n tolerance store answer keeps in (
        made_different (FullRow bound n tolerance) (state_after bound n tolerance store) apart (all_rows k) (rows_long k) (rows_different k),
        length-map (all_rows k) (state_after bound n tolerance store) ∙ rows_many k,
      )

module _ (bound n tolerance : ℕ) (store : List ℕ → List Bool) (answer : List Bool → ℕ → ℕ)
    (keeps : KeepsBounds bound n tolerance store answer) (most : ℕ) (few : AtMostBits bound n tolerance store most) where
  abbrev k : ℕ
  k = solid_count bound n tolerance

  short : Each (λ row. length row < suc most) (all_states bound n tolerance store)
  short =
      each_made (λ row. length row < suc most) (state_after bound n tolerance store) (all_rows k)
      (each_follows (λ row full. omega (arith, few row full)) (all_rows k) (rows_long k))

  pub bits_needed : solid_count bound n tolerance ≤ most
  bits_needed = by (le_or_lt k most)
    where
      by : (k ≤ most) ⊎ (most < k) → k ≤ most
      by (inl h) = h
      by (inr h) =
          let many = many_states bound n tolerance store answer keeps in
          let less = few_rows (suc most) (all_states bound n tolerance store) short many.0 in
          absurd (omega (arith, less, many.1, pow_mono {i = suc most} {j = k} h))
