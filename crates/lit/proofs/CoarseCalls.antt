-- The promises of the coarse pair, of the calls themselves: it keeps to the rules of document 004, and with a step of 1 it is the fine pair.
-- Assumes nothing.
use Prim.Native.Nat.{ℕ, ◌<◌}
use native.Mathlib.Omega.{arith}
use mathlib.Core.List.{List, [], ◌∷◌, ◌++◌}
use mathlib.Core.Path.{◌≡◌, sym, ◌∙◌}
use borrow.Author.Tests.{eqb-false}
use lib.Dec.{eqb}
use lib.ListN.{length}
use Rattle.refusals.specs.First.{Fault, first_of}
use Rattle.refusals.specs.Call.{result_of}
use Rattle.bits.specs.Ones.{ones_of}
use Rattle.lit.specs.Frames.{frames}
use Rattle.lit.specs.RankSelect.{rank_of, select_of}
use Rattle.lit.specs.Coarse.{coarse_rank, coarse_select}
use Rattle.lit.specs.Rules.{RankRule, SelectRule}
use Rattle.lit.specs.Calls.{row_faults, step_fault, beyond_fault, no_such_one, rank_call, select_call, coarse_rank_call, coarse_select_call}
use Rattle.lit.proofs.CoarseKeepsToRule.{coarse_rank_rule, coarse_select_rule, coarse_rank_1, coarse_select_1}
use Rattle.lit.proofs.Judged.{passes, held, such_one}
use Rattle.lit.proofs.Asked.{answer_refusal, answer_given, same_answer, step_passes}

-- where a list that begins with the step gives no number, the step is not 0 and the rest gives none
step_known : (d : ℕ) (later : List Fault) → first_of (step_fault d ∷ later) ≡ 0 → (0 < d) × (first_of later ≡ 0)
step_known d later e =
    let passed = passes (eqb d 0) later e in
    let some = eqb-false d 0 passed.0 in
    (omega (arith, some), passed.1)

module _ (row : List ℕ) (count d : ℕ) where
  -- COARSE RANK KEEPS TO 004's RULE
  pub coarse_rank_in_rule : (i : ℕ) → (result_of (coarse_rank_call row count d i)).refusal ≡ 0
      → RankRule d i (frames row count) (result_of (coarse_rank_call row count d i)).value
  unfolding coarse_rank_call
  coarse_rank_in_rule i taken =
      let faults = (coarse_rank_call row count d i).faults in
      let value = coarse_rank d i (frames row count) in
      let none : first_of faults ≡ 0 = sym (answer_refusal row faults value) ∙ taken in
      rw (answer_given row faults value none)
      (coarse_rank_rule d i (frames row count) (step_known d (row_faults (length row) count ++ beyond_fault count i ∷ []) none).0)

  -- COARSE SELECT KEEPS TO 004's RULE
  pub coarse_select_in_rule : (k : ℕ) → (result_of (coarse_select_call row count d k)).refusal ≡ 0
      → SelectRule d k (frames row count) (result_of (coarse_select_call row count d k)).value
  unfolding coarse_select_call
  coarse_select_in_rule k taken =
      let faults = (coarse_select_call row count d k).faults in
      let value = coarse_select d k (frames row count) in
      let ones = ones_of (frames row count) in
      let none : first_of faults ≡ 0 = sym (answer_refusal row faults value) ∙ taken in
      let known = step_known d (row_faults (length row) count ++ no_such_one ones k) none in
      let one = such_one ones k (held (length row) count (no_such_one ones k) known.1).1 in
      rw (answer_given row faults value none) (coarse_select_rule d k (frames row count) known.0 one.0 one.1)

module _ (row : List ℕ) (count : ℕ) where
  -- WITH A STEP OF 1 the coarse pair is the fine pair, refused or not
  pub coarse_rank_by_1 : (i : ℕ) → result_of (coarse_rank_call row count 1 i) ≡ result_of (rank_call row count i)
  unfolding rank_call coarse_rank_call
  coarse_rank_by_1 i =
      let fine = (rank_call row count i).faults in
      same_answer row row (coarse_rank_call row count 1 i).faults fine (coarse_rank 1 i (frames row count)) (rank_of i (frames row count))
      (step_passes 1 fine (λ none. omega arith)) (coarse_rank_1 i (frames row count))

  pub coarse_select_by_1 : (k : ℕ) → result_of (coarse_select_call row count 1 k) ≡ result_of (select_call row count k)
  unfolding select_call coarse_select_call
  coarse_select_by_1 k =
      let fine = (select_call row count k).faults in
      same_answer row row (coarse_select_call row count 1 k).faults fine (coarse_select 1 k (frames row count)) (select_of k (frames row count))
      (step_passes 1 fine (λ none. omega arith)) (coarse_select_1 k (frames row count))
