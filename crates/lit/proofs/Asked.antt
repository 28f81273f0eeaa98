-- The calls one by the other: what is known of a call's refusal from the answer that it gives, and the coarse calls by the fine ones.
-- Assumes nothing.
use Prim.Native.Nat.{ℕ, ◌*◌}
use native.Mathlib.Nat.{zero-div, mul-zero}
use native.Mathlib.Omega.{arith}
use mathlib.Core.Bool.{Bool, cond}
use mathlib.Core.List.{List, ◌∷◌}
use mathlib.Core.Path.{◌≡◌, refl, sym, ap, ◌∙◌}
use borrow.Author.Tests.{eq-eqb, ne_eqb}
use Rattle.refusals.specs.Numbers.{bad_lit_call}
use Rattle.refusals.specs.First.{Fault, first_of}
use Rattle.refusals.specs.Call.{refusal_of, result_of, seen_as}
use Rattle.refusals.proofs.Calls.{result_cases, same_result, seen_result, result_taken, result_refused}
use Rattle.lit.specs.declared.Answer.{Answer}
use Rattle.lit.specs.Frames.{frames}
use Rattle.lit.specs.RankSelect.{rank_of, select_of}
use Rattle.lit.specs.Coarse.{step_down, place_behind}
use Rattle.lit.specs.Calls.{step_fault, asking, answered, rank_call, select_call, coarse_rank_call, coarse_select_call}

-- the refusal in an answer is that of the faults
pub answer_refusal : (row : List ℕ) (faults : List Fault) (value : ℕ) → (result_of (asking row faults value)).refusal ≡ first_of faults
answer_refusal row faults value =
    result_cases (λ (r : Answer). r.refusal ≡ first_of faults) (asking row faults value) (λ none. sym none) (λ number e. sym e)

-- and an answer without one has the number that is asked for
pub answer_given : (row : List ℕ) (faults : List Fault) (value : ℕ) → first_of faults ≡ 0 → result_of (asking row faults value) ≡ answered value
answer_given row faults value none = sym (result_taken (asking row faults value) {n = 0} (sym none) refl)

-- two questions with the same refusal and the same number have the same answer, whatever is lent
pub same_answer : (row row' : List ℕ) (faults faults' : List Fault) (value value' : ℕ) → first_of faults ≡ first_of faults' → value ≡ value'
    → result_of (asking row faults value) ≡ result_of (asking row' faults' value')
same_answer row row' faults faults' value value' refusal number =
    same_result (asking row faults value) (asking row' faults' value') refusal (ap answered number) refl

-- an answer stepped down
abbrev pub stepped : ℕ → Answer → Answer
stepped d a = record { refusal = a.refusal; value = step_down d a.value }

-- no number is 0 when stepped down
pub zero_stays : (d : ℕ) → step_down d 0 ≡ 0
zero_stays d = ap (λ (q : ℕ). d * q) (zero-div d) ∙ mul-zero d

-- a step that is not 0 is no fault
pub step_passes : (d : ℕ) (later : List Fault) → (d ≡ 0 → ⊥) → first_of (step_fault d ∷ later) ≡ first_of later
step_passes d later some = rw (ne_eqb d 0 some)

-- a step of 0 refuses a coarse call
module _ (row : List ℕ) (count d : ℕ) where
  pub coarse_rank_0 : (i : ℕ) → d ≡ 0 → record { refusal = bad_lit_call; value = 0 } ≡ result_of (coarse_rank_call row count d i)
  unfolding coarse_rank_call
  coarse_rank_0 i none = result_refused (coarse_rank_call row count d i) {n = bad_lit_call} (rw none) (λ z. omega arith)

  pub coarse_select_0 : (k : ℕ) → d ≡ 0 → record { refusal = bad_lit_call; value = 0 } ≡ result_of (coarse_select_call row count d k)
  unfolding coarse_select_call
  coarse_select_0 k none = result_refused (coarse_select_call row count d k) {n = bad_lit_call} (rw none) (λ z. omega arith)

module _ (row : List ℕ) (count d : ℕ) (some : d ≡ 0 → ⊥) where
  -- COARSE RANK is the rank stepped down, refused or not …
  pub coarse_rank_by : (i : ℕ) → stepped d (result_of (rank_call row count i)) ≡ result_of (coarse_rank_call row count d i)
  unfolding rank_call coarse_rank_call
  coarse_rank_by i =
      let fine = rank_call row count i in
      seen_result (stepped d) fine
      ∙ same_result (seen_as (stepped d) fine) (coarse_rank_call row count d i) (sym (step_passes d fine.faults some)) refl
      (λ j number. record { refusal = number; value = zero_stays d j })

  -- … and has its refusal
  pub coarse_rank_refusal : (i : ℕ) → (result_of (rank_call row count i)).refusal ≡ refusal_of (coarse_rank_call row count d i)
  unfolding rank_call coarse_rank_call
  coarse_rank_refusal i =
      let fine = rank_call row count i in answer_refusal row fine.faults (rank_of i (frames row count)) ∙ sym (step_passes d fine.faults some)

  -- COARSE SELECT has the refusal of select …
  module _ (k : ℕ) where
    pub coarse_select_refusal : (result_of (select_call row count k)).refusal ≡ refusal_of (coarse_select_call row count d k)
    unfolding select_call coarse_select_call
    coarse_select_refusal =
        let fine = select_call row count k in
        answer_refusal row fine.faults (select_of k (frames row count)) ∙ sym (step_passes d fine.faults some)

    own_refusal : (result_of (select_call row count k)).refusal ≡ refusal_of (select_call row count k)
    unfolding select_call
    own_refusal = answer_refusal row (select_call row count k).faults (select_of k (frames row count))

    -- … and its answer, where it has one
    pub coarse_refused : ((result_of (select_call row count k)).refusal ≡ 0 → ⊥)
        → result_of (select_call row count k) ≡ result_of (coarse_select_call row count d k)
    unfolding select_call coarse_select_call
    coarse_refused refused =
        sym (result_refused (select_call row count k) own_refusal refused)
        ∙ result_refused (coarse_select_call row count d k) coarse_select_refusal refused

    -- or where the step leads to k itself
    pub coarse_exact : (result_of (select_call row count k)).refusal ≡ 0 → step_down d k ≡ k
        → result_of (select_call row count k) ≡ result_of (coarse_select_call row count d k)
    unfolding select_call coarse_select_call
    coarse_exact taken exact =
        sym (result_taken (select_call row count k) own_refusal taken)
        ∙ ap (λ (b : Bool). record { refusal = 0; value = cond b (select_of k (frames row count)) (place_behind (step_down d k) (frames row count)) })
        (sym (eq-eqb (step_down d k) k exact))
        ∙ result_taken (coarse_select_call row count d k) coarse_select_refusal taken

    -- and otherwise it is the place behind the one that the step leads to
    pub coarse_behind : (result_of (select_call row count k)).refusal ≡ 0 → (step_down d k ≡ k → ⊥) → (place : ℕ)
        → place ≡ place_behind (step_down d k) (frames row count)
        → record { refusal = 0; value = place } ≡ result_of (coarse_select_call row count d k)
    unfolding coarse_select_call
    coarse_behind taken other place is =
        ap (λ (p : ℕ). record { refusal = 0; value = p })
        (is
        ∙ ap (λ (b : Bool). cond b (select_of k (frames row count)) (place_behind (step_down d k) (frames row count)))
        (sym (ne_eqb (step_down d k) k other)))
        ∙ result_taken (coarse_select_call row count d k) coarse_select_refusal taken
