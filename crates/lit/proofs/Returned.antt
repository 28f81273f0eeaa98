-- What the code returns, by what it has found: the result that the call's row says.
-- Assumes nothing.
use Rattle.std.proofs.lemmas.Bool.{cases_lt}
use Rattle.std.proofs.Common.{◌≡◌, ℕ, ◌<◌, ◌≤◌, ◌*◌, ◌/◌, List, [], ◌∷◌, ◌++◌, Ok, Err, length, ◌⊎◌, inl, inr, sym, ap, ◌∙◌, arith}
use Rattle.std.specs.Option.{ok_or}
use borrow.Author.Tests.{lt-ltb, ne_eqb}
use Rattle.refusals.specs.declared.Refusal.{Refusal}
use Rattle.refusals.specs.declared.Refusal.TheVariants.{BadLitCall}
use Rattle.refusals.specs.Numbers.{bad_lit_call}
use Rattle.refusals.specs.Refused.{number_of}
use Rattle.refusals.specs.First.{Fault, first_of}
use Rattle.refusals.specs.Call.{result_of}
use Rattle.refusals.proofs.Numbers.{number_not_0}
use Rattle.refusals.proofs.Laws.{first_stops}
use Rattle.refusals.proofs.Calls.{result_refused}
use Rattle.bits.specs.Ones.{ones_of, ones_between}
use Rattle.lit.specs.declared.Answer.{Answer}
use Rattle.lit.specs.Told.{as_answer}
use Rattle.lit.specs.Held.{Held}
use Rattle.lit.specs.Frames.{frames}
use Rattle.lit.specs.RankSelect.{rank_of, select_of}
use Rattle.lit.specs.Coarse.{step_down, place_behind}
use Rattle.lit.specs.Search.{found}
use Rattle.lit.specs.Calls.{row_faults, beyond_fault, no_such_one, asking, answered, rank_call, select_call, coarse_rank_call, coarse_select_call}
use Rattle.lit.proofs.Ranks.{rank_of_bits}
use Rattle.lit.proofs.Selects.{select_none, select_place}
use Rattle.lit.proofs.Searching.{found_some}
use Rattle.lit.proofs.Judged.{row_passes}
use Rattle.lit.proofs.Asked.{stepped, zero_stays, coarse_rank_0, coarse_select_0, coarse_rank_by, coarse_refused, coarse_exact, coarse_behind}
use Rattle.lit.proofs.CallsUndo.{rank_answers, select_answers}

module _ (row : List ℕ) (count : ℕ) where
  -- A FAULT OF THE ROW is the refusal of each of its calls
  row_refused : (later : List Fault) (value : ℕ) (refusal : Refusal) → number_of refusal ≡ first_of (row_faults (length row) count)
      → as_answer (Err refusal) ≡ result_of (asking row (row_faults (length row) count ++ later) value)
  row_refused later value refusal own =
      result_refused (asking row (row_faults (length row) count ++ later) value)
      (first_stops (row_faults (length row) count) later (number_of refusal) own (number_not_0 refusal)) (number_not_0 refusal)

  pub rank_refused : (i : ℕ) (refusal : Refusal) → number_of refusal ≡ first_of (row_faults (length row) count)
      → as_answer (Err refusal) ≡ result_of (rank_call row count i)
  unfolding rank_call
  rank_refused i = row_refused (beyond_fault count i ∷ []) (rank_of i (frames row count))

  pub select_refused : (k : ℕ) (refusal : Refusal) → number_of refusal ≡ first_of (row_faults (length row) count)
      → as_answer (Err refusal) ≡ result_of (select_call row count k)
  unfolding select_call
  select_refused k = row_refused (no_such_one (ones_of (frames row count)) k) (select_of k (frames row count))

  -- In a row without one …
  module _ (good : Held (length row) count) where
    -- … a rank of more frames than there are is refused
    pub rank_beyond : (i : ℕ) → count < i → as_answer (Err BadLitCall) ≡ result_of (rank_call row count i)
    unfolding rank_call
    rank_beyond i beyond =
        result_refused (rank_call row count i) {n = bad_lit_call}
        (sym (row_passes (length row) count good (beyond_fault count i ∷ []) ∙ rw (lt-ltb count i beyond))) (λ z. omega arith)

    -- … and one of as many as there are is given
    pub rank_given : (i : ℕ) → i ≤ count → as_answer (Ok (ones_between 0 i row)) ≡ result_of (rank_call row count i)
    rank_given i within = ap answered (rank_of_bits row count i within) ∙ sym (rank_answers row count good i within)

    -- … a place that is not there is refused
    select_gone : (k : ℕ) → first_of (no_such_one (ones_of (frames row count)) k) ≡ bad_lit_call
        → as_answer (Err BadLitCall) ≡ result_of (select_call row count k)
    unfolding select_call
    select_gone k gone =
        result_refused (select_call row count k) {n = bad_lit_call}
        (sym (row_passes (length row) count good (no_such_one (ones_of (frames row count)) k) ∙ gone)) (λ z. omega arith)

    pub select_none_asked : (k : ℕ) → k ≡ 0 → as_answer (Err BadLitCall) ≡ result_of (select_call row count k)
    select_none_asked k none = select_gone k (rw none)

    -- the search decides: there is a k-th one exactly where it has a place
    pub select_told : (k : ℕ) → 0 < k → as_answer (ok_or (found (select_of k (frames row count))) BadLitCall) ≡ result_of (select_call row count k)
    select_told k some = by (cases_lt (ones_of (frames row count)) k)
      where
        by : (ones_of (frames row count) < k) ⊎ (k ≤ ones_of (frames row count))
            → as_answer (ok_or (found (select_of k (frames row count))) BadLitCall) ≡ result_of (select_call row count k)
        by (inr there) =
            rw (← found_some (select_of k (frames row count)) (select_place k (frames row count) some there).0)
            (sym (select_answers row count good k some there))
        by (inl gone) =
            rw (select_none k (frames row count) gone)
            (select_gone k (rw (ne_eqb k 0 (λ none. omega arith), lt-ltb (ones_of (frames row count)) k gone)))

  -- A COARSE CALL with a step that is not 0, by what the fine one has returned
  module _ (d : ℕ) (step : d ≡ 0 → ⊥) where
    pub coarse_rank_refused : (i : ℕ) (refusal : Refusal) → as_answer (Err refusal) ≡ result_of (rank_call row count i)
        → as_answer (Err refusal) ≡ result_of (coarse_rank_call row count d i)
    coarse_rank_refused i refusal told =
        ap (λ (value : ℕ). record { refusal = number_of refusal; value = value }) (sym (zero_stays d))
        ∙ ap (stepped d) told
        ∙ coarse_rank_by row count d step i

    pub coarse_rank_stepped : (i value : ℕ) → as_answer (Ok value) ≡ result_of (rank_call row count i)
        → as_answer (Ok (d * (value / d))) ≡ result_of (coarse_rank_call row count d i)
    coarse_rank_stepped i value told = ap (stepped d) told ∙ coarse_rank_by row count d step i

    pub coarse_select_refused : (k : ℕ) (refusal : Refusal) → as_answer (Err refusal) ≡ result_of (select_call row count k)
        → as_answer (Err refusal) ≡ result_of (coarse_select_call row count d k)
    coarse_select_refused k refusal told =
        told ∙ coarse_refused row count d step k (λ none. number_not_0 refusal (ap (λ (r : Answer). r.refusal) told ∙ none))

    -- the step leads to k itself, or to one before it
    module _ (k place : ℕ) (told : as_answer (Ok place) ≡ result_of (select_call row count k)) where
      pub coarse_select_exact : step_down d k ≡ k → as_answer (Ok place) ≡ result_of (coarse_select_call row count d k)
      coarse_select_exact exact = told ∙ coarse_exact row count d step k (sym (ap (λ (r : Answer). r.refusal) told)) exact

      pub coarse_select_behind : (step_down d k ≡ k → ⊥) → (behind : ℕ) → behind ≡ place_behind (step_down d k) (frames row count)
          → as_answer (Ok behind) ≡ result_of (coarse_select_call row count d k)
      coarse_select_behind other = coarse_behind row count d step k (sym (ap (λ (r : Answer). r.refusal) told)) other

-- what the check finds each function by
pub ruleset ranks = (rank_beyond, rank_given)

pub ruleset selects = (select_none_asked, select_told)

pub ruleset coarse_ranks = (coarse_rank_0, coarse_rank_refused, coarse_rank_stepped)

pub ruleset coarse_selects = (coarse_select_0, select_refused, coarse_select_refused)
