-- The two promises of the fine pair, of the calls themselves: rank undoes select, and select undoes rank at a lit frame.
-- Assumes nothing.
use Prim.Native.Nat.{ℕ, suc, ◌<◌, ◌≤◌}
use native.Mathlib.Omega.{arith}
use mathlib.Core.List.{List, [], ◌∷◌}
use mathlib.Core.Path.{◌≡◌, sym, ap, ◌∙◌}
use lib.ListN.{length, get_or, length-take}
use Rattle.refusals.specs.Call.{result_of}
use Rattle.bits.specs.Row.{bits}
use Rattle.bits.specs.Ones.{ones_of}
use Rattle.bits.proofs.Promises.{length_bits}
use Rattle.lit.specs.declared.Answer.{Answer}
use Rattle.lit.specs.Frames.{frames}
use Rattle.lit.specs.Held.{Held}
use Rattle.lit.specs.RankSelect.{rank_of, select_of}
use Rattle.lit.specs.Calls.{beyond_fault, no_such_one, answered, rank_call, select_call}
use Rattle.lit.proofs.Ranks.{rank_rest}
use Rattle.lit.proofs.Selects.{select_place}
use Rattle.lit.proofs.RankAndSelect.{rank_of_select, select_of_rank, rank_counts}
use Rattle.lit.proofs.Judged.{held, row_passes, within, within_passes, such_one, such_one_passes}
use Rattle.lit.proofs.Asked.{answer_refusal, answer_given}

module _ (row : List ℕ) (count : ℕ) where
  -- what is known where rank is not refused, and what it then answers
  pub rank_known : (i : ℕ) → (result_of (rank_call row count i)).refusal ≡ 0 → Held (length row) count × (i ≤ count)
  unfolding rank_call
  rank_known i taken =
      let none = held (length row) count (beyond_fault count i ∷ [])
      (sym (answer_refusal row (rank_call row count i).faults (rank_of i (frames row count))) ∙ taken) in
      (none.0, within count i none.1)

  pub rank_answers : Held (length row) count → (i : ℕ) → i ≤ count → result_of (rank_call row count i) ≡ answered (rank_of i (frames row count))
  unfolding rank_call
  rank_answers good i there =
      answer_given row (rank_call row count i).faults (rank_of i (frames row count))
      (row_passes (length row) count good (beyond_fault count i ∷ []) ∙ within_passes count i there)

  -- the same of select
  pub select_known : (k : ℕ) → (result_of (select_call row count k)).refusal ≡ 0
      → Held (length row) count × ((0 < k) × (k ≤ ones_of (frames row count)))
  unfolding select_call
  select_known k taken =
      let none = held (length row) count (no_such_one (ones_of (frames row count)) k)
      (sym (answer_refusal row (select_call row count k).faults (select_of k (frames row count))) ∙ taken) in
      (none.0, such_one (ones_of (frames row count)) k none.1)

  pub select_answers : Held (length row) count → (k : ℕ) → 0 < k → k ≤ ones_of (frames row count)
      → result_of (select_call row count k) ≡ answered (select_of k (frames row count))
  unfolding select_call
  select_answers good k some there =
      answer_given row (select_call row count k).faults (select_of k (frames row count))
      (row_passes (length row) count good (no_such_one (ones_of (frames row count)) k) ∙ such_one_passes (ones_of (frames row count)) k some there)

  -- a good row has as many frames as its length says
  length_frames : Held (length row) count → length (frames row count) ≡ count
  length_frames h = length-take count (bits row) ∙ omega (arith, h.there, length_bits row)

  -- RANK UNDOES SELECT: the rank of the place that select answered for k is k
  pub rank_undoes_select : (k : ℕ) → (result_of (select_call row count k)).refusal ≡ 0
      → result_of (rank_call row count (result_of (select_call row count k)).value) ≡ answered k
  rank_undoes_select k taken =
      let known = select_known k taken in
      let place = (select_place k (frames row count) known.1.0 known.1.1).1 in
      ap (λ (a : Answer). result_of (rank_call row count a.value)) (select_answers known.0 k known.1.0 known.1.1)
      ∙ rank_answers known.0 (select_of k (frames row count)) (omega (arith, length_frames known.0))
      ∙ ap answered (rank_of_select k (frames row count) known.1.1)

  -- SELECT UNDOES RANK: where the frame with the place i + 1 is lit, select of its rank answered that place
  pub select_undoes_rank : (i : ℕ) → (result_of (rank_call row count (suc i))).refusal ≡ 0 → 0 < get_or (frames row count) i 0
      → result_of (select_call row count (result_of (rank_call row count (suc i))).value) ≡ answered (suc i)
  select_undoes_rank i taken lit =
      let known = rank_known (suc i) taken in
      ap (λ (a : Answer). result_of (select_call row count a.value)) (rank_answers known.0 (suc i) known.1)
      ∙ select_answers known.0 (rank_of (suc i) (frames row count)) (rank_counts i (frames row count) lit)
      (omega (arith, rank_rest (suc i) (frames row count)))
      ∙ ap answered (select_of_rank i (frames row count) lit)
