-- What each call on lit frames answers, for every input. Every refusal is 22 (SCOPE, Refusals); the row is lent only to be read. `count` is its
-- length: how many frames it has.
use Rattle.std.specs.Prelude.{ℕ, ◌*◌, List, [], ◌∷◌, ◌++◌, ltb, eqb, length}
use Rattle.refusals.specs.Numbers.{bad_lit_call}
use Rattle.refusals.specs.First.{Fault, ◌gives◌}
use Rattle.refusals.specs.Call.{Call}
use Rattle.bits.specs.Ones.{ones_of}
use Rattle.lit.specs.declared.Answer.{Answer}
use Rattle.lit.specs.Limits.{most_frames}
use Rattle.lit.specs.Frames.{frames}
use Rattle.lit.specs.RankSelect.{rank_of, select_of}
use Rattle.lit.specs.Coarse.{coarse_rank, coarse_select}

-- the length is above 65,536, or the slice holds fewer bits
abbrev pub row_faults : ℕ → ℕ → List Fault
row_faults bytes count =
    (ltb most_frames count gives bad_lit_call)
    ∷ (ltb (bytes * 8) count gives bad_lit_call)
    ∷ []

-- i is above the length
abbrev pub beyond_fault : ℕ → ℕ → Fault
beyond_fault count i = ltb count i gives bad_lit_call

-- d is 0
abbrev pub step_fault : ℕ → Fault
step_fault d = eqb d 0 gives bad_lit_call

-- k is 0, or above the number of ones
abbrev pub no_such_one : ℕ → ℕ → List Fault
no_such_one ones k =
    (eqb k 0 gives bad_lit_call)
    ∷ (ltb ones k gives bad_lit_call)
    ∷ []

-- an answer that is no refusal
abbrev pub answered : ℕ → Answer
answered value = record { refusal = 0; value = value }

-- a number where no fault holds, and otherwise 0 with the refusal
abbrev pub asking : List ℕ → List Fault → ℕ → Call Answer (List ℕ)
asking row faults value =
    record {
      faults = faults;
      given = answered value;
      left = row;
      back = λ number. record { refusal = number; value = 0 };
      lent = row;
    }

-- RANK: how many of the first i frames are lit
unfoldable pub rank_call : (row : List ℕ) (count i : ℕ) → Call Answer (List ℕ)
rank_call row count i = asking row (row_faults (length row) count ++ beyond_fault count i ∷ []) (rank_of i (frames row count))

-- SELECT: the place of the k-th lit frame
unfoldable pub select_call : (row : List ℕ) (count k : ℕ) → Call Answer (List ℕ)
select_call row count k =
    asking row (row_faults (length row) count ++ no_such_one (ones_of (frames row count)) k) (select_of k (frames row count))

-- COARSE RANK with a step d
unfoldable pub coarse_rank_call : (row : List ℕ) (count d i : ℕ) → Call Answer (List ℕ)
coarse_rank_call row count d i =
    asking row (step_fault d ∷ (row_faults (length row) count ++ beyond_fault count i ∷ [])) (coarse_rank d i (frames row count))

-- COARSE SELECT with a step d
unfoldable pub coarse_select_call : (row : List ℕ) (count d k : ℕ) → Call Answer (List ℕ)
coarse_select_call row count d k =
    asking row (step_fault d ∷ (row_faults (length row) count ++ no_such_one (ones_of (frames row count)) k)) (coarse_select d k (frames row count))
