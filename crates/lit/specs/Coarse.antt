-- The coarse pair with a step d (SCOPE, Lit frames): what is known of rank and select when only every d-th one is looked at.
use Rattle.std.specs.Prelude.{ℕ, zero, suc, ◌+◌, ◌*◌, ◌/◌, cond, List, eqb}
use Rattle.lit.specs.RankSelect.{rank_of, select_of}

-- d·floor(k/d): the last multiple of the step up to k
abbrev pub step_down : ℕ → ℕ → ℕ
step_down d k = d * (k / d)

-- d·floor(rank/d)
abbrev pub coarse_rank : ℕ → ℕ → List ℕ → ℕ
coarse_rank d i row = step_down d (rank_of i row)

-- the place behind the t-th one; place 1 where t is 0
abbrev pub place_behind : ℕ → List ℕ → ℕ
place_behind zero row = 1
place_behind (suc t) row = select_of (suc t) row + 1

-- with t = d·floor(k/d): the k-th one's place if t is k, place 1 if t is 0, otherwise the t-th one's place plus 1
abbrev pub coarse_select : ℕ → ℕ → List ℕ → ℕ
coarse_select d k row = cond (eqb (step_down d k) k) (select_of k row) (place_behind (step_down d k) row)
