-- How the code goes along a row in search of the k-th one. Only contracts of private functions speak of this.
use Rattle.std.specs.Prelude.{ℕ, zero, suc, ◌+◌, ◌*◌, ◌<◌, ◌≤◌, List, Option, Some, None, ◌⊎◌, ◌≡◌, length}
use Rattle.bits.specs.Row.{bits}
use Rattle.lit.specs.RankSelect.{rank_of}

-- the first `at` bytes are passed: `before` ones are in them, fewer than k
pub record Passed (row : List ℕ) (k at before : ℕ) : Type 0 where
  pub within : at ≤ length row
  pub ones : before ≡ rank_of (at * 8) (bits row)
  pub fewer : before < k

-- the k-th one lies in the next `size` bytes, or fewer than these are left
pub record Stopped (row : List ℕ) (k size at before : ℕ) : Type 0 where
  pub passed : Passed row k at before
  pub here : (length row < at + size) ⊎ (k ≤ rank_of ((at + size) * 8) (bits row))

-- a place that is 0 where there is none, as an option
abbrev pub found : ℕ → Option ℕ
found zero = None
found (suc place) = Some (suc place)
