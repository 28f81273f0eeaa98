-- Rank: part by part, up to the whole row, and how it grows.
-- Assumes nothing.
use Prim.Native.Nat.{ℕ, ◌+◌, ◌-◌, ◌≤◌}
use native.Mathlib.Nat.{sub-zero}
use native.Mathlib.Omega.{arith}
use mathlib.Core.List.{List}
use mathlib.Core.Path.{◌≡◌, sym, ap, ◌∙◌}
use lib.ListN.{take, drop, length-take, take-append-drop}
use lib.Seq.{take-add, take-take}
use Rattle.bits.specs.Row.{bits}
use Rattle.bits.specs.Ones.{ones_of, ones_between}
use Rattle.bits.proofs.Promises.{ones_append, ones_le}
use Rattle.lit.specs.Frames.{frames}
use Rattle.lit.specs.RankSelect.{rank_of}

-- the ones of the first m + n bits are those of the first m and those of the n behind them
pub rank_join : (m n : ℕ) (row : List ℕ) → rank_of (m + n) row ≡ rank_of m row + rank_of n (drop m row)
rank_join m n row = ap ones_of (take-add m n row) ∙ ones_append (take m row) (take n (drop m row))

-- what is passed and what is left make the whole
pub rank_rest : (n : ℕ) (row : List ℕ) → ones_of row ≡ rank_of n row + ones_of (drop n row)
rank_rest n row = ap ones_of (sym (take-append-drop n row)) ∙ ones_append (take n row) (drop n row)

-- rank grows with the place
pub rank_grows : (row : List ℕ) {m n : ℕ} → m ≤ n → rank_of m row ≤ rank_of n row
rank_grows row {m} {n} h =
    let e : m + (n - m) ≡ n = omega arith in
    omega (arith, rank_join m (n - m) row, ap (λ (k : ℕ). rank_of k row) e)

-- and is never more than the place
pub rank_le : (n : ℕ) (row : List ℕ) → rank_of n row ≤ n
rank_le n row = omega (arith, ones_le (take n row), length-take n row)

-- the ones between the first bit and bit i are the rank of i among the frames
pub rank_of_bits : (row : List ℕ) (count i : ℕ) → i ≤ count → ones_between 0 i row ≡ rank_of i (frames row count)
rank_of_bits row count i within =
    ap (λ (n : ℕ). rank_of n (bits row)) (sub-zero i) ∙ sym (ap ones_of (take-take i count (bits row) within))
