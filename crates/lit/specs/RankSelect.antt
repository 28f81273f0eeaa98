-- Rank and select over a row of bits, as document 004 defines them for the ones of a bit-string B (SCOPE, Lit frames). Places are counted from 1.
use Rattle.std.specs.Prelude.{ℕ, zero, suc, List, [], ◌∷◌, get_or, take}
use Rattle.bits.specs.Ones.{ones_of}

-- rank(i, B): the number of ones in B[1 … i]
abbrev pub rank_of : ℕ → List ℕ → ℕ
rank_of i row = ones_of (take i row)

-- the places of the ones of a row, in order, where its first bit has the place `first`
unfoldable pub one_places : ℕ → List ℕ → List ℕ
one_places first [] = []
one_places first (zero ∷ later) = one_places (suc first) later
one_places first (suc more ∷ later) = first ∷ one_places (suc first) later

-- select(k, B): the place of the k-th one. Select of 0 is 0, and where there is no k-th one it is 0 too
abbrev pub select_of : ℕ → List ℕ → ℕ
select_of k row = get_or (0 ∷ one_places 1 row) k 0
