-- The number of ones of a row: bit by bit, part by part, and never more than the bits.
-- Assumes nothing.
use Prim.Native.Nat.{ℕ, zero, suc, ◌+◌, ◌≤◌}
use native.Mathlib.Omega.{arith}
use mathlib.Core.List.{List, [], ◌∷◌, ◌++◌}
use mathlib.Core.Path.{◌≡◌, refl}
use lib.ListN.{length}
use Rattle.bits.specs.Ones.{ones_of}

-- no bits have no ones
pub ones_none : ones_of [] ≡ 0
unfolding ones_of
ones_none = refl

-- a bit that is 0 adds none
pub ones_dark : (later : List ℕ) → ones_of (0 ∷ later) ≡ ones_of later
unfolding ones_of
ones_dark later = refl

-- a bit that is not 0 adds one
pub ones_lit : (more : ℕ) (later : List ℕ) → ones_of (suc more ∷ later) ≡ suc (ones_of later)
unfolding ones_of
ones_lit more later = refl

-- two rows one behind the other have the ones of both
pub ones_append : (a b : List ℕ) → ones_of (a ++ b) ≡ ones_of a + ones_of b
unfolding ones_of
ones_append [] b = omega arith
ones_append (zero ∷ a) b = ones_append a b
ones_append (suc more ∷ a) b = omega (arith, ones_append a b)

-- there are no more ones than bits
pub ones_le : (row : List ℕ) → ones_of row ≤ length row
unfolding ones_of
ones_le [] = omega arith
ones_le (zero ∷ later) = omega (arith, ones_le later)
ones_le (suc more ∷ later) = omega (arith, ones_le later)
