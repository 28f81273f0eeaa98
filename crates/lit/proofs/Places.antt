-- The places of the ones of a row: how many there are, those of two rows one behind the other, and those counted from a later place.
-- Assumes nothing.
use Prim.Native.Nat.{ℕ, zero, suc, ◌+◌, ◌<◌}
use native.Mathlib.Nat.{add-zero, add-suc, suc-add}
use native.Mathlib.Omega.{arith}
use mathlib.Core.List.{List, [], ◌∷◌, ◌++◌}
use mathlib.Core.Path.{◌≡◌, refl, sym, ap, ◌∙◌}
use lib.ListN.{length, get_or}
use Rattle.bits.specs.Ones.{ones_of}
use Rattle.bits.proofs.Promises.{ones_none, ones_dark, ones_lit}
use Rattle.lit.specs.RankSelect.{one_places}

-- a row has as many places as ones
pub length_places : (first : ℕ) (row : List ℕ) → length (one_places first row) ≡ ones_of row
unfolding one_places
length_places first [] = sym ones_none
length_places first (zero ∷ later) = length_places (suc first) later ∙ sym (ones_dark later)
length_places first (suc more ∷ later) = ap suc (length_places (suc first) later) ∙ sym (ones_lit more later)

-- one step of a list counts as one more place before what follows
step_on : (first : ℕ) (a b : List ℕ) → one_places (suc first + length a) b ≡ one_places (first + suc (length a)) b
step_on first a b = ap (λ (n : ℕ). one_places n b) (suc-add first (length a) ∙ sym (add-suc first (length a)))

-- the places of two rows one behind the other
pub places_append : (first : ℕ) (a b : List ℕ) → one_places first (a ++ b) ≡ one_places first a ++ one_places (first + length a) b
unfolding one_places
places_append first [] b = sym (ap (λ (n : ℕ). one_places n b) (add-zero first))
places_append first (zero ∷ a) b = places_append (suc first) a b ∙ ap (λ (l : List ℕ). one_places (suc first) a ++ l) (step_on first a b)
places_append first (suc more ∷ a) b =
    ap (λ (l : List ℕ). first ∷ l) (places_append (suc first) a b)
    ∙ ap (λ (l : List ℕ). first ∷ one_places (suc first) a ++ l) (step_on first a b)

-- where the first bit has a place m higher, each place is m higher
pub places_from : (m first : ℕ) (row : List ℕ) (j : ℕ) → j < ones_of row
    → get_or (one_places (m + first) row) j 0 ≡ m + get_or (one_places first row) j 0
unfolding one_places
places_from m first [] j h = absurd (omega (arith, ones_none))
places_from m first (zero ∷ later) j h =
    ap (λ (n : ℕ). get_or (one_places n later) j 0) (sym (add-suc m first))
    ∙ places_from m (suc first) later j (omega (arith, ones_dark later))
places_from m first (suc more ∷ later) zero h = refl
places_from m first (suc more ∷ later) (suc j) h =
    ap (λ (n : ℕ). get_or (one_places n later) j 0) (sym (add-suc m first))
    ∙ places_from m (suc first) later j (omega (arith, ones_lit more later))
