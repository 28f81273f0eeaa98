-- There are fewer than 2^k different rows of less than k bits: at most one without bits; and the others are of two kinds, by their first bit, and
-- what follows that bit makes different rows, with a bit less, of each kind.
-- Assumes nothing.
use Prim.Native.Nat.{ℕ, zero, suc, ◌+◌, ◌^◌, ◌≤◌, ◌<◌}
use native.Mathlib.Nat.{two-pow-succ}
use native.Mathlib.Omega.{arith}
use mathlib.Core.Bool.{Bool, true, false, Bool-discrete}
use mathlib.Core.List.{List, [], ◌∷◌}
use mathlib.Core.Path.{◌≡◌, refl, sym, ap₂, subst}
use lib.ListN.{length}
use Rattle.smallest.specs.Counting.{Each, AllDifferent}
use Rattle.smallest.proofs.AllRows.{each_follows}

-- how many are without bits
abbrev empties : List (List Bool) → ℕ
empties [] = 0
empties ([] ∷ rest) = suc (empties rest)
empties ((first ∷ later) ∷ rest) = empties rest

-- what follows this bit, in those that begin with it
abbrev where_same : {bit first : Bool} → Dec (bit ≡ first) → List Bool → List (List Bool) → List (List Bool)
where_same (yes same) later rest = later ∷ rest
where_same (no other) later rest = rest

abbrev behind : Bool → List (List Bool) → List (List Bool)
behind bit [] = []
behind bit ([] ∷ rest) = behind bit rest
behind bit ((first ∷ later) ∷ rest) = where_same (Bool-discrete bit first) later (behind bit rest)

-- one or the other
all_counted : (rows : List (List Bool)) → length rows ≡ empties rows + length (behind false rows) + length (behind true rows)
all_counted [] = refl
all_counted ([] ∷ rest) = omega (arith, all_counted rest)
all_counted ((false ∷ later) ∷ rest) = omega (arith, all_counted rest)
all_counted ((true ∷ later) ∷ rest) = omega (arith, all_counted rest)

-- at most one is without bits
none_empty : (rows : List (List Bool)) → Each (λ row. [] ≡ row → ⊥) rows → empties rows ≡ 0
none_empty [] each = refl
none_empty ([] ∷ rest) each = absurd (each.0 refl)
none_empty ((first ∷ later) ∷ rest) each = none_empty rest each.1

one_empty : (rows : List (List Bool)) → AllDifferent rows → empties rows ≤ 1
one_empty [] different = omega arith
one_empty ([] ∷ rest) different = omega (arith, none_empty rest different.0)
one_empty ((first ∷ later) ∷ rest) different = one_empty rest different.1

-- what holds of each row, holds of each that begins with the bit
module _ (bit : Bool) where
  each_behind : (holds : List Bool → Type 0) (rows : List (List Bool)) → Each holds rows → Each (λ row. holds (bit ∷ row)) (behind bit rows)
  each_behind holds [] each = tt
  each_behind holds ([] ∷ rest) each = each_behind holds rest each.1
  each_behind holds ((first ∷ later) ∷ rest) each = by (Bool-discrete bit first) (each_behind holds rest each.1)
    where
      by : (found : Dec (bit ≡ first)) → Each (λ row. holds (bit ∷ row)) (behind bit rest)
          → Each (λ row. holds (bit ∷ row)) (where_same found later (behind bit rest))
      by (yes same) more = (subst (λ (b : Bool). holds (b ∷ later)) (sym same) each.0, more)
      by (no other) more = more

  behind_different : (rows : List (List Bool)) → AllDifferent rows → AllDifferent (behind bit rows)
  behind_different [] different = tt
  behind_different ([] ∷ rest) different = behind_different rest different.1
  behind_different ((first ∷ later) ∷ rest) different = by (Bool-discrete bit first) (behind_different rest different.1)
    where
      by : (found : Dec (bit ≡ first)) → AllDifferent (behind bit rest) → AllDifferent (where_same found later (behind bit rest))
      by (yes same) more = (
        each_follows (λ row apart alike. apart (ap₂ ◌∷◌ (sym same) alike)) (behind bit rest)
            (each_behind (λ row. first ∷ later ≡ row → ⊥) rest different.0),
        more,
      )
      by (no other) more = more

pub few_rows : (k : ℕ) (rows : List (List Bool)) → Each (λ row. length row < k) rows → AllDifferent rows → length rows < 2 ^ k
few_rows zero [] short different = omega arith
few_rows zero (row ∷ rest) short different = absurd (omega (arith, short.0))
few_rows (suc k) rows short different =
    let less : (bit : Bool) → length (behind bit rows) < 2 ^ k =
    λ bit. few_rows k (behind bit rows)
    (each_follows (λ row h. omega (arith, h)) (behind bit rows) (each_behind bit (λ row. length row < suc k) rows short))
    (behind_different bit rows different) in
    omega (arith, all_counted rows, one_empty rows different, less false, less true, two-pow-succ k)
