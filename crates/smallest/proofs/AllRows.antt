-- All rows of k bits: each has k bits, no two are the same, and there are 2^k.
-- Assumes nothing.
use Prim.Native.Nat.{ℕ, zero, suc, ◌^◌}
use native.Mathlib.Nat.{two-pow-succ}
use native.Mathlib.Omega.{arith}
use mathlib.Core.Bool.{Bool, true, false, false≢true}
use mathlib.Core.List.{List, [], ◌∷◌, ◌++◌, map, head-eq_of_cons-eq, tail-eq_of_cons-eq}
use mathlib.Core.Path.{◌≡◌, refl, ap, ◌∙◌}
use lib.ListN.{length, length-append, length-map}
use Rattle.smallest.specs.Counting.{Each, AllDifferent, all_rows}

-- EACH of them, what follows from that, …
pub each_follows : {A : Type 0} {holds then : A → Type 0} → ((a : A) → holds a → then a) → (all : List A) → Each holds all → Each then all
each_follows so [] each = tt
each_follows so (a ∷ later) each = (so a each.0, each_follows so later each.1)

module _ {A : Type 0} (holds : A → Type 0) where
  -- … of two lists that are joined, …
  each_joined : (one other : List A) → Each holds one → Each holds other → Each holds (one ++ other)
  each_joined [] other each more = more
  each_joined (a ∷ later) other each more = (each.0, each_joined later other each.1 more)

  -- … and of what is made of them
  pub each_made : {B : Type 0} (make : B → A) (all : List B) → Each (λ b. holds (make b)) all → Each holds (map make all)
  each_made make [] each = tt
  each_made make (b ∷ later) each = (each.0, each_made make later each.1)

-- NO TWO THE SAME, of two lists that are joined, where none of the one is among the other
joined_different : {A : Type 0} (one other : List A) → AllDifferent one → AllDifferent other → Each (λ a. Each (λ b. a ≡ b → ⊥) other) one
    → AllDifferent (one ++ other)
joined_different [] other different more apart = more
joined_different (a ∷ later) other different more apart = (
  each_joined (λ b. a ≡ b → ⊥) later other different.0 apart.0,
  joined_different later other different.1 more apart.1,
)

-- and of what is made of them, where the same is made of no two for which this holds
module _ {A B : Type 0} (holds : A → Type 0) (make : A → B) (apart : (a b : A) → holds a → holds b → make a ≡ make b → a ≡ b) where
  others_made : (a : A) → holds a → (all : List A) → Each holds all → Each (λ b. a ≡ b → ⊥) all → Each (λ b. make a ≡ make b → ⊥) all
  others_made a h [] each different = tt
  others_made a h (b ∷ later) each different =
      ((λ same. different.0 (apart a b h each.0 same)), others_made a h later each.1 different.1)

  pub made_different : (all : List A) → Each holds all → AllDifferent all → AllDifferent (map make all)
  made_different [] each different = tt
  made_different (a ∷ later) each different = (
    each_made (λ b. make a ≡ b → ⊥) make later (others_made a each.0 later each.1 different.0),
    made_different later each.1 different.1,
  )

-- ROWS of one bit more
abbrev with_bit : Bool → List Bool → List Bool
with_bit bit row = bit ∷ row

longer : (k : ℕ) (bit : Bool) (rows : List (List Bool)) → Each (λ row. length row ≡ k) rows
    → Each (λ row. length row ≡ suc k) (map (with_bit bit) rows)
longer k bit rows long = each_made (λ row. length row ≡ suc k) (with_bit bit) rows (each_follows (λ row e. ap suc e) rows long)

longer_different : (bit : Bool) (rows : List (List Bool)) → AllDifferent rows → AllDifferent (map (with_bit bit) rows)
longer_different bit rows = made_different (λ row. Unit {0}) (with_bit bit) (λ a b h k same. tail-eq_of_cons-eq same) rows (all_so rows)
  where
    all_so : (all : List (List Bool)) → Each (λ row. Unit {0}) all
    all_so [] = tt
    all_so (row ∷ later) = (tt, all_so later)

-- those that begin with another bit are others
other_kind : (row : List Bool) (rows : List (List Bool)) → Each (λ b. false ∷ row ≡ b → ⊥) (map (with_bit true) rows)
other_kind row [] = tt
other_kind row (b ∷ later) = ((λ same. false≢true (head-eq_of_cons-eq same)), other_kind row later)

kinds_apart : (rows more : List (List Bool)) → Each (λ a. Each (λ b. a ≡ b → ⊥) (map (with_bit true) more)) (map (with_bit false) rows)
kinds_apart [] more = tt
kinds_apart (row ∷ later) more = (other_kind row more, kinds_apart later more)

-- ALL ROWS
pub rows_long : (k : ℕ) → Each (λ row. length row ≡ k) (all_rows k)
unfolding all_rows
rows_long zero = (refl, tt)
rows_long (suc k) =
    let rows = all_rows k in
    each_joined (λ row. length row ≡ suc k) (map (with_bit false) rows) (map (with_bit true) rows) (longer k false rows (rows_long k))
    (longer k true rows (rows_long k))

pub rows_many : (k : ℕ) → length (all_rows k) ≡ 2 ^ k
unfolding all_rows
rows_many zero = refl
rows_many (suc k) =
    length-append (map (with_bit false) (all_rows k)) (map (with_bit true) (all_rows k))
    ∙ omega (arith, length-map (all_rows k) (with_bit false), length-map (all_rows k) (with_bit true), rows_many k, two-pow-succ k)

pub rows_different : (k : ℕ) → AllDifferent (all_rows k)
unfolding all_rows
rows_different zero = (tt, tt)
rows_different (suc k) =
    let rows = all_rows k in
    joined_different (map (with_bit false) rows) (map (with_bit true) rows) (longer_different false rows (rows_different k))
    (longer_different true rows (rows_different k)) (kinds_apart rows rows)
