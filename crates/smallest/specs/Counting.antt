-- So many different things (SCOPE, No smaller book): a list in which no two are the same.
use Rattle.std.specs.Prelude.{ℕ, zero, suc, Bool, true, false, List, [], ◌∷◌, ◌++◌, map, ◌≡◌}

-- `holds` is so of every one in the list
abbrev pub Each : {A : Type 0} → (A → Type 0) → List A → Type 0
Each holds [] = Unit {0}
Each holds (a ∷ later) = holds a × Each holds later

-- no two are the same
abbrev pub AllDifferent : {A : Type 0} → List A → Type 0
AllDifferent [] = Unit {0}
AllDifferent (a ∷ later) = Each (λ b. a ≡ b → ⊥) later × AllDifferent later

-- all rows of so many bits
unfoldable pub all_rows : ℕ → List (List Bool)
all_rows zero = [] ∷ []
all_rows (suc k) = map (λ row. false ∷ row) (all_rows k) ++ map (λ row. true ∷ row) (all_rows k)
