-- Steps that cannot be one: stops at two refusals.
-- Assumes nothing.
use Prim.Native.Nat.{ℕ}
use mathlib.Core.List.{List}
use mathlib.Core.Path.{◌≡◌}
use Rattle.image.specs.Step.{Step, stopped}

pub stopped_apart : {A : Type 0} (a b : ℕ) → (a ≡ b → ⊥) → ◌≡◌ {A = Step (List ℕ)} (stopped a) (stopped b) → A
stopped_apart a b differ e = let same : a ≡ b = cc in absurd (differ same)
