-- `vectors::main` lends its buffer in its whole length, which is too long to be counted out.
-- Assumes nothing.
use Rattle.std.proofs.Common.{ℕ, List, ◌≡◌, length, refl, sym, subst}
use Rattle.std.proofs.Math.ListN.{replicate}
use Rattle.std.proofs.lemmas.List.{length-replicate}
use Rattle.vectors.proofs.main.Goals as goal

-- A list of zeros is as long as it was made.
zeros_long : (n : ℕ) (l : List ℕ) → l ≡ replicate n 0 → n ≡ length l
zeros_long n l e = subst (λ (z : List ℕ). n ≡ length z) (sym e) (sym (length-replicate n 0))

pub slice_bounds-run-end : goal.slice_bounds-run-end
slice_bounds-run-end c = zeros_long 600000 _ refl
