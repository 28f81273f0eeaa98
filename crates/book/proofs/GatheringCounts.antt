-- Counts gathered into a carry, one after the other: their sum is added, and it is small.
-- Assumes nothing.
use Rattle.std.proofs.Common.{◌≡◌, ℕ, ◌+◌, ◌*◌, ◌≤◌, false, sum, List, [], ◌∷◌, length, arith}
use Rattle.std.proofs.lemmas.List.Sums.{sum_by-cons}
use Rattle.book.specs.RunOfCounts.{any_above}
use Rattle.book.proofs.LookingAtAll.{above_cons}

-- one after the other
unfoldable pub carry_after : ℕ → List ℕ → ℕ
carry_after carry [] = carry
carry_after carry (count ∷ later) = carry_after (carry + count) later

pub carry_sum : (carry : ℕ) (counts : List ℕ) → carry + sum counts ≡ carry_after carry counts
unfolding carry_after
carry_sum carry [] = omega arith
carry_sum carry (count ∷ later) = omega (arith, sum_by-cons (λ (x : ℕ). x) count later, carry_sum (carry + count) later)

pub sum_small : (counts : List ℕ) → any_above 65535 counts ≡ false → sum counts ≤ 65535 * length counts
sum_small [] none = omega arith
sum_small (count ∷ later) none =
    let k = above_cons 65535 count later none in
    omega (arith, sum_by-cons (λ (x : ℕ). x) count later, sum_small later k.1)
