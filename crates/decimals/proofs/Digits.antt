-- Decimal digits: one for a number below 10, and one more than its tenth has for any other; at most 20 for 64 bits.
-- Assumes nothing.
use Prim.Native.Nat.{ℕ, zero, suc, ◌/◌, ◌%◌, ◌^◌, ◌≤◌, ◌<◌}
use native.Mathlib.Nat.{pow-suc}
use native.Mathlib.Decide.{dec_lt}
use native.Mathlib.Omega.{arith}
use mathlib.Core.List.{List, [], ◌∷◌, ◌++◌}
use mathlib.Core.Path.{◌≡◌, refl, ap}
use borrow.Author.Tests.{lt-ltb, le-ltb}
use lib.ListN.{length, length-append}
use Rattle.decimals.specs.Decimal.{digit_byte, decimal_within, decimal}

-- more steps than the number counts change nothing
enough : (s t n : ℕ) → n ≤ s → n ≤ t → decimal_within s n ≡ decimal_within t n
unfolding decimal_within
enough zero zero n hs ht = refl
enough zero (suc t) n hs ht = let e : n ≡ 0 = omega arith in rw e
enough (suc s) zero n hs ht = let e : n ≡ 0 = omega arith in rw e
enough (suc s) (suc t) n hs ht = by (dec_lt n 10) (λ big. enough s t (n / 10) (omega arith) (omega arith))
  where
    by : Dec (n < 10) → (10 ≤ n → decimal_within s (n / 10) ≡ decimal_within t (n / 10))
        → decimal_within (suc s) n ≡ decimal_within (suc t) n
    by (yes small) same = rw (lt-ltb n 10 small)
    by (no large) same = rw (le-ltb n 10 (omega arith), same (omega arith))

pub decimal_small : (n : ℕ) → n < 10 → decimal n ≡ digit_byte n ∷ []
unfolding decimal decimal_within
decimal_small zero h = refl
decimal_small (suc n) h = rw (lt-ltb (suc n) 10 h)

pub decimal_large : (n : ℕ) → 10 ≤ n → decimal n ≡ decimal (n / 10) ++ digit_byte (n % 10) ∷ []
unfolding decimal decimal_within
decimal_large zero h = absurd (omega arith)
decimal_large (suc n) h =
    rw (le-ltb (suc n) 10 h)
    (ap (λ (l : List ℕ). l ++ digit_byte (suc n % 10) ∷ []) (enough n (suc n / 10) (suc n / 10) (omega arith) (omega arith)))

-- a number below 10^k has at most k digits
pub decimal_length : (k n : ℕ) → n < 10 ^ suc k → length (decimal n) ≤ suc k
decimal_length zero n h = rw (decimal_small n h) (omega arith)
decimal_length (suc k) n h = by (dec_lt n 10) (decimal_length k (n / 10) (omega (arith, pow-suc 10 (suc k))))
  where
    by : Dec (n < 10) → length (decimal (n / 10)) ≤ suc k → length (decimal n) ≤ suc (suc k)
    by (yes small) shorter = rw (decimal_small n small) (omega arith)
    by (no large) shorter =
        rw (decimal_large n (omega arith), length-append (decimal (n / 10)) (digit_byte (n % 10) ∷ [])) (omega arith)

-- so 20 at most, for a number of 64 bits
pub decimal_20 : (n : ℕ) → n < 2 ^ 64 → length (decimal n) ≤ 20
decimal_20 n h = decimal_length 19 n (omega arith)
