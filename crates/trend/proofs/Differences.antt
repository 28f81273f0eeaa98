-- A difference of two natural numbers, as a number with a sign: how two of them compare, and that it fits the width of its parts.
-- Every law here leaves what is to be shown to natural numbers alone.
-- Assumes nothing.
use Prim.Native.Nat.{ℕ, zero, suc, ◌+◌, ◌-◌, ◌^◌, ◌≤◌, ◌<◌}
use native.Mathlib.Omega.{arith}
use mathlib.Core.Bool.{Bool, true, false}
use mathlib.Core.Logic.{◌⊎◌, inl, inr}
use mathlib.Core.Path.{◌≡◌, refl, sym, ap, ◌∙◌}
use borrow.Author.Tests.{le-ltb, lt-ltb}
use lib.Dec.{le→leb, leb→le}
use lib.IntN.{ℤ, pos, negsuc, neg_ℤ, ◌+ℤ◌, ◌-ℤ◌, +ℤ_assoc, +ℤ_comm, +ℤ_idl, +ℤ_idr}
use lib.Signed.{◌≤ℤ◌, ◌<ℤ◌, le_z_yes, lt_z, lt_z_yes, lt_z_no, clash_ℤ}
use mir.Syntax.{Width}
use mir.Val.{hbits, SFits, to_z, of_z}
use mir.ValLaws.{to_z_pos, to_z-of_z}
use Rattle.book.proofs.Promises.{le_or_lt}

-- what is left over on the one side or on the other: the difference is that number, or below 0 by it
difference_cases : (P : ℤ → Type 0) (a b : ℕ) → ((k : ℕ) → a ≡ b + k → P (pos k)) → ((k : ℕ) → b ≡ a + suc k → P (negsuc k))
    → P (pos a -ℤ pos b)
difference_cases P a zero over under = over (a + 0) (omega arith)
difference_cases P a (suc b) over under = by (le_or_lt (suc b) a)
  where
    by : (suc b ≤ a) ⊎ (a < suc b) → P (pos a -ℤ pos (suc b))
    by (inl enough) = rw (le-ltb a (suc b) enough) (over (a - suc b) (omega arith))
    by (inr few) = rw (lt-ltb a (suc b) few) (under (suc b - suc a) (omega arith))

module _ (a b c d : ℕ) where
  -- TWO DIFFERENCES compare as the sums across do: not above …
  difference_le : a + d ≤ c + b → (pos a -ℤ pos b) ≤ℤ (pos c -ℤ pos d)
  difference_le h =
      difference_cases (λ x. x ≤ℤ (pos c -ℤ pos d)) a b
      (λ k ea. difference_cases (λ y. pos k ≤ℤ y) c d (λ m ec. le_z_yes (le→leb k m (omega arith))) (λ m ed. absurd (omega arith)))
      (λ k eb. difference_cases (λ y. negsuc k ≤ℤ y) c d (λ m ec. le_z_yes tt) (λ m ed. le_z_yes (le→leb m k (omega arith))))

  difference_le_back : (pos a -ℤ pos b) ≤ℤ (pos c -ℤ pos d) → a + d ≤ c + b
  difference_le_back =
      difference_cases (λ x. x ≤ℤ (pos c -ℤ pos d) → a + d ≤ c + b) a b
      (λ k ea. difference_cases (λ y. pos k ≤ℤ y → a + d ≤ c + b) c d
      (λ m ec h. (let le = leb→le k m h.le in omega arith)) (λ m ed h. absurd h.le))
      (λ k eb. difference_cases (λ y. negsuc k ≤ℤ y → a + d ≤ c + b) c d
      (λ m ec h. omega arith) (λ m ed h. (let le = leb→le m k h.le in omega arith)))

module _ (a b c d : ℕ) where
  -- … and below
  pub difference_lt : a + d < c + b → (pos a -ℤ pos b) <ℤ (pos c -ℤ pos d)
  difference_lt less = by (lt_z (pos a -ℤ pos b) (pos c -ℤ pos d)) refl
    where
      by : (test : Bool) → lt_z (pos a -ℤ pos b) (pos c -ℤ pos d) ≡ test → (pos a -ℤ pos b) <ℤ (pos c -ℤ pos d)
      by true e = lt_z_yes (rw e tt)
      by false e = absurd (omega (arith, difference_le_back c d a b (lt_z_no (rw e tt))))

  difference_lt_back : (pos a -ℤ pos b) <ℤ (pos c -ℤ pos d) → a + d < c + b
  difference_lt_back less = by (le_or_lt (c + b) (a + d))
    where
      by : (c + b ≤ a + d) ⊎ (a + d < c + b) → a + d < c + b
      by (inl not-less) = clash_ℤ less (difference_le c d a b not-less)
      by (inr h) = h

-- they are the same where the sums across are
pub difference_same : (a b c d : ℕ) → a + d ≡ c + b → pos a -ℤ pos b ≡ pos c -ℤ pos d
difference_same a b c d h =
    difference_cases (λ x. x ≡ pos c -ℤ pos d) a b
    (λ k ea. difference_cases (λ y. pos k ≡ y) c d (λ m ec. ap pos (omega arith)) (λ m ed. absurd (omega arith)))
    (λ k eb. difference_cases (λ y. negsuc k ≡ y) c d (λ m ec. absurd (omega arith)) (λ m ed. ap negsuc (omega arith)))

-- A NATURAL NUMBER that is added goes into the number that is taken from …
difference_plus : (c d e : ℕ) → (pos c -ℤ pos d) +ℤ pos e ≡ pos (c + e) -ℤ pos d
difference_plus c d e =
    +ℤ_assoc (pos c) (neg_ℤ (pos d)) (pos e)
    ∙ ap (λ x. pos c +ℤ x) (+ℤ_comm (neg_ℤ (pos d)) (pos e)) ∙ sym (+ℤ_assoc (pos c) (pos e) (neg_ℤ (pos d)))

-- … so a difference is above another one by no more than e where the sums across say so
pub difference_within : (a b c d e : ℕ) → a + d ≤ c + e + b → (pos a -ℤ pos b) ≤ℤ ((pos c -ℤ pos d) +ℤ pos e)
difference_within a b c d e h = rw (difference_plus c d e) (difference_le a b (c + e) d h)

-- above k, or below −k, is said of a difference in natural numbers too
pub difference_above : (a b k : ℕ) → pos k <ℤ (pos a -ℤ pos b) → k + b < a
difference_above a b k h = omega (arith, difference_lt_back k 0 a b (rw (+ℤ_idr (pos k)) h))

pub difference_below : (a b k : ℕ) → (pos a -ℤ pos b) <ℤ neg_ℤ (pos k) → a + k < b
difference_below a b k h = omega (arith, difference_lt_back a b 0 k (rw (+ℤ_idl (neg_ℤ (pos k))) h))

-- A WIDTH that holds both parts, with a sign, holds their difference …
difference_fits : (w : Width) (a b : ℕ) → a < 2 ^ hbits w → b ≤ 2 ^ hbits w → SFits w (pos a -ℤ pos b)
difference_fits w a b ha hb =
    difference_cases (λ z. SFits w z) a b (λ k e. record { sfits = omega arith }) (λ k e. record { sfits = omega arith })

-- … and as the code reads, takes and writes it, it is that difference
module _ (w : Width) (a b : ℕ) (ha : a < 2 ^ hbits w) (hb : b < 2 ^ hbits w) where
  read_parts : to_z w a -ℤ to_z w b ≡ pos a -ℤ pos b
  read_parts = λ i. to_z_pos w a ha i -ℤ to_z_pos w b hb i

  fits : SFits w (pos a -ℤ pos b)
  fits = difference_fits w a b ha (omega arith)

  pub taken_fits : SFits w (to_z w a -ℤ to_z w b)
  taken_fits = rw read_parts fits

  pub taken_is : to_z w (of_z w (to_z w a -ℤ to_z w b)) ≡ pos a -ℤ pos b
  taken_is = ap (λ z. to_z w (of_z w z)) read_parts ∙ to_z-of_z w (pos a -ℤ pos b) fits
