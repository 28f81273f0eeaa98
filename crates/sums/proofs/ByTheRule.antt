-- What the rule reads for a run of slots: parts that lie in order, at most 63 single fields and 2 stored sums; for the newest slots at most 63
-- and 3.
-- Assumes nothing.
use Prim.Native.Nat.{ℕ, zero, suc, ◌-◌, ◌≤◌, ◌<◌}
use native.Mathlib.Omega.{arith}
use mathlib.Core.Bool.{Bool, true, false, cond}
use mathlib.Core.Logic.{◌⊎◌, inl, inr}
use mathlib.Core.Path.{◌≡◌, refl}
use borrow.Author.Tests.{ltb-true, ltb-false}
use lib.Dec.{ltb}
use Rattle.book.proofs.Promises.{le_or_lt}
use Rattle.sums.specs.declared.rule.Parts.{Parts}
use Rattle.sums.specs.Rule.{end_after, end_before, parts_of, fields_of, read_at, sums_of, near_from, far_from, near, far, fields_read, sums_read}
use Rattle.sums.proofs.Ends.{end_after_lem, end_before_lem}

-- the two cases of a run: stored sums between single fields, or single fields alone
module _ (slots a b : ℕ) where
  abbrev pub with_sums : Parts
  with_sums = record { front = end_after slots a; plus = end_before slots b; minus = end_after slots a; back = end_before slots b }

  abbrev pub alone : Parts
  alone = record { front = b; plus = 0; minus = 0; back = b }

  pub parts_cases : (P : Parts → Type 0) → (end_after slots a < end_before slots b → P with_sums) → (end_before slots b ≤ end_after slots a → P alone)
      → P (parts_of slots a b)
  unfolding parts_of
  parts_cases P some none = by (ltb (end_after slots a) (end_before slots b)) refl
    where
      by : (t : Bool) → ltb (end_after slots a) (end_before slots b) ≡ t → P (cond t with_sums alone)
      by true e = some (ltb-true (end_after slots a) (end_before slots b) e)
      by false e = none (ltb-false (end_after slots a) (end_before slots b) e)

read_le : (end : ℕ) → read_at end ≤ 1
read_le zero = omega arith
read_le (suc end) = omega arith

read_0 : (end : ℕ) → end ≡ 0 → read_at end ≡ 0
read_0 zero e = refl
read_0 (suc end) e = absurd (omega arith)

-- WHAT IS READ for a run from a up to b
pub record Reads (slots a b : ℕ) (parts : Parts) : Type 0 where
  pub begins : a ≤ parts.front
  pub in_order : parts.front ≤ parts.back
  pub ends : parts.back ≤ b
  pub plus_within : parts.plus ≤ slots
  pub minus_within : parts.minus ≤ slots
  -- single fields: 63 at the most, and no more than there are; 31 from slot 0 on, and 32 up to the last slot
  pub few : fields_of a b parts ≤ 63
  pub no_more : fields_of a b parts ≤ b - a
  pub few_from_0 : a ≡ 0 → fields_of a b parts ≤ 31
  pub few_to_last : b ≡ slots → fields_of a b parts ≤ 32
  -- stored sums: 2 at the most, 1 from slot 0 on, and none for no slots
  pub two : sums_of parts ≤ 2
  pub one_from_0 : a ≡ 0 → sums_of parts ≤ 1
  pub none_for_none : b ≤ a → sums_of parts ≡ 0

pub what_is_read : (slots a b : ℕ) → a ≤ b → b ≤ slots → Reads slots a b (parts_of slots a b)
what_is_read slots a b le within =
    let A = end_after_lem slots a (omega arith) in
    let E = end_before_lem slots b within in
    parts_cases slots a b (Reads slots a b)
    (λ lt. record {
      begins = A.low;
      in_order = omega arith;
      ends = E.high;
      plus_within = omega (arith, E.high);
      minus_within = A.high;
      few = omega (arith, A.close, A.low, E.close, E.high);
      no_more = omega (arith, A.low, E.high);
      few_from_0 = λ q. omega (arith, A.at_0 q, E.close);
      few_to_last = λ q. omega (arith, A.close, E.at_last q);
      two = omega (arith, read_le (end_after slots a), read_le (end_before slots b));
      one_from_0 = λ q. omega (arith, read_le (end_before slots b), read_0 (end_after slots a) (A.at_0 q));
      none_for_none = λ q. absurd (omega (arith, A.low, E.high));
    })
    (λ ge. record {
      begins = le;
      in_order = omega arith;
      ends = omega arith;
      plus_within = omega arith;
      minus_within = omega arith;
      few = omega (arith, A.close, E.close);
      no_more = omega arith;
      few_from_0 = λ q. omega (arith, A.at_0 q, E.close);
      few_to_last = λ q. omega (arith, A.close, E.at_last q);
      two = omega arith;
      one_from_0 = λ q. omega arith;
      none_for_none = λ q. refl;
    })

-- THE NEWEST SLOTS (promise C-16.4)
module _ (slots head j : ℕ) (below : head < slots) (most : j ≤ slots) where
  pub near_reads : Reads slots (near_from slots head j) head (near slots head j)
  near_reads = what_is_read slots (head - j) head (omega arith) (omega arith)

  pub far_reads : Reads slots (far_from slots head j) slots (far slots head j)
  far_reads = what_is_read slots (slots - (j - head)) slots (omega arith) (omega arith)

  -- at most 63 single fields …
  pub fields_few : fields_read slots head j ≤ 63
  unfolding fields_read
  fields_few = by (le_or_lt j head)
    where
      by : (j ≤ head) ⊎ (head < j) → fields_read slots head j ≤ 63
      by (inl inside) =
          let none : slots - (slots - (j - head)) ≡ 0 = omega arith in
          omega (arith, near_reads.few, far_reads.no_more)
      by (inr beyond) = omega (arith, near_reads.few_from_0 (omega arith), far_reads.few_to_last refl)

  -- … and 3 stored sums
  pub sums_few : sums_read slots head j ≤ 3
  unfolding sums_read
  sums_few = by (le_or_lt j head)
    where
      by : (j ≤ head) ⊎ (head < j) → sums_read slots head j ≤ 3
      by (inl inside) = omega (arith, near_reads.two, far_reads.none_for_none (omega arith))
      by (inr beyond) = omega (arith, near_reads.one_from_0 (omega arith), far_reads.two)
