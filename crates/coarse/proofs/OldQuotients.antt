-- The quotients of the newest blocks as a list: its length, what stands in it, that none is above 1 where a slot has one bit, and the list in parts.
-- Assumes nothing.
use Prim.Native.Nat.{ℕ, zero, suc, ◌-◌, ◌^◌, ◌≤◌, ◌<◌}
use native.Mathlib.Omega.{arith}
use mathlib.Core.Bool.{false}
use mathlib.Core.List.{List, ◌++◌}
use mathlib.Core.Path.{◌≡◌, refl, ap}
use lib.ListN.{length, get_or, take, drop, take-append-drop}
use Rattle.ring.specs.Newest.{newest}
use Rattle.ring.proofs.Promises.{field_lt}
use Rattle.book.specs.declared.Book.{Book}
use Rattle.book.specs.Record.{slots_of, width_of, held_in}
use Rattle.book.specs.RunOfCounts.{any_above}
use Rattle.book.proofs.Promises.{above_empty, above_join}
use Rattle.coarse.specs.Quotients.{quotients}

module _ (book : Book) (ring : List ℕ) where
  -- those of j blocks are j
  pub length_quotients : (j : ℕ) → length (quotients book ring j) ≡ j
  unfolding quotients
  length_quotients zero = refl
  length_quotients (suc j) = ap suc (length_quotients j)

  -- at place i stands that of the block i newer than the oldest
  pub quotient_at : (j i : ℕ) → i < j → get_or (quotients book ring j) i 0 ≡ held_in book ring (newest (slots_of book) book.head (j - i))
  unfolding quotients
  quotient_at zero i below = absurd (omega arith)
  quotient_at (suc j) zero below = let e : suc j - 0 ≡ suc j = omega arith in rw e
  quotient_at (suc j) (suc i) below = let e : suc j - suc i ≡ j - i = omega arith in rw e (quotient_at j i (omega arith))

  -- without the first n of them they are those of n blocks fewer
  drop_quotients : (j n : ℕ) → n ≤ j → drop n (quotients book ring j) ≡ quotients book ring (j - n)
  unfolding quotients
  drop_quotients j zero within = let e : j - 0 ≡ j = omega arith in rw e
  drop_quotients zero (suc n) within = absurd (omega arith)
  drop_quotients (suc j) (suc n) within = let e : suc j - suc n ≡ j - n = omega arith in rw e (drop_quotients j n (omega arith))

  pub quotients_apart : (j n : ℕ) → n ≤ j → take n (quotients book ring j) ++ quotients book ring (j - n) ≡ quotients book ring j
  quotients_apart j n within =
      rw (drop_quotients j n within) at (take-append-drop n (quotients book ring j))

  -- none is above 1 where a slot has one bit
  pub quotients_small : width_of book ≡ 1 → (j : ℕ) → any_above 1 (quotients book ring j) ≡ false
  unfolding quotients
  quotients_small thin zero = above_empty 1
  quotients_small thin (suc j) =
      let slot = newest (slots_of book) book.head (suc j) in
      let bit : held_in book ring slot ≤ 1 = omega (arith, field_lt (width_of book) ring slot, ap (λ (w : ℕ). 2 ^ w) thin) in
      above_join 1 (held_in book ring slot) (quotients book ring j) bit (quotients_small thin j)
