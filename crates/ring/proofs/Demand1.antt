-- Demand 1 and uniqueness of each public call: what its statement says is what its row says.
-- `Post` is the statement itself, as it stands at the function in src/lib.rt; a ring that is only read is left as it came.
-- Assumes nothing.
use Prim.Native.Nat.{ℕ}
use mathlib.Core.List.{List}
use mathlib.Core.Path.{◌≡◌, refl, ap}
use Rattle.std.specs.Prelude.{Result}
use contract.Lifetimes.{Lfts}
use Rattle.refusals.specs.Call.{left_of}
use Rattle.refusals.specs.Refused.{number_in}
use Rattle.refusals.specs.declared.Refusal.{Refusal}
use Rattle.refusals.specs.Demand1.{Tells, Promised, Settles}
use Rattle.refusals.proofs.Calls.{asks_leaves, promised, tells}
use Rattle.refusals.proofs.OneOutcome.{number_apart, seen_apart, one_outcome}
use Rattle.ring.specs.declared.Answer.{Answer}
use Rattle.ring.specs.Told.{as_answer}
use Rattle.ring.specs.Calls.{clear_call, read_call, write_call, sum_call}
use Rattle.ring.proofs.clear.Reads as clear_reads
use Rattle.ring.proofs.read.Reads as read_reads
use Rattle.ring.proofs.write.Reads as write-reads
use Rattle.ring.proofs.sum.Reads as sum-reads

-- what each row tells of its refusal, and that a call that only asks leaves the ring
module _ (width slots : ℕ) (ring : List ℕ) where
  pub clear_tells : Tells (λ (n : ℕ). n) (clear_call width slots ring)
  unfolding clear_call
  clear_tells = tells tt refl (λ number. refl)

  pub read_tells : (slot : ℕ) → Tells (λ (r : Answer). r.refusal) (read_call width slots ring slot)
  unfolding read_call
  read_tells slot = tells tt refl (λ number. refl)

  pub read_leaves : (slot : ℕ) → ring ≡ left_of (read_call width slots ring slot)
  unfolding read_call
  read_leaves slot = asks_leaves (read_call width slots ring slot) refl

  pub write_tells : (slot value : ℕ) → Tells (λ (n : ℕ). n) (write_call width slots ring slot value)
  unfolding write_call
  write_tells slot value = tells tt refl (λ number. refl)

  pub sum_tells : (next j : ℕ) → Tells (λ (r : Answer). r.refusal) (sum_call width slots ring next j)
  unfolding sum_call
  sum_tells next j = tells tt refl (λ number. refl)

  pub sum_leaves : (next j : ℕ) → ring ≡ left_of (sum_call width slots ring next j)
  unfolding sum_call
  sum_leaves next j = asks_leaves (sum_call width slots ring next j) refl

-- In `a` stand the width, the slots, the ring and what the call asks, in `e` the same as the call returns.
module _ (κs : Lfts 1) where
  pub clear_promised : Promised (clear_reads.Post κs) (λ a r. number_in r) (λ a e. e.1.1.0.now) (λ a. clear_call a.0 a.1.0 a.1.1.0.now) (λ (n : ℕ). n)
  clear_promised = promised _ _ _ _ (λ a r e p. p) _ (λ a. clear_tells _ _ _)

  pub read_promised : Promised (read_reads.Post κs) (λ a r. as_answer r) (λ a e. a.1.1.0.now)
      (λ a. read_call a.0 a.1.0 a.1.1.0.now a.1.1.1.0) (λ (r : Answer). r.refusal)
  read_promised = promised _ _ _ _ (λ a r e p. (p, read_leaves _ _ _ _)) _ (λ a. read_tells _ _ _ _)

  pub write_promised : Promised (write-reads.Post κs) (λ a r. number_in r) (λ a e. e.1.1.0.now)
      (λ a. write_call a.0 a.1.0 a.1.1.0.now a.1.1.1.0 a.1.1.1.1.0) (λ (n : ℕ). n)
  write_promised = promised _ _ _ _ (λ a r e p. p) _ (λ a. write_tells _ _ _ _ _)

  pub sum_promised : Promised (sum-reads.Post κs) (λ a r. as_answer r) (λ a e. a.1.1.0.now)
      (λ a. sum_call a.0 a.1.0 a.1.1.0.now a.1.1.1.0 a.1.1.1.1.0) (λ (r : Answer). r.refusal)
  sum_promised = promised _ _ _ _ (λ a r e p. (p, sum_leaves _ _ _ _ _)) _ (λ a. sum_tells _ _ _ _ _)

-- an answer in numbers is the one result that looks so
answer_apart : (r r' : Result ℕ Refusal) → as_answer r ≡ as_answer r' → r ≡ r'
answer_apart =
    seen_apart _ (λ number. record { refusal = number; value = 0 }) (λ answer. answer.refusal) (λ value. refl) (λ number. refl) (λ x y e. ap (λ (answer : Answer). answer.value) e)

-- UNIQUENESS of the results themselves, and not of the numbers that they tell alone
module _ (κs : Lfts 1) where
  pub clear_settled : Settles (clear_reads.Post κs) (λ a r. r) (λ a e. e.1.1.0.now)
  clear_settled = one_outcome _ _ _ (clear_promised κs).settled (λ a r r' e e' p p'. number_apart r r')

  pub read_settled : Settles (read_reads.Post κs) (λ a r. r) (λ a e. a.1.1.0.now)
  read_settled = one_outcome _ _ _ (read_promised κs).settled (λ a r r' e e' p p'. answer_apart r r')

  pub write_settled : Settles (write-reads.Post κs) (λ a r. r) (λ a e. e.1.1.0.now)
  write_settled = one_outcome _ _ _ (write_promised κs).settled (λ a r r' e e' p p'. number_apart r r')

  pub sum_settled : Settles (sum-reads.Post κs) (λ a r. r) (λ a e. a.1.1.0.now)
  sum_settled = one_outcome _ _ _ (sum_promised κs).settled (λ a r r' e e' p p'. answer_apart r r')
