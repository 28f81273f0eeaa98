-- Demand 1 and uniqueness of the calls: what each one's statement says is what its row says, and of the look into a byte what it gives.
-- `Post` is the statement itself, as it stands at the function in src/; the row of frames is only read, and left as it came.
-- Assumes nothing.
use Prim.Native.Nat.{ℕ}
use mathlib.Core.List.{List}
use mathlib.Core.Path.{◌≡◌, refl, sym, ap, ◌∙◌}
use Rattle.std.specs.Prelude.{Result}
use contract.Lifetimes.{Lfts}
use Rattle.refusals.specs.Call.{left_of}
use Rattle.refusals.specs.declared.Refusal.{Refusal}
use Rattle.refusals.specs.Demand1.{Settles, Tells, Promised}
use Rattle.refusals.proofs.Calls.{asks_leaves, promised, tells}
use Rattle.refusals.proofs.OneOutcome.{seen_apart, one_outcome}
use Rattle.lit.specs.declared.Answer.{Answer}
use Rattle.lit.specs.Told.{as_answer}
use Rattle.lit.specs.Calls.{rank_call, select_call, coarse_rank_call, coarse_select_call}
use Rattle.lit.proofs.rank.Reads as rank_reads
use Rattle.lit.proofs.select.Reads as select_reads
use Rattle.lit.proofs.rank_coarse.Reads as rank_coarse_reads
use Rattle.lit.proofs.select_coarse.Reads as select_coarse_reads
use Rattle.lit.proofs.in_byte.Reads as in_byte_reads

-- what each row tells of its refusal, and that the call leaves the row of frames
module _ (row : List ℕ) where
  pub rank_tells : (count i : ℕ) → Tells (λ (r : Answer). r.refusal) (rank_call row count i)
  unfolding rank_call
  rank_tells count i = tells tt refl (λ number. refl)

  pub rank_leaves : (count i : ℕ) → row ≡ left_of (rank_call row count i)
  unfolding rank_call
  rank_leaves count i = asks_leaves (rank_call row count i) refl

  pub select_tells : (count k : ℕ) → Tells (λ (r : Answer). r.refusal) (select_call row count k)
  unfolding select_call
  select_tells count k = tells tt refl (λ number. refl)

  pub select_leaves : (count k : ℕ) → row ≡ left_of (select_call row count k)
  unfolding select_call
  select_leaves count k = asks_leaves (select_call row count k) refl

  pub rank_coarse_tells : (count d i : ℕ) → Tells (λ (r : Answer). r.refusal) (coarse_rank_call row count d i)
  unfolding coarse_rank_call
  rank_coarse_tells count d i = tells tt refl (λ number. refl)

  pub rank_coarse_leaves : (count d i : ℕ) → row ≡ left_of (coarse_rank_call row count d i)
  unfolding coarse_rank_call
  rank_coarse_leaves count d i = asks_leaves (coarse_rank_call row count d i) refl

  pub select_coarse_tells : (count d k : ℕ) → Tells (λ (r : Answer). r.refusal) (coarse_select_call row count d k)
  unfolding coarse_select_call
  select_coarse_tells count d k = tells tt refl (λ number. refl)

  pub select_coarse_leaves : (count d k : ℕ) → row ≡ left_of (coarse_select_call row count d k)
  unfolding coarse_select_call
  select_coarse_leaves count d k = asks_leaves (coarse_select_call row count d k) refl

-- In `a` stand the arguments in their order, the row first.
pub rank_promised : (κs : Lfts 1) → Promised (rank_reads.Post κs) (λ a r. as_answer r) (λ a e. a.0.now)
    (λ a. rank_call a.0.now a.1.0 a.1.1.0) (λ (r : Answer). r.refusal)
rank_promised κs = promised _ _ _ _ (λ a r e p. (p, rank_leaves _ _ _)) _ (λ a. rank_tells _ _ _)

pub select_promised : (κs : Lfts 1) → Promised (select_reads.Post κs) (λ a r. as_answer r) (λ a e. a.0.now)
    (λ a. select_call a.0.now a.1.0 a.1.1.0) (λ (r : Answer). r.refusal)
select_promised κs = promised _ _ _ _ (λ a r e p. (p, select_leaves _ _ _)) _ (λ a. select_tells _ _ _)

pub rank_coarse_promised : (κs : Lfts 1) → Promised (rank_coarse_reads.Post κs) (λ a r. as_answer r) (λ a e. a.0.now)
    (λ a. coarse_rank_call a.0.now a.1.0 a.1.1.0 a.1.1.1.0) (λ (r : Answer). r.refusal)
rank_coarse_promised κs = promised _ _ _ _ (λ a r e p. (p, rank_coarse_leaves _ _ _ _)) _ (λ a. rank_coarse_tells _ _ _ _)

pub select_coarse_promised : (κs : Lfts 1) → Promised (select_coarse_reads.Post κs) (λ a r. as_answer r) (λ a e. a.0.now)
    (λ a. coarse_select_call a.0.now a.1.0 a.1.1.0 a.1.1.1.0) (λ (r : Answer). r.refusal)
select_coarse_promised κs = promised _ _ _ _ (λ a r e p. (p, select_coarse_leaves _ _ _ _)) _ (λ a. select_coarse_tells _ _ _ _)

-- the look into a byte refuses nothing: one place is settled for each byte and k
pub in_byte_settled : (κs : Lfts 0) → Settles (in_byte_reads.Post κs) (λ a r. r) (λ a e. tt {0})
in_byte_settled κs a r r' e e' p p' = (p ∙ sym p', refl)

-- an answer in numbers is the one result that looks so
answer_apart : (r r' : Result ℕ Refusal) → as_answer r ≡ as_answer r' → r ≡ r'
answer_apart =
    seen_apart _ (λ number. record { refusal = number; value = 0 }) (λ answer. answer.refusal) (λ value. refl) (λ number. refl)
    (λ x y e. ap (λ (answer : Answer). answer.value) e)

-- UNIQUENESS of the results themselves, and not of the numbers that they tell alone
module _ (κs : Lfts 1) where
  pub rank_settled : Settles (rank_reads.Post κs) (λ a r. r) (λ a e. a.0.now)
  rank_settled = one_outcome _ _ _ (rank_promised κs).settled (λ a r r' e e' p p'. answer_apart r r')

  pub select_settled : Settles (select_reads.Post κs) (λ a r. r) (λ a e. a.0.now)
  select_settled = one_outcome _ _ _ (select_promised κs).settled (λ a r r' e e' p p'. answer_apart r r')

  pub rank_coarse_settled : Settles (rank_coarse_reads.Post κs) (λ a r. r) (λ a e. a.0.now)
  rank_coarse_settled = one_outcome _ _ _ (rank_coarse_promised κs).settled (λ a r r' e e' p p'. answer_apart r r')

  pub select_coarse_settled : Settles (select_coarse_reads.Post κs) (λ a r. r) (λ a e. a.0.now)
  select_coarse_settled = one_outcome _ _ _ (select_coarse_promised κs).settled (λ a r r' e e' p p'. answer_apart r r')
