-- Demand 1 and uniqueness of the score, and of the score under a mask. `Post` is the statement itself, as it stands at the function in
-- src/lib.rt; of images and a mask that are only lent to be read, no byte can change.
-- Assumes nothing.
use Prim.Native.Nat.{ℕ}
use mathlib.Core.List.{List}
use mathlib.Core.Path.{◌≡◌, refl, ap}
use Rattle.std.specs.Prelude.{Result}
use contract.Lifetimes.{Lfts}
use Rattle.refusals.specs.Call.{left_of}
use Rattle.refusals.specs.declared.Refusal.{Refusal}
use Rattle.refusals.specs.Demand1.{Tells, Promised, Settles}
use Rattle.refusals.proofs.Calls.{asks_leaves, promised}
use Rattle.refusals.proofs.OneOutcome.{seen_apart, one_outcome}
use Rattle.image.specs.Reading.{numbers_of}
use Rattle.image.specs.Mask.{mask_numbers_of}
use Rattle.score.specs.Told.{as_answer}
use Rattle.score.specs.declared.Answer.{Answer}
use Rattle.score.specs.Calls.{score_call}
use Rattle.score.specs.Masked.{masked_call}
use Rattle.score.proofs.Refused.{score_numbered, masked_numbered}
use Rattle.score.proofs.score.Reads as score_reads
use Rattle.score.proofs.masked.Reads as masked_reads

-- what each row tells of its refusal, and that the call leaves the images, and the mask
module _ (bound allowance : ℕ) (first second : List ℕ) where
  pub score_tells : Tells (λ (answer : Answer). answer.refusal) (score_call bound allowance first second)
  unfolding score_call
  score_tells =
      record { numbered = score_numbered bound (numbers_of first) (numbers_of second); given_0 = λ none. refl; back_own = λ number. refl }

  pub score_leaves : (first, second) ≡ left_of (score_call bound allowance first second)
  unfolding score_call
  score_leaves = asks_leaves (score_call bound allowance first second) refl

  module _ (mask : List ℕ) where
    pub masked_tells : Tells (λ (answer : Answer). answer.refusal) (masked_call bound allowance first second mask)
    unfolding masked_call
    masked_tells =
        record {
          numbered = masked_numbered bound (numbers_of first) (numbers_of second) (mask_numbers_of mask);
          given_0 = λ none. refl;
          back_own = λ number. refl;
        }

    pub masked_leaves : (first, second, mask) ≡ left_of (masked_call bound allowance first second mask)
    unfolding masked_call
    masked_leaves = asks_leaves (masked_call bound allowance first second mask) refl

pub score_promised : (κs : Lfts 2)
    → Promised {Lent = List ℕ × List ℕ} (score_reads.Post κs) (λ a r. as_answer r) (λ a e. (a.1.1.0.now, a.1.1.1.0.now))
    (λ a. score_call a.0 a.1.0 a.1.1.0.now a.1.1.1.0.now) (λ (answer : Answer). answer.refusal)
score_promised κs = promised _ _ _ _ (λ a r e p. (p, score_leaves _ _ _ _)) _ (λ a. score_tells _ _ _ _)

pub masked_promised : (κs : Lfts 3)
    → Promised {Lent = List ℕ × List ℕ × List ℕ} (masked_reads.Post κs) (λ a r. as_answer r) (λ a e. (a.1.1.0.now, a.1.1.1.0.now, a.1.1.1.1.0.now))
    (λ a. masked_call a.0 a.1.0 a.1.1.0.now a.1.1.1.0.now a.1.1.1.1.0.now) (λ (answer : Answer). answer.refusal)
masked_promised κs = promised _ _ _ _ (λ a r e p. (p, masked_leaves _ _ _ _ _)) _ (λ a. masked_tells _ _ _ _ _)

-- an answer in numbers is the one result that looks so
answer_apart : (r r' : Result ℕ Refusal) → as_answer r ≡ as_answer r' → r ≡ r'
answer_apart =
    seen_apart _ (λ number. record { refusal = number; value = 0 }) (λ answer. answer.refusal) (λ value. refl) (λ number. refl)
    (λ x y e. ap (λ (answer : Answer). answer.value) e)

-- UNIQUENESS of the results themselves, and not of the numbers that they tell alone
pub score_settled : (κs : Lfts 2) → Settles {Lent = List ℕ × List ℕ} (score_reads.Post κs) (λ a r. r) (λ a e. (a.1.1.0.now, a.1.1.1.0.now))
score_settled κs = one_outcome _ _ _ (score_promised κs).settled (λ a r r' e e' p p'. answer_apart r r')

pub masked_settled : (κs : Lfts 3)
    → Settles {Lent = List ℕ × List ℕ × List ℕ} (masked_reads.Post κs) (λ a r. r) (λ a e. (a.1.1.0.now, a.1.1.1.0.now, a.1.1.1.1.0.now))
masked_settled κs = one_outcome _ _ _ (masked_promised κs).settled (λ a r r' e e' p p'. answer_apart r r')
