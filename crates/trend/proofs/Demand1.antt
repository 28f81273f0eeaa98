-- Demand 1 and uniqueness of the call: what its statement says is what its row says.
-- `Post` is the statement itself, as it stands at the function in src/; the ring is only read, and left as it came.
-- Assumes nothing.
use Prim.Native.Nat.{ℕ}
use mathlib.Core.List.{List}
use mathlib.Core.Path.{◌≡◌, refl, ap}
use Rattle.std.specs.Prelude.{ℤ, pos, Result}
use contract.Lifetimes.{Lfts}
use Rattle.refusals.specs.Call.{left_of}
use Rattle.refusals.specs.declared.Refusal.{Refusal}
use Rattle.refusals.specs.Demand1.{Tells, Promised, Settles}
use Rattle.refusals.proofs.Calls.{asks_leaves, promised, tells}
use Rattle.refusals.proofs.OneOutcome.{seen_apart, one_outcome}
use Rattle.book.specs.declared.Book.{Book}
use Rattle.trend.specs.declared.Answer.{Answer}
use Rattle.trend.specs.Told.{as_answer}
use Rattle.trend.specs.Trend.{trend_call}
use Rattle.trend.proofs.trend.Reads as trend_reads

-- what the row tells of its refusal, and that the call leaves the ring
module _ (book : Book) (ring : List ℕ) (window : ℕ) where
  pub trend_tells : Tells (λ (r : Answer). r.refusal) (trend_call book ring window)
  unfolding trend_call
  trend_tells = tells tt refl (λ number. refl)

  pub trend_leaves : ring ≡ left_of (trend_call book ring window)
  unfolding trend_call
  trend_leaves = asks_leaves (trend_call book ring window) refl

-- In `a` stand the arguments in their order, the ring among them.
pub trend_promised : (κs : Lfts 1) → Promised (trend_reads.Post κs) (λ a r. as_answer r) (λ a e. a.1.0.now)
    (λ a. trend_call a.0 a.1.0.now a.1.1.0) (λ (r : Answer). r.refusal)
trend_promised κs = promised _ _ _ _ (λ a r e p. (p, trend_leaves _ _ _)) _ (λ a. trend_tells _ _ _)

-- a trend in numbers is the one result that looks so
answer_apart : (r r' : Result ℤ Refusal) → as_answer r ≡ as_answer r' → r ≡ r'
answer_apart =
    seen_apart _ (λ number. record { refusal = number; trend = pos 0 }) (λ answer. answer.refusal) (λ trend. refl) (λ number. refl)
    (λ x y e. ap (λ (answer : Answer). answer.trend) e)

-- UNIQUENESS of the result itself, and not of the numbers that it tells alone
pub trend_settled : (κs : Lfts 1) → Settles (trend_reads.Post κs) (λ a r. r) (λ a e. a.1.0.now)
trend_settled κs = one_outcome _ _ _ (trend_promised κs).settled (λ a r r' e e' p p'. answer_apart r r')
