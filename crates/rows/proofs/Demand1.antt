-- Demand 1 and uniqueness of the three calls: the length, the refusal and every lent byte are settled by the arguments.
-- `Post` is the statement itself, as it stands at the function in src/lib.rt.
-- Assumes nothing.
use Prim.Native.Nat.{ℕ}
use mathlib.Core.List.{List}
use mathlib.Core.Path.{◌≡◌, refl, ap}
use Rattle.std.specs.Prelude.{Result}
use contract.Lifetimes.{Lfts}
use Rattle.refusals.specs.declared.Refusal.{Refusal}
use Rattle.refusals.specs.Demand1.{Tells, Promised, Settles}
use Rattle.refusals.proofs.Calls.{promised, tells}
use Rattle.refusals.proofs.OneOutcome.{seen_apart, one_outcome}
use Rattle.rows.specs.Answers.{Wrote}
use Rattle.rows.specs.Row.{row_text, refused_text, head_text}
use Rattle.rows.specs.Calls.{line_call}
use Rattle.rows.specs.Told.{as_wrote}
use Rattle.rows.proofs.head.Reads as head_reads
use Rattle.rows.proofs.row.Reads as row_reads
use Rattle.rows.proofs.refused.Reads as refused_reads

line_tells : (out text : List ℕ) → Tells (λ (w : Wrote). w.refusal) (line_call out text)
unfolding line_call
line_tells out text = tells tt refl (λ number. refl)

module _ (κs : Lfts 1) where
  pub head_promised : Promised (head_reads.Post κs) (λ a r. as_wrote r) (λ a e. e.0.now) (λ a. line_call a.0.now head_text) (λ (w : Wrote). w.refusal)
  head_promised = promised _ _ _ _ (λ a r e p. p.0) _ (λ a. line_tells _ _)

  pub row_promised : Promised (row_reads.Post κs) (λ a r. as_wrote r) (λ a e. e.0.now)
      (λ a. line_call a.0.now (row_text a.1.0 a.1.1.0 a.1.1.1.0 a.1.1.1.1.0 a.1.1.1.1.1.0)) (λ (w : Wrote). w.refusal)
  row_promised = promised _ _ _ _ (λ a r e p. p.0) _ (λ a. line_tells _ _)

  pub refused_promised : Promised (refused_reads.Post κs) (λ a r. as_wrote r) (λ a e. e.0.now)
      (λ a. line_call a.0.now (refused_text a.1.0 a.1.1.0)) (λ (w : Wrote). w.refusal)
  refused_promised = promised _ _ _ _ (λ a r e p. p.0) _ (λ a. line_tells _ _)

-- a length in numbers is the one result that looks so
wrote_apart : (r r' : Result ℕ Refusal) → as_wrote r ≡ as_wrote r' → r ≡ r'
wrote_apart =
    seen_apart _ (λ number. record { refusal = number; length = 0 }) (λ wrote. wrote.refusal) (λ length. refl) (λ number. refl)
    (λ x y e. ap (λ (wrote : Wrote). wrote.length) e)

-- UNIQUENESS of the results themselves, and not of the numbers that they tell alone
module _ (κs : Lfts 1) where
  pub head_settled : Settles (head_reads.Post κs) (λ a r. r) (λ a e. e.0.now)
  head_settled = one_outcome _ _ _ (head_promised κs).settled (λ a r r' e e' p p'. wrote_apart r r')

  pub row_settled : Settles (row_reads.Post κs) (λ a r. r) (λ a e. e.0.now)
  row_settled = one_outcome _ _ _ (row_promised κs).settled (λ a r r' e e' p p'. wrote_apart r r')

  pub refused_settled : Settles (refused_reads.Post κs) (λ a r. r) (λ a e. e.0.now)
  refused_settled = one_outcome _ _ _ (refused_promised κs).settled (λ a r r' e e' p p'. wrote_apart r r')
