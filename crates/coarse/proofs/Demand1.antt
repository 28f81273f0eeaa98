-- Demand 1 and uniqueness of both calls: what a statement says is what its row says.
-- `Post` is the statement itself, as it stands at the function in src/; the first ring is only read.
-- Assumes nothing.
use Prim.Native.Nat.{ℕ}
use mathlib.Core.List.{List, []}
use mathlib.Core.Path.{◌≡◌, refl, ap}
use Rattle.std.specs.Prelude.{Result}
use contract.Lifetimes.{Lfts}
use lib.ListN.{length}
use Rattle.refusals.specs.declared.Refusal.{Refusal}
use Rattle.refusals.specs.Demand1.{Tells, Promised, Settles}
use Rattle.refusals.proofs.Calls.{promised, tells, result_number}
use Rattle.refusals.proofs.OneOutcome.{seen_apart, one_outcome}
use Rattle.book.specs.declared.Book.{Book}
use Rattle.sums.specs.Calls.{RingAndRow}
use Rattle.sums.proofs.Promises.{with_row_tells}
use Rattle.coarse.specs.declared.Coarsened.{Coarsened}
use Rattle.coarse.specs.declared.told.Coarser.{Coarser}
use Rattle.coarse.specs.Told.{as_coarser}
use Rattle.coarse.specs.Calls.{coarser_entries, coarse_faults, coarsen_call, coarsen_row_call}
use Rattle.coarse.proofs.WhenTaken.{coarsen_refusal, coarsen_back}
use Rattle.coarse.proofs.coarsen.Reads as coarsen-reads
use Rattle.coarse.proofs.coarsen_row.Reads as coarsen-row-reads

-- what each tells of its refusal
module _ (book : Book) (ring : List ℕ) (times : ℕ) (second : List ℕ) where
  pub coarsen_tells : Tells (λ (r : Coarser). r.refusal) (coarsen_call book ring times second)
  unfolding coarsen_call
  coarsen_tells = tells tt refl (λ number. refl)

  pub coarsen_row_tells : (row : List ℕ) → Tells (λ (r : Coarser). r.refusal) (coarsen_row_call book ring times second row)
  unfolding coarsen_row_call
  coarsen_row_tells row =
      with_row_tells (coarsen_call book ring times second) (coarse_faults book (length ring) times (length second)) []
      (coarsen_refusal book ring times second) (coarser_entries book times) row _
      (λ (r : Coarser). r.refusal) (result_number (λ (r : Coarser). r.refusal) (coarsen_call book ring times second) coarsen_tells)
      (λ number. ap (λ (r : Coarser). r.refusal) ((coarsen_back book ring times second).0 number)) tt

-- In `a` stand the arguments in their order, both rings and the row among them, in `e` the same as the call returns.
pub coarsen_promised : (κs : Lfts 2) → Promised (coarsen-reads.Post κs) (λ a r. as_coarser a.0 r) (λ a e. e.1.1.1.0.now)
    (λ a. coarsen_call a.0 a.1.0.now a.1.1.0 a.1.1.1.0.now) (λ (r : Coarser). r.refusal)
coarsen_promised κs = promised _ _ _ _ (λ a r e p. (p.0, p.1)) _ (λ a. coarsen_tells _ _ _ _)

pub coarsen_row_promised : (κs : Lfts 3) → Promised (coarsen-row-reads.Post κs) (λ a r. as_coarser a.0 r)
    (λ a e. record { ring = e.1.1.1.0.now; row = e.1.1.1.1.0.now })
    (λ a. coarsen_row_call a.0 a.1.0.now a.1.1.0 a.1.1.1.0.now a.1.1.1.1.0.now) (λ (r : Coarser). r.refusal)
coarsen_row_promised κs =
    promised _ _ _ _ (λ a r e p. (p.0, λ i. record { ring = p.1 i; row = p.2 i })) _ (λ a. coarsen_row_tells _ _ _ _ _)

-- what is made in numbers is the one result that looks so
coarser_apart : (before : Book) (r r' : Result Coarsened Refusal) → as_coarser before r ≡ as_coarser before r' → r ≡ r'
coarser_apart before =
    seen_apart _ (λ number. record { refusal = number; bytes = 0; book = before }) (λ (c : Coarser). c.refusal) (λ made. refl) (λ number. refl)
    (λ x y e i. record { bytes = (e i).bytes; book = (e i).book })

-- UNIQUENESS of the results themselves, and not of the numbers that they tell alone
pub coarsen_settled : (κs : Lfts 2) → Settles (coarsen-reads.Post κs) (λ a r. r) (λ a e. e.1.1.1.0.now)
coarsen_settled κs = one_outcome _ _ _ (coarsen_promised κs).settled (λ a r r' e e' p p'. coarser_apart a.0 r r')

pub coarsen_row_settled : (κs : Lfts 3)
    → Settles {Lent = RingAndRow} (coarsen-row-reads.Post κs) (λ a r. r) (λ a e. record { ring = e.1.1.1.0.now; row = e.1.1.1.1.0.now })
coarsen_row_settled κs = one_outcome _ _ _ (coarsen_row_promised κs).settled (λ a r r' e e' p p'. coarser_apart a.0 r r')
