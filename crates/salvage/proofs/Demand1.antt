-- Demand 1 and uniqueness of both calls: what a statement says is what its row says.
-- `Post` is the statement itself, as it stands at the function in src/.
-- Assumes nothing.
use Prim.Native.Nat.{ℕ}
use mathlib.Core.List.{List}
use mathlib.Core.Path.{◌≡◌, refl}
use Rattle.std.specs.Prelude.{Result}
use contract.Lifetimes.{Lfts}
use Rattle.refusals.specs.declared.Refusal.{Refusal}
use Rattle.refusals.specs.Demand1.{Tells, Promised, Settles}
use Rattle.refusals.proofs.Calls.{promised, tells}
use Rattle.refusals.proofs.OneOutcome.{seen_apart, one_outcome}
use Rattle.book.specs.declared.Book.{Book}
use Rattle.salvage.specs.declared.Mended.{Mended}
use Rattle.salvage.specs.declared.told.Salvaged.{Salvaged}
use Rattle.salvage.specs.Told.{as_salvaged}
use Rattle.salvage.specs.Calls.{RingAndNumbers, RingNumbersAndRow, salvage_call, salvage_row_call}
use Rattle.salvage.proofs.salvage.Reads as salvage-reads
use Rattle.salvage.proofs.salvage_row.Reads as salvage-row-reads

-- what each tells of its refusal
module _ (book : Book) (ring numbers : List ℕ) where
  pub salvage_tells : Tells (λ (r : Salvaged). r.refusal) (salvage_call book ring numbers)
  unfolding salvage_call
  salvage_tells = tells tt refl (λ number. refl)

  pub salvage_row_tells : (row : List ℕ) → Tells (λ (r : Salvaged). r.refusal) (salvage_row_call book ring numbers row)
  unfolding salvage_row_call
  salvage_row_tells row = tells tt refl (λ number. refl)

-- In `a` stand the arguments in their order, the ring and the rows among them, in `e` the same as the call returns.
pub salvage_promised : (κs : Lfts 2) → Promised (salvage-reads.Post κs) (λ a r. as_salvaged a.0 r)
    (λ a e. record { ring = e.1.0.now; numbers = e.1.1.0.now })
    (λ a. salvage_call a.0 a.1.0.now a.1.1.0.now) (λ (r : Salvaged). r.refusal)
salvage_promised κs =
    promised _ _ _ _ (λ a r e p. (p.0, λ i. record { ring = p.1 i; numbers = p.2 i })) _ (λ a. salvage_tells _ _ _)

pub salvage_row_promised : (κs : Lfts 3) → Promised (salvage-row-reads.Post κs) (λ a r. as_salvaged a.0 r)
    (λ a e. record { ring = e.1.0.now; numbers = e.1.1.0.now; row = e.1.1.1.0.now })
    (λ a. salvage_row_call a.0 a.1.0.now a.1.1.0.now a.1.1.1.0.now) (λ (r : Salvaged). r.refusal)
salvage_row_promised κs =
    promised _ _ _ _ (λ a r e p. (p.0, λ i. record { ring = p.1 i; numbers = p.2 i; row = p.3 i })) _ (λ a. salvage_row_tells _ _ _ _)

-- what is mended in numbers is the one result that looks so
salvaged_apart : (before : Book) (r r' : Result Mended Refusal) → as_salvaged before r ≡ as_salvaged before r' → r ≡ r'
salvaged_apart before =
    seen_apart _ (λ number. record { refusal = number; count = 0; book = before }) (λ (s : Salvaged). s.refusal) (λ mended. refl) (λ number. refl)
    (λ x y e i. record { count = (e i).count; book = (e i).book })

-- UNIQUENESS of the results themselves, and not of the numbers that they tell alone
pub salvage_settled : (κs : Lfts 2)
    → Settles {Lent = RingAndNumbers} (salvage-reads.Post κs) (λ a r. r) (λ a e. record { ring = e.1.0.now; numbers = e.1.1.0.now })
salvage_settled κs = one_outcome _ _ _ (salvage_promised κs).settled (λ a r r' e e' p p'. salvaged_apart a.0 r r')

pub salvage_row_settled : (κs : Lfts 3)
    → Settles {Lent = RingNumbersAndRow} (salvage-row-reads.Post κs) (λ a r. r) (λ a e. record { ring = e.1.0.now; numbers = e.1.1.0.now; row = e.1.1.1.0.now })
salvage_row_settled κs = one_outcome _ _ _ (salvage_row_promised κs).settled (λ a r r' e e' p p'. salvaged_apart a.0 r r')
