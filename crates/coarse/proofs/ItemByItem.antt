-- Items taken one after the other, by what matters for the quotients: the carry and the phase. An item closes its block or leaves it open, and the
-- quotients of two parts are those of the one and then those of the other.
-- Assumes nothing.
use Prim.Native.Nat.{ℕ, ◌+◌, ◌*◌, ◌/◌, ◌<◌}
use native.Mathlib.Omega.{arith}
use mathlib.Core.Bool.{Bool, true, false, cond}
use mathlib.Core.List.{List, [], ◌∷◌, ◌++◌}
use mathlib.Core.Path.{◌≡◌, refl, ap, ap₂, ◌∙◌}
use borrow.Author.Tests.{eq-eqb, ne_eqb}
use lib.Arith.{digits_div}
use lib.Dec.{eqb}
use Rattle.book.specs.declared.Book.{Book}
use Rattle.book.specs.Derived.{block_length}
use Rattle.book.specs.Record.{block_of}
use Rattle.book.specs.Adding.{carry_with, quotient_of, added_open, added_closed, added}
use Rattle.book.specs.RunOfCounts.{added_all}
use Rattle.book.proofs.Promises.{adding_cases, added_all_apart, all_none, all_more}
use Rattle.coarse.specs.Histories.{closings}

-- ONE ITEM: the record where its block stays open, and where it closes
module _ (now : Book) (item : ℕ) where
  pub added_open_lem : (now.phase + 1 ≡ block_of now → ⊥) → added now item ≡ added_open now item
  added_open_lem more = adding_cases (λ b r. b ≡ added_open now item) now [] item (λ closes. absurd (more closes)) (λ still. refl)

  pub added_closed_lem : now.phase + 1 ≡ block_of now → added now item ≡ added_closed now item
  added_closed_lem closes = adding_cases (λ b r. b ≡ added_closed now item) now [] item (λ full. refl) (λ more. absurd (more closes))

  -- and the quotients: none then, and one
  module _ (later : List ℕ) where
    pub closings_open : (now.phase + 1 ≡ block_of now → ⊥) → closings now (item ∷ later) ≡ closings (added now item) later
    unfolding closings
    closings_open more = rw (ne_eqb (now.phase + 1) (block_of now) more)

    pub closings_closed : now.phase + 1 ≡ block_of now → closings now (item ∷ later) ≡ quotient_of now item ∷ closings (added now item) later
    unfolding closings
    closings_closed closes = rw (eq-eqb (now.phase + 1) (block_of now) closes)

-- no item, no quotient
pub closings_none : (now : Book) → closings now [] ≡ []
unfolding closings
closings_none now = refl

-- IN PARTS: of the one, and then of the other
pub closings_apart : (now : Book) (one two : List ℕ) → closings now (one ++ two) ≡ closings now one ++ closings (added_all now one) two
unfolding closings
closings_apart now [] two = rw (all_none now []).0
closings_apart now (item ∷ later) two =
    rw ((all_more now [] item later).0, closings_apart (added now item) later two) (by (eqb (now.phase + 1) (block_of now)))
  where
    before : List ℕ
    before = closings (added now item) later

    after : List ℕ
    after = closings (added_all (added now item) later) two

    by : (b : Bool) → cond b (quotient_of now item ∷ (before ++ after)) (before ++ after) ≡ cond b (quotient_of now item ∷ before) before ++ after
    by true = refl
    by false = refl

-- WHERE A BOOK STANDS: its L and D, its carry and its phase. What it keeps and its head do not matter here
pub record Standing (bound tolerance carry phase : ℕ) (now : Book) : Type 0 where
  pub bound_is : now.bound ≡ bound
  pub tolerance_is : now.tolerance ≡ tolerance
  pub carry_is : now.carry ≡ carry
  pub phase_is : now.phase ≡ phase

-- with these items it closes blocks with these quotients, and stands there afterwards
pub record Comes (bound tolerance : ℕ) (now : Book) (items quotients : List ℕ) (carry phase : ℕ) : Type 0 where
  pub closings_are : closings now items ≡ quotients
  pub stands : Standing bound tolerance carry phase (added_all now items)

module _ {bound tolerance carry phase : ℕ} {now : Book} where
  -- with no item it stays where it is
  pub comes_none : Standing bound tolerance carry phase now → Comes bound tolerance now [] [] carry phase
  comes_none stands = record { closings_are = closings_none now; stands = rw (all_none now []).0 stands }

  -- with the items of two parts it comes where it comes with the one and then with the other
  pub comes_on : {carry' phase' : ℕ} (one two first second : List ℕ) → Comes bound tolerance now one first carry phase
      → Comes bound tolerance (added_all now one) two second carry' phase' → Comes bound tolerance now (one ++ two) (first ++ second) carry' phase'
  comes_on one two first second a b =
      record {
        closings_are = closings_apart now one two ∙ ap₂ (λ (x y : List ℕ). x ++ y) a.closings_are b.closings_are;
        stands = rw (added_all_apart now one two) b.stands;
      }

-- WITH ONE ITEM
module _ {bound tolerance carry phase : ℕ} {now : Book} (stands : Standing bound tolerance carry phase now) where
  in_block : block_of now ≡ block_length bound tolerance
  in_block = ap₂ (λ (l d : ℕ). block_length l d) stands.bound_is stands.tolerance_is

  all_one : (item : ℕ) → added_all now (item ∷ []) ≡ added now item
  all_one item = (all_more now [] item []).0 ∙ (all_none (added now item) []).0

  -- that does not close the block: it only adds
  pub takes_open : (item : ℕ) → phase + 1 < block_length bound tolerance → Comes bound tolerance now (item ∷ []) [] (carry + item) (phase + 1)
  takes_open item inside =
      let more : now.phase + 1 ≡ block_of now → ⊥ = λ e. omega (arith, e, in_block, stands.phase_is) in
      record {
        closings_are = closings_open now item [] more ∙ closings_none (added now item);
        stands =
            rw (all_one item, added_open_lem now item more) record {
              bound_is = stands.bound_is;
              tolerance_is = stands.tolerance_is;
              carry_is = ap (λ (t : ℕ). t + item) stands.carry_is;
              phase_is = ap (λ (t : ℕ). t + 1) stands.phase_is;
            };
      }

  -- that closes it: it leaves a remainder by D, and closes with the quotient
  pub takes_closed : (item q r : ℕ) → phase + 1 ≡ block_length bound tolerance → carry + item ≡ q * tolerance + r → r < tolerance
      → Comes bound tolerance now (item ∷ []) (q ∷ []) r 0
  takes_closed item q r full parts small =
      let closes : now.phase + 1 ≡ block_of now = omega (arith, in_block, stands.phase_is) in
      let in_all : carry_with now item ≡ q * now.tolerance + r = rw (stands.carry_is, stands.tolerance_is) parts in
      let below : r < now.tolerance = omega (arith, stands.tolerance_is) in
      let quotient : quotient_of now item ≡ q = ap (λ (t : ℕ). t / now.tolerance) in_all ∙ digits_div q below in
      record {
        closings_are = closings_closed now item [] closes ∙ ap₂ (λ (x : ℕ) (y : List ℕ). x ∷ y) quotient (closings_none (added now item));
        stands =
            rw (all_one item, added_closed_lem now item closes) record {
              bound_is = stands.bound_is;
              tolerance_is = stands.tolerance_is;
              carry_is = rw quotient (omega arith);
              phase_is = refl;
            };
      }
