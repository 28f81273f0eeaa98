-- The walk whatever the numbers are: it goes as the walk with tests does, but that no number is out of range; and wherever it stands, it
-- can be completed.
-- Assumes nothing.
use Prim.Native.Nat.{ℕ, ◌-◌, ◌<◌}
use mathlib.Core.Bool.{Bool, true, false, cond}
use mathlib.Core.List.{List, [], ◌∷◌, ◌++◌}
use mathlib.Core.Path.{◌≡◌, refl, ap, ◌∙◌}
use native.Mathlib.Omega.{arith}
use borrow.Author.Tests.{eq-eqb}
use lib.Dec.{eqb}
use lib.ListN.{length}
use Rattle.refusals.specs.Numbers.{wrong_byte, number_out_of_range}
use Rattle.decimals.specs.Decimal.{zero_byte, digit_byte, digit, with_digit}
use Rattle.image.specs.Bytes.{white, line_feed}
use Rattle.image.specs.Tests.{Test, any, any_numbers}
use Rattle.image.specs.Seen.{Seen}
use Rattle.image.specs.Step.{found}
use Rattle.image.proofs.SeenLists.{seen_as}
use Rattle.image.proofs.KindsOfBytes.{one_is_digit, one_not_white, line_feed_white}
use Rattle.image.proofs.ByteByByte.{Place, in_sign, in_gap, in_digits, Onward, goes, fails, ends, entering, onward, carried, walk}
use Rattle.image.proofs.WalkStands.{further_on, after}

-- a place with its tests gone
abbrev pub loosened : Place → Place
loosened (in_sign signs tests) = in_sign signs (any_numbers tests)
loosened (in_gap numbers test tests) = in_gap numbers any (any_numbers tests)
loosened (in_digits numbers value test tests) = in_digits numbers value any (any_numbers tests)

abbrev pub loosened_on : Onward → Onward
loosened_on (goes place) = goes (loosened place)
loosened_on (fails refusal) = fails refusal
loosened_on (ends numbers) = ends numbers

any_twice : (tests : List Test) → any_numbers (any_numbers tests) ≡ any_numbers tests
any_twice [] = refl
any_twice (test ∷ tests) = ap (λ (l : List Test). any ∷ l) (any_twice tests)

pub loosened_twice : (place : Place) → loosened (loosened place) ≡ loosened place
loosened_twice (in_sign signs tests) = ap (in_sign signs) (any_twice tests)
loosened_twice (in_gap numbers test tests) = ap (in_gap numbers any) (any_twice tests)
loosened_twice (in_digits numbers value test tests) = ap (in_digits numbers value any) (any_twice tests)

entering_loosened : (numbers : List ℕ) (tests : List Test) → entering numbers (any_numbers tests) ≡ loosened_on (entering numbers tests)
entering_loosened numbers [] = refl
entering_loosened numbers (test ∷ tests) = refl

cond_loosened : (b : Bool) (x y x' y' : Onward) → x' ≡ loosened_on x → y' ≡ loosened_on y → cond b x' y' ≡ loosened_on (cond b x y)
cond_loosened true x y x' y' ex ey = ex
cond_loosened false x y x' y' ex ey = ey

-- one byte more, where no number is out of range
pub onward_loosened : (place : Place) (byte : ℕ) → (onward place byte ≡ fails number_out_of_range → ⊥)
    → onward (loosened place) byte ≡ loosened_on (onward place byte)
onward_loosened (in_sign [] tests) byte in_range = cond_loosened (white byte) _ _ _ _ (entering_loosened [] tests) refl
onward_loosened (in_sign (sign ∷ signs) tests) byte in_range = cond_loosened (eqb sign byte) _ _ _ _ refl refl
onward_loosened (in_gap numbers test tests) byte in_range =
    cond_loosened (white byte) _ _ _ _ refl (cond_loosened (digit byte) _ _ _ _ refl refl)
onward_loosened (in_digits numbers value test tests) byte in_range = by (white byte) (test value) in_range
  where
    more : Onward
    more = cond (digit byte) (goes (in_digits numbers (with_digit value byte) test tests)) (fails wrong_byte)

    by : (w t : Bool) → (cond w (cond t (entering (numbers ++ (value ∷ [])) tests) (fails number_out_of_range)) more ≡ fails number_out_of_range → ⊥)
        → cond w (entering (numbers ++ (value ∷ [])) (any_numbers tests))
        (cond (digit byte) (goes (in_digits numbers (with_digit value byte) any (any_numbers tests))) (fails wrong_byte))
        ≡ loosened_on (cond w (cond t (entering (numbers ++ (value ∷ [])) tests) (fails number_out_of_range)) more)
    by true true in_range = entering_loosened (numbers ++ (value ∷ [])) tests
    by true false in_range = absurd (in_range refl)
    by false t in_range = cond_loosened (digit byte) _ _ _ _ refl refl

-- and where one is: whatever it is, the header goes on behind it or is whole
pub data GoesOrEnds (onwards : Onward) : Type 0 where
  going : (place : Place) → onwards ≡ goes place → GoesOrEnds onwards
  ending : (numbers : List ℕ) → onwards ≡ ends numbers → GoesOrEnds onwards

entering_well : (numbers : List ℕ) (tests : List Test) → GoesOrEnds (entering numbers tests)
entering_well numbers [] = ending numbers refl
entering_well numbers (test ∷ tests) = going (in_gap numbers test tests) refl

pub never_fails : {A : Type 0} {place : Place} {refusal : ℕ} → goes place ≡ fails refusal → A
never_fails e = cc

pub never_wrong : {A : Type 0} → ◌≡◌ {A = Onward} (fails wrong_byte) (fails number_out_of_range) → A
never_wrong e = let same : ◌≡◌ {A = ℕ} wrong_byte number_out_of_range = cc in absurd (omega arith)

never_entering : {A : Type 0} (numbers : List ℕ) (tests : List Test) → entering numbers tests ≡ fails number_out_of_range → A
never_entering numbers [] e = cc
never_entering numbers (test ∷ tests) e = never_fails e

pub out_of_range_loosened : (place : Place) (byte : ℕ) → onward place byte ≡ fails number_out_of_range → GoesOrEnds (onward (loosened place) byte)
out_of_range_loosened (in_sign [] tests) byte = by (white byte)
  where
    by : (w : Bool) → cond w (entering [] tests) (fails wrong_byte) ≡ fails number_out_of_range → GoesOrEnds (cond w (entering [] (any_numbers tests)) (fails wrong_byte))
    by true e = never_entering [] tests e
    by false e = never_wrong e
out_of_range_loosened (in_sign (sign ∷ signs) tests) byte = by (eqb sign byte)
  where
    by : (b : Bool) → cond b (goes (in_sign signs tests)) (fails wrong_byte) ≡ fails number_out_of_range
        → GoesOrEnds (cond b (goes (in_sign signs (any_numbers tests))) (fails wrong_byte))
    by true e = never_fails e
    by false e = never_wrong e
out_of_range_loosened (in_gap numbers test tests) byte = by (white byte) (digit byte)
  where
    by : (w d : Bool)
        → cond w (goes (in_gap numbers test tests)) (cond d (goes (in_digits numbers (byte - zero_byte) test tests)) (fails wrong_byte)) ≡ fails number_out_of_range
        → GoesOrEnds (cond w (goes (in_gap numbers any (any_numbers tests))) (cond d (goes (in_digits numbers (byte - zero_byte) any (any_numbers tests))) (fails wrong_byte)))
    by true d e = never_fails e
    by false true e = never_fails e
    by false false e = never_wrong e
out_of_range_loosened (in_digits numbers value test tests) byte = by (white byte) (digit byte) (test value)
  where
    by : (w d t : Bool)
        → cond w (cond t (entering (numbers ++ (value ∷ [])) tests) (fails number_out_of_range))
        (cond d (goes (in_digits numbers (with_digit value byte) test tests)) (fails wrong_byte)) ≡ fails number_out_of_range
        → GoesOrEnds (cond w (entering (numbers ++ (value ∷ [])) (any_numbers tests))
        (cond d (goes (in_digits numbers (with_digit value byte) any (any_numbers tests))) (fails wrong_byte)))
    by true d t e = entering_well (numbers ++ (value ∷ [])) (any_numbers tests)
    by false true t e = never_fails e
    by false false t e = never_wrong e

-- the same after any number of bytes
pub after_loosened : (place : Place) (l : List Seen) → (after place l ≡ fails number_out_of_range → ⊥) → after (loosened place) l ≡ loosened_on (after place l)
unfolding after
after_loosened place [] in_range = refl
after_loosened place (seen ∷ l) in_range = by (onward place seen.byte) (onward_loosened place seen.byte) (λ p. after_loosened p l) in_range
  where
    by : (o : Onward) → ((o ≡ fails number_out_of_range → ⊥) → onward (loosened place) seen.byte ≡ loosened_on o)
        → ((p : Place) → (after p l ≡ fails number_out_of_range → ⊥) → after (loosened p) l ≡ loosened_on (after p l))
        → (further_on (λ p. after p l) o ≡ fails number_out_of_range → ⊥)
        → further_on (λ p. after p l) (onward (loosened place) seen.byte) ≡ loosened_on (further_on (λ p. after p l) o)
    by (goes p) loose again in_range = ap (further_on (λ q. after q l)) (loose (λ e. never_fails e)) ∙ again p in_range
    by (fails refusal) loose again in_range = ap (further_on (λ q. after q l)) (loose in_range)
    by (ends numbers) loose again in_range = ap (further_on (λ q. after q l)) (loose in_range)

-- bytes that complete a header: what is left of the sign and a line feed, a 1 and a line feed for each number
abbrev a_byte : ℕ → Seen
a_byte byte = record { byte = byte; upto = 0 }

abbrev ones : List Test → List Seen
ones [] = []
ones (test ∷ tests) = a_byte (digit_byte 1) ∷ a_byte line_feed ∷ ones tests

abbrev pub completing : Place → List Seen
completing (in_sign signs tests) = seen_as signs ++ (a_byte line_feed ∷ ones tests)
completing (in_gap numbers test tests) = ones (test ∷ tests)
completing (in_digits numbers value test tests) = a_byte line_feed ∷ ones tests

pub completing_some : (place : Place) → 0 < length (completing place)
completing_some (in_sign [] tests) = omega arith
completing_some (in_sign (sign ∷ signs) tests) = omega arith
completing_some (in_gap numbers test tests) = omega arith
completing_some (in_digits numbers value test tests) = omega arith

pub record Completed (end : ℕ) (place : Place) (l : List Seen) : Type 0 where
  pub numbers : List ℕ
  pub used : ℕ
  pub finds : walk end place l ≡ found numbers used []

module _ (end : ℕ) where
  gap_completed : (numbers : List ℕ) (test : Test) (tests : List Test) → Completed end (in_gap numbers any (any_numbers tests)) (ones (test ∷ tests))
  unfolding walk
  gap_completed numbers test [] =
      record { numbers = numbers ++ ((digit_byte 1 - zero_byte) ∷ []); used = 0; finds = rw (one_not_white, one_is_digit, line_feed_white) }
  gap_completed numbers test (next ∷ tests) =
      let c = gap_completed (numbers ++ ((digit_byte 1 - zero_byte) ∷ [])) next tests in
      record { numbers = c.numbers; used = c.used; finds = rw (one_not_white, one_is_digit, line_feed_white) c.finds }

  -- behind a line feed
  enters_completed : (numbers : List ℕ) (tests : List Test)
      → (values : List ℕ) × (used : ℕ)
      × (carried (a_byte line_feed) (ones tests) (λ next. walk end next (ones tests)) (entering numbers (any_numbers tests)) ≡ found values used [])
  enters_completed numbers [] = (numbers, 0, refl)
  enters_completed numbers (test ∷ tests) = let c = gap_completed numbers test tests in (c.numbers, c.used, c.finds)

  pub completed : (place : Place) → Completed end (loosened place) (completing place)
  unfolding walk
  completed (in_sign [] tests) =
      let c = enters_completed [] tests in record { numbers = c.0; used = c.1; finds = rw line_feed_white c.2 }
  completed (in_sign (sign ∷ signs) tests) =
      let c = completed (in_sign signs tests) in
      record { numbers = c.numbers; used = c.used; finds = rw (eq-eqb sign sign refl) c.finds }
  completed (in_gap numbers test tests) = gap_completed numbers test tests
  completed (in_digits numbers value test tests) =
      let c = enters_completed (numbers ++ (value ∷ [])) tests in record { numbers = c.0; used = c.1; finds = rw line_feed_white c.2 }
