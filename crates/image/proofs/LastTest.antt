-- How a header is read with two tests of its last number: alike, unless the number passes a third.
-- Assumes nothing.
use Prim.Native.Nat.{ℕ, ◌-◌}
use mathlib.Core.Bool.{Bool, true, false, cond}
use mathlib.Core.List.{List, [], ◌∷◌, ◌++◌}
use mathlib.Core.Logic.{◌⊎◌, inl, inr}
use mathlib.Core.Path.{◌≡◌, refl, ap}
use Rattle.refusals.specs.Numbers.{wrong_byte, number_out_of_range}
use Rattle.decimals.specs.Decimal.{zero_byte, digit, with_digit}
use Rattle.image.specs.Bytes.{white}
use Rattle.image.specs.Tests.{Test}
use Rattle.image.specs.Seen.{Seen}
use Rattle.image.specs.Step.{Step, stopped, found, and_then}
use Rattle.image.specs.Fields.{one_of, after_white, judged, more_digits, number_field, number_fields, magic, header_fields}

-- with either of two tests a step is the same, or with a third it finds something
pub data SameOr (first second third : Test) {A : Type 0} (step : Test → Step A) : Type 0 where
  same : step first ≡ step second → SameOr first second third step
  finds : (value : A) (used : ℕ) (rest : List Seen) → step third ≡ found value used rest → SameOr first second third step

-- so it is with a header, where two tests of its last number judge alike whatever does not pass the third
module _ (end : ℕ) (first second third : Test) (alike : (value : ℕ) → (first value ≡ second value) ⊎ (third value ≡ true)) where
  abbrev Same : {A : Type 0} → (Test → Step A) → Type 0
  Same step = SameOr first second third step

  behind : {A B : Type 0} (step : Step A) {next : Test → A → ℕ → List Seen → Step B}
      → ((value : A) (used : ℕ) (rest : List Seen) → Same (λ test. next test value used rest))
      → Same (λ test. and_then stopped step (next test))
  behind (stopped refusal) later = same refl
  behind (found value used rest) later = later value used rest

  abbrev making : {A B : Type 0} → (A → B) → Step A → Step B
  making make step = and_then stopped step λ value used rest. found (make value) used rest

  made : {A B : Type 0} (make : A → B) {step : Test → Step A} → Same step → Same (λ test. making make (step test))
  made make (same e) = same (ap (making make) e)
  made make (finds value used rest e) = finds (make value) used rest (ap (making make) e)

  digits_same : (value : ℕ) (l : List Seen) → Same (λ test. more_digits end test value l)
  unfolding more_digits judged
  digits_same value [] = same refl
  digits_same value (seen ∷ l) = by (white seen.byte) (digit seen.byte) (alike value) (digits_same next l)
    where
      next : ℕ
      next = with_digit value seen.byte

      by : (w d : Bool) → (first value ≡ second value) ⊎ (third value ≡ true) → Same (λ test. more_digits end test next l)
          → Same (λ test. cond w (judged test value seen.upto l) (cond d (more_digits end test next l) (stopped wrong_byte)))
      by true d (inl e) later = same (ap (λ (b : Bool). cond b (found value seen.upto l) (stopped number_out_of_range)) e)
      by true d (inr e) later = finds value seen.upto l (rw e)
      by false true either later = later
      by false false either later = same refl

  numbers_same : (before : List Test) (used : ℕ) (l : List Seen) → Same (λ test. number_fields end (before ++ (test ∷ [])) used l)
  unfolding number_fields number_field
  numbers_same [] used l =
      made (λ (value : ℕ). value ∷ []) (behind (one_of digit end (after_white l)) λ byte used rest. digits_same (byte - zero_byte) rest)
  numbers_same (test ∷ before) used l =
      behind (number_field end test l) λ value used rest. made (λ (values : List ℕ). value ∷ values) (numbers_same before used rest)

  pub header_same : (sign : ℕ) (before : List Test) (l : List Seen) → Same (λ test. header_fields end sign (before ++ (test ∷ [])) l)
  unfolding header_fields
  header_same sign before l = behind (magic end sign l) λ byte used rest. numbers_same before used rest
