-- A header read byte by byte: where a reader stands, and what one byte more makes of it. A device of the proofs: fields read one after the
-- other (specs/Fields.antt) are the same, and what holds of every reader that goes byte by byte is proved once.
-- Assumes nothing.
use Prim.Native.Nat.{ℕ, ◌-◌}
use mathlib.Core.Bool.{Bool, true, false, cond}
use mathlib.Core.List.{List, [], ◌∷◌, ◌++◌, append_assoc, append-nil}
use mathlib.Core.Path.{◌≡◌, refl, sym, ap, ◌∙◌}
use lib.Dec.{eqb}
use Rattle.refusals.specs.Numbers.{wrong_byte, number_out_of_range}
use Rattle.decimals.specs.Decimal.{zero_byte, digit, with_digit}
use Rattle.image.specs.Bytes.{letter_p, white}
use Rattle.image.specs.Tests.{Test}
use Rattle.image.specs.Seen.{Seen}
use Rattle.image.specs.Step.{Step, stopped, found, and_then}
use Rattle.image.specs.Fields.{one_of, after_white, judged, more_digits, number_field, number_fields, magic, header_fields}

-- before the end of the sign, whose bytes are still to come, and then one white byte; in the white bytes before a number; in its digits.
-- With each: the numbers so far, and the tests of those to come
pub data Place : Type 0 where
  in_sign : (signs : List ℕ) (tests : List Test) → Place
  in_gap : (numbers : List ℕ) (test : Test) (tests : List Test) → Place
  in_digits : (numbers : List ℕ) (value : ℕ) (test : Test) (tests : List Test) → Place

-- one byte more: the header goes on, a refusal, or the last byte of the header
pub data Onward : Type 0 where
  goes : Place → Onward
  fails : ℕ → Onward
  ends : List ℕ → Onward

-- behind a white byte
abbrev pub entering : List ℕ → List Test → Onward
entering numbers [] = ends numbers
entering numbers (test ∷ tests) = goes (in_gap numbers test tests)

abbrev pub onward : Place → ℕ → Onward
onward (in_sign [] tests) byte = cond (white byte) (entering [] tests) (fails wrong_byte)
onward (in_sign (sign ∷ signs) tests) byte = cond (eqb sign byte) (goes (in_sign signs tests)) (fails wrong_byte)
onward (in_gap numbers test tests) byte =
    cond (white byte) (goes (in_gap numbers test tests))
    (cond (digit byte) (goes (in_digits numbers (byte - zero_byte) test tests)) (fails wrong_byte))
onward (in_digits numbers value test tests) byte =
    cond (white byte) (cond (test value) (entering (numbers ++ (value ∷ [])) tests) (fails number_out_of_range))
    (cond (digit byte) (goes (in_digits numbers (with_digit value byte) test tests)) (fails wrong_byte))

-- what comes of it
abbrev pub carried : Seen → List Seen → (Place → Step (List ℕ)) → Onward → Step (List ℕ)
carried seen rest again (goes place) = again place
carried seen rest again (fails refusal) = stopped refusal
carried seen rest again (ends numbers) = found numbers seen.upto rest

unfoldable pub walk : ℕ → Place → List Seen → Step (List ℕ)
walk end place [] = stopped end
walk end place (seen ∷ rest) = carried seen rest (λ next. walk end next rest) (onward place seen.byte)

-- the numbers so far, and those that are found
abbrev prepended : List ℕ → Step (List ℕ) → Step (List ℕ)
prepended numbers (stopped refusal) = stopped refusal
prepended numbers (found values used rest) = found (numbers ++ values) used rest

-- one number, and the numbers behind it
then_prepended : (end : ℕ) (numbers : List ℕ) (tests : List Test) (step : Step ℕ)
    → and_then stopped step (λ value used rest. prepended (numbers ++ (value ∷ [])) (number_fields end tests used rest))
    ≡ prepended numbers (and_then stopped step λ value used rest.
    and_then stopped (number_fields end tests used rest) λ values used rest. found (value ∷ values) used rest)
then_prepended end numbers tests (stopped refusal) = refl
then_prepended end numbers tests (found value used rest) = by (number_fields end tests used rest)
  where
    by : (step : Step (List ℕ))
        → prepended (numbers ++ (value ∷ [])) step ≡ prepended numbers (and_then stopped step λ values used rest. found (value ∷ values) used rest)
    by (stopped refusal) = refl
    by (found values used rest) = ap (λ (l : List ℕ). found l used rest) (append_assoc numbers (value ∷ []) values)

module _ (end : ℕ) where
  -- white bytes before a number, its first digit, and any other byte
  gap_white : (test : Test) (seen : Seen) (rest : List Seen) → white seen.byte ≡ true
      → number_field end test (seen ∷ rest) ≡ number_field end test rest
  unfolding number_field after_white
  gap_white test seen rest w = rw w

  gap_digit : (test : Test) (seen : Seen) (rest : List Seen) → white seen.byte ≡ false → digit seen.byte ≡ true
      → number_field end test (seen ∷ rest) ≡ more_digits end test (seen.byte - zero_byte) rest
  unfolding number_field after_white one_of
  gap_digit test seen rest w d = rw (w, d)

  gap_wrong : (test : Test) (seen : Seen) (rest : List Seen) → white seen.byte ≡ false → digit seen.byte ≡ false
      → number_field end test (seen ∷ rest) ≡ stopped wrong_byte
  unfolding number_field after_white one_of
  gap_wrong test seen rest w d = rw (w, d)

  -- a number, and those behind it
  abbrev behind : List Test → Step ℕ → Step (List ℕ)
  behind tests step =
      and_then stopped step λ value used rest.
      and_then stopped (number_fields end tests used rest) λ values used rest. found (value ∷ values) used rest

  -- the fields that are still to come at a place
  pub fields_at : Place → List Seen → Step (List ℕ)
  fields_at (in_sign [] tests) l = and_then stopped (one_of white end l) λ byte used rest. number_fields end tests used rest
  fields_at (in_sign (sign ∷ signs) tests) l = and_then stopped (one_of (eqb sign) end l) λ byte used rest. fields_at (in_sign signs tests) rest
  fields_at (in_gap numbers test tests) l = prepended numbers (number_fields end (test ∷ tests) 0 l)
  fields_at (in_digits numbers value test tests) l =
      and_then stopped (more_digits end test value l) λ value used rest. prepended (numbers ++ (value ∷ [])) (number_fields end tests used rest)

  -- behind a white byte that ends a field
  enters : (numbers : List ℕ) (tests : List Test) (seen : Seen) (rest : List Seen) → ((place : Place) → walk end place rest ≡ fields_at place rest)
      → carried seen rest (λ next. walk end next rest) (entering numbers tests) ≡ prepended numbers (number_fields end tests seen.upto rest)
  unfolding number_fields fields_at
  enters numbers [] seen rest again = ap (λ (l : List ℕ). found l seen.upto rest) (sym (append-nil numbers))
  enters numbers (test ∷ tests) seen rest again = again (in_gap numbers test tests)

  -- fields read one after the other, and the walk byte by byte
  pub walk_reads : (l : List Seen) (place : Place) → walk end place l ≡ fields_at place l
  unfolding walk fields_at one_of number_fields number_field after_white more_digits judged
  walk_reads [] (in_sign [] tests) = refl
  walk_reads [] (in_sign (sign ∷ signs) tests) = refl
  walk_reads [] (in_gap numbers test tests) = refl
  walk_reads [] (in_digits numbers value test tests) = refl
  walk_reads (seen ∷ rest) (in_sign [] tests) = by (white seen.byte) (enters [] tests seen rest (walk_reads rest))
    where
      unprepended : (step : Step (List ℕ)) → prepended [] step ≡ step
      unprepended (stopped refusal) = refl
      unprepended (found values used l) = refl

      by : (w : Bool) → carried seen rest (λ next. walk end next rest) (entering [] tests) ≡ prepended [] (number_fields end tests seen.upto rest)
          → carried seen rest (λ next. walk end next rest) (cond w (entering [] tests) (fails wrong_byte))
          ≡ and_then stopped (cond w (found seen.byte seen.upto rest) (stopped wrong_byte)) λ byte used l. number_fields end tests used l
      by true again = again ∙ unprepended (number_fields end tests seen.upto rest)
      by false again = refl
  walk_reads (seen ∷ rest) (in_sign (sign ∷ signs) tests) = by (eqb sign seen.byte) (walk_reads rest (in_sign signs tests))
    where
      by : (w : Bool) → walk end (in_sign signs tests) rest ≡ fields_at (in_sign signs tests) rest
          → carried seen rest (λ next. walk end next rest) (cond w (goes (in_sign signs tests)) (fails wrong_byte))
          ≡ and_then stopped (cond w (found seen.byte seen.upto rest) (stopped wrong_byte)) λ byte used l. fields_at (in_sign signs tests) l
      by true again = again
      by false again = refl
  walk_reads (seen ∷ rest) (in_gap numbers test tests) = by (white seen.byte) (digit seen.byte) refl refl (walk_reads rest)
    where
      by : (w d : Bool) → white seen.byte ≡ w → digit seen.byte ≡ d → ((place : Place) → walk end place rest ≡ fields_at place rest)
          → carried seen rest (λ next. walk end next rest)
          (cond w (goes (in_gap numbers test tests)) (cond d (goes (in_digits numbers (seen.byte - zero_byte) test tests)) (fails wrong_byte)))
          ≡ prepended numbers (behind tests (number_field end test (seen ∷ rest)))
      by true d ew ed again = again (in_gap numbers test tests) ∙ ap (λ (step : Step ℕ). prepended numbers (behind tests step)) (sym (gap_white test seen rest ew))
      by false true ew ed again =
          again (in_digits numbers (seen.byte - zero_byte) test tests)
          ∙ then_prepended end numbers tests (more_digits end test (seen.byte - zero_byte) rest)
          ∙ ap (λ (step : Step ℕ). prepended numbers (behind tests step)) (sym (gap_digit test seen rest ew ed))
      by false false ew ed again = ap (λ (step : Step ℕ). prepended numbers (behind tests step)) (sym (gap_wrong test seen rest ew ed))
  walk_reads (seen ∷ rest) (in_digits numbers value test tests) =
      by (white seen.byte) (digit seen.byte) (test value) (walk_reads rest) (enters (numbers ++ (value ∷ [])) tests seen rest (walk_reads rest))
    where
      by : (w d t : Bool) → ((place : Place) → walk end place rest ≡ fields_at place rest)
          → carried seen rest (λ next. walk end next rest) (entering (numbers ++ (value ∷ [])) tests)
          ≡ prepended (numbers ++ (value ∷ [])) (number_fields end tests seen.upto rest)
          → carried seen rest (λ next. walk end next rest)
          (cond w (cond t (entering (numbers ++ (value ∷ [])) tests) (fails number_out_of_range))
          (cond d (goes (in_digits numbers (with_digit value seen.byte) test tests)) (fails wrong_byte)))
          ≡ and_then stopped
          (cond w (cond t (found value seen.upto rest) (stopped number_out_of_range))
          (cond d (more_digits end test (with_digit value seen.byte) rest) (stopped wrong_byte)))
          λ value used l. prepended (numbers ++ (value ∷ [])) (number_fields end tests used l)
      by true d true again enter = enter
      by true d false again enter = refl
      by false true t again enter = again (in_digits numbers (with_digit value seen.byte) test tests)
      by false false t again enter = refl

  -- a whole header
  pub header_walks : (sign : ℕ) (tests : List Test) (l : List Seen)
      → header_fields end sign tests l ≡ walk end (in_sign (letter_p ∷ sign ∷ []) tests) l
  unfolding header_fields magic fields_at
  header_walks sign tests l = by (one_of (eqb letter_p) end l) ∙ sym (walk_reads l (in_sign (letter_p ∷ sign ∷ []) tests))
    where
      by₂ : (step : Step ℕ)
          → and_then stopped (and_then stopped step λ byte used rest. one_of white end rest) (λ byte used rest. number_fields end tests used rest)
          ≡ and_then stopped step λ byte used rest. and_then stopped (one_of white end rest) λ byte used rest. number_fields end tests used rest
      by₂ (stopped refusal) = refl
      by₂ (found byte used rest) = refl

      by : (step : Step ℕ)
          → and_then stopped
          (and_then stopped step λ byte used rest. and_then stopped (one_of (eqb sign) end rest) λ byte used rest. one_of white end rest)
          (λ byte used rest. number_fields end tests used rest)
          ≡ and_then stopped step λ byte used rest.
          and_then stopped (one_of (eqb sign) end rest) λ byte used rest.
          and_then stopped (one_of white end rest) λ byte used rest. number_fields end tests used rest
      by (stopped refusal) = refl
      by (found byte used rest) = by₂ (one_of (eqb sign) end rest)
