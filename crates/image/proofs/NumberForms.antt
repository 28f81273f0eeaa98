-- A number in a header: over the bytes that have its form the walk comes to its judgement, and over any others it stops by itself.
-- Assumes nothing.
use Prim.Native.Nat.{ℕ, ◌-◌}
use mathlib.Core.Bool.{Bool, true, false, cond}
use mathlib.Core.List.{List, [], ◌∷◌, ◌++◌}
use mathlib.Core.Path.{◌≡◌, refl, ap, ◌∙◌}
use native.Mathlib.Omega.{arith}
use Rattle.refusals.specs.Numbers.{wrong_byte, number_out_of_range}
use Rattle.decimals.specs.Decimal.{zero_byte, digit, with_digit, value_of}
use Rattle.decimals.proofs.WritesAndReads.{value_none, value_more}
use Rattle.image.specs.Bytes.{white}
use Rattle.image.specs.Tests.{Test}
use Rattle.image.specs.Seen.{Seen, bytes_of}
use Rattle.image.specs.Step.{Step, stopped}
use Rattle.image.specs.Format.{AllOf, Some}
use Rattle.image.proofs.KindsOfBytes.{digit_not_white}
use Rattle.image.proofs.ByteByByte.{in_gap, in_digits, fails, entering, carried, walk}

-- digits, as many as there are, and the white byte behind them
pub record DigitsAt (l : List Seen) : Type 0 where
  pub digits : List Seen
  pub last : Seen
  pub rest : List Seen
  pub split : l ≡ digits ++ (last ∷ rest)
  pub all : AllOf digit (bytes_of digits)
  pub ended : white last.byte ≡ true

-- white bytes, one digit or more, and the white byte behind them
pub record NumberAt (l : List Seen) : Type 0 where
  pub gap : List Seen
  pub digits : List Seen
  pub last : Seen
  pub rest : List Seen
  pub split : l ≡ gap ++ (digits ++ (last ∷ rest))
  pub blank : AllOf white (bytes_of gap)
  pub number : Some digit (bytes_of digits)
  pub ended : white last.byte ≡ true

-- the judgement of a number at the white byte behind it
abbrev pub judgement : ℕ → List ℕ → Test → List Test → ℕ → Seen → List Seen → Step (List ℕ)
judgement end numbers test tests value last rest =
    carried last rest (λ next. walk end next rest) (cond (test value) (entering (numbers ++ (value ∷ [])) tests) (fails number_out_of_range))

module _ (end : ℕ) (numbers : List ℕ) (test : Test) (tests : List Test) where
  pub digits_walk : (digits : List Seen) (last : Seen) (rest : List Seen) (value : ℕ) → AllOf digit (bytes_of digits) → white last.byte ≡ true
      → walk end (in_digits numbers value test tests) (digits ++ (last ∷ rest))
      ≡ judgement end numbers test tests (value_of value (bytes_of digits)) last rest
  unfolding walk
  digits_walk [] last rest value all w = rw (w, value_none value)
  digits_walk (seen ∷ digits) last rest value all w =
      rw (digit_not_white seen.byte all.0, all.0, value_more value seen.byte (bytes_of digits))
      (digits_walk digits last rest (with_digit value seen.byte) all.1 w)

  pub number_walk : (gap digits : List Seen) (last : Seen) (rest : List Seen) → AllOf white (bytes_of gap) → Some digit (bytes_of digits)
      → white last.byte ≡ true
      → walk end (in_gap numbers test tests) (gap ++ (digits ++ (last ∷ rest)))
      ≡ judgement end numbers test tests (value_of 0 (bytes_of digits)) last rest
  unfolding walk
  number_walk [] [] last rest blank number w = let z = number.not_none in absurd (omega arith)
  number_walk [] (seen ∷ digits) last rest blank number w =
      let all = number.all in
      rw (digit_not_white seen.byte all.0, all.0, value_more 0 seen.byte (bytes_of digits))
      (digits_walk digits last rest (seen.byte - zero_byte) all.1 w
      ∙ ap (λ (first : ℕ). judgement end numbers test tests (value_of first (bytes_of digits)) last rest) (leading seen.byte))
    where
      leading : (byte : ℕ) → byte - zero_byte ≡ with_digit 0 byte
      leading byte = omega arith
  number_walk (seen ∷ gap) digits last rest blank number w = rw blank.0 (number_walk gap digits last rest blank.1 number w)

-- wherever the walk stands in the digits of a number, or before one: it comes to a judgement, meets a wrong byte, or has no more bytes
pub data DigitsStory (end : ℕ) (l : List Seen) : Type 0 where
  whole : DigitsAt l → DigitsStory end l
  broken : ((numbers : List ℕ) (value : ℕ) (test : Test) (tests : List Test) → walk end (in_digits numbers value test tests) l ≡ stopped wrong_byte)
      → DigitsStory end l
  short : ((numbers : List ℕ) (value : ℕ) (test : Test) (tests : List Test) → walk end (in_digits numbers value test tests) l ≡ stopped end)
      → DigitsStory end l

pub data NumberStory (end : ℕ) (l : List Seen) : Type 0 where
  whole : NumberAt l → NumberStory end l
  broken : ((numbers : List ℕ) (test : Test) (tests : List Test) → walk end (in_gap numbers test tests) l ≡ stopped wrong_byte)
      → NumberStory end l
  short : ((numbers : List ℕ) (test : Test) (tests : List Test) → walk end (in_gap numbers test tests) l ≡ stopped end) → NumberStory end l

module _ (end : ℕ) where
  digits_story : (l : List Seen) → DigitsStory end l
  unfolding walk
  digits_story [] = short (λ numbers value test tests. refl)
  digits_story (seen ∷ l) = by (white seen.byte) (digit seen.byte) refl refl (digits_story l)
    where
      by : (w d : Bool) → white seen.byte ≡ w → digit seen.byte ≡ d → DigitsStory end l → DigitsStory end (seen ∷ l)
      by true d ew ed again = whole record { digits = []; last = seen; rest = l; split = refl; all = tt; ended = ew }
      by false true ew ed (whole at) =
          whole record {
            digits = seen ∷ at.digits;
            last = at.last;
            rest = at.rest;
            split = ap (λ (m : List Seen). seen ∷ m) at.split;
            all = (ed, at.all);
            ended = at.ended;
          }
      by false true ew ed (broken stops) = broken (λ numbers value test tests. rw (ew, ed) (stops numbers (with_digit value seen.byte) test tests))
      by false true ew ed (short stops) = short (λ numbers value test tests. rw (ew, ed) (stops numbers (with_digit value seen.byte) test tests))
      by false false ew ed again = broken (λ numbers value test tests. rw (ew, ed))

  pub number_story : (l : List Seen) → NumberStory end l
  unfolding walk
  number_story [] = short (λ numbers test tests. refl)
  number_story (seen ∷ l) = by (white seen.byte) (digit seen.byte) refl refl (digits_story l) (number_story l)
    where
      by : (w d : Bool) → white seen.byte ≡ w → digit seen.byte ≡ d → DigitsStory end l → NumberStory end l → NumberStory end (seen ∷ l)
      by true d ew ed in-digits (whole at) =
          whole record {
            gap = seen ∷ at.gap;
            digits = at.digits;
            last = at.last;
            rest = at.rest;
            split = ap (λ (m : List Seen). seen ∷ m) at.split;
            blank = (ew, at.blank);
            number = at.number;
            ended = at.ended;
          }
      by true d ew ed in-digits (broken stops) = broken (λ numbers test tests. rw ew (stops numbers test tests))
      by true d ew ed in-digits (short stops) = short (λ numbers test tests. rw ew (stops numbers test tests))
      by false true ew ed (whole at) again =
          whole record {
            gap = [];
            digits = seen ∷ at.digits;
            last = at.last;
            rest = at.rest;
            split = ap (λ (m : List Seen). seen ∷ m) at.split;
            blank = tt;
            number = record { all = (ed, at.all); not_none = omega arith };
            ended = at.ended;
          }
      by false true ew ed (broken stops) again = broken (λ numbers test tests. rw (ew, ed) (stops numbers (seen.byte - zero_byte) test tests))
      by false true ew ed (short stops) again = short (λ numbers test tests. rw (ew, ed) (stops numbers (seen.byte - zero_byte) test tests))
      by false false ew ed in-digits again = broken (λ numbers test tests. rw (ew, ed))
