-- A header written from numbers that pass a kind's tests, with a raster behind it, is an image of that kind, and is read back as those
-- numbers.
-- Assumes nothing.
use Prim.Native.Nat.{ℕ, ◌+◌, ◌≤◌, ◌<◌}
use native.Mathlib.Nat.{zero-add}
use native.Mathlib.Omega.{arith}
use mathlib.Core.Bool.{true, false}
use mathlib.Core.List.{List, [], ◌∷◌, ◌++◌}
use mathlib.Core.Path.{◌≡◌, refl, sym, ap, subst, ◌∙◌}
use lib.ListN.{length}
use Rattle.decimals.specs.Decimal.{digit, AllDigits, decimal}
use Rattle.decimals.proofs.WritesAndReads.{decimal_digits, decimal_some, decimal_value}
use Rattle.image.specs.Bytes.{letter_p, white}
use Rattle.image.specs.Tests.{Test}
use Rattle.image.specs.Seen.{limit}
use Rattle.image.specs.Kinds.{Kind, pgm}
use Rattle.image.specs.Format.{AllOf, Some, Field, Written, bytes_in, numbers_in, AllPass, Header, HeaderBytes, Image}
use Rattle.image.specs.Reading.{reading_of, named, numbers_of}
use Rattle.image.specs.Text.{number_texts, header_text}
use Rattle.image.proofs.PlainBytes.{plain_seen, plain_reach, text_has_no_comment}
use Rattle.image.proofs.ExactReading.{image_is_accepted}

-- the decimal text of a number is a run of digits, and one white byte a run of white bytes
all_digits : (run : List ℕ) → AllDigits run → AllOf digit run
all_digits [] all = tt
all_digits (byte ∷ later) all = (all.0, all_digits later all.1)

some_digits : (n : ℕ) → Some digit (decimal n)
some_digits n = record { all = all_digits (decimal n) (decimal_digits n); not_none = decimal_some n }

one_white : (blank : ℕ) → white blank ≡ true → Some white (blank ∷ [])
one_white blank w = record { all = (w, tt); not_none = omega arith }

-- the fields of a text
abbrev fields_of : (blank : ℕ) → List ℕ → List Field
fields_of blank [] = []
fields_of blank (number ∷ later) = record { gap = blank ∷ []; digits = decimal number } ∷ fields_of blank later

bytes_of_fields : (blank : ℕ) (numbers : List ℕ) → number_texts blank numbers ≡ bytes_in (fields_of blank numbers)
bytes_of_fields blank [] = refl
bytes_of_fields blank (number ∷ later) = ap (λ (l : List ℕ). blank ∷ (decimal number ++ l)) (bytes_of_fields blank later)

fields_written : (blank : ℕ) (numbers : List ℕ) → white blank ≡ true → Written (fields_of blank numbers)
fields_written blank [] w = tt
fields_written blank (number ∷ later) w = ((one_white blank w, some_digits number), fields_written blank later w)

fields_write : (blank : ℕ) (numbers : List ℕ) → numbers_in (fields_of blank numbers) ≡ numbers
fields_write blank [] = refl
fields_write blank (number ∷ later) = λ i. decimal_value number i ∷ fields_write blank later i

pub text_is_header : (sign blank : ℕ) (tests : List Test) (numbers : List ℕ) → white blank ≡ true → AllPass tests numbers
    → Header sign tests numbers (header_text sign blank numbers)
unfolding header_text
text_is_header sign blank tests numbers w passes =
    record {
      fields = fields_of blank numbers;
      last = blank;
      split = ap (λ (l : List ℕ). letter_p ∷ sign ∷ (l ++ (blank ∷ []))) (bytes_of_fields blank numbers);
      written = fields_written blank numbers w;
      writes = fields_write blank numbers;
      passes = passes;
      one = w;
    }

text_some : (sign blank : ℕ) (numbers : List ℕ) → 0 < length (header_text sign blank numbers)
unfolding header_text
text_some sign blank numbers = omega arith

-- in a slice it is one too, since every byte of it is seen
pub text_is_header_bytes : (kind : Kind) (blank : ℕ) (numbers : List ℕ) → white blank ≡ true → AllPass kind.tests numbers
    → HeaderBytes kind numbers (header_text kind.sign blank numbers)
text_is_header_bytes kind blank numbers w passes =
    let text = header_text kind.sign blank numbers in
    let plain = text_has_no_comment blank w kind.sign numbers in
    record {
      header =
          subst (Header kind.sign kind.tests numbers) (sym (plain_seen 0 text plain))
          (text_is_header kind.sign blank kind.tests numbers w passes);
      ends = plain_reach 0 text (text_some kind.sign blank numbers) plain ∙ zero-add (length text);
    }

-- with a raster of the right size behind it, no position of which is at fault, it is an image, whatever comes after
module _ (kind : Kind) (blank : ℕ) (numbers raster rest : List ℕ) where
  abbrev pub text : List ℕ
  text = header_text kind.sign blank numbers

  module _ (w : white blank ≡ true) (passes : AllPass kind.tests numbers) (size : length raster ≡ kind.size numbers)
      (sound : (position : ℕ) → position < kind.positions numbers → kind.faulty numbers raster position ≡ false)
      (fits : length text + length raster ≤ limit) where
    pub text_is_image : Image kind (text ++ (raster ++ rest)) numbers (length text) (length text + length raster)
    text_is_image =
        record {
          header = text;
          raster = raster;
          rest = rest;
          split = refl;
          head = text_is_header_bytes kind blank numbers w passes;
          raster_length = size;
          sound = sound;
          starts = refl;
          uses = refl;
          within = fits;
        }

    -- and is read back
    pub round_trip : reading_of kind (text ++ (raster ++ rest))
        ≡ record { refusal = 0; numbers = numbers; start = length text; used = length text + length raster }
    round_trip = image_is_accepted kind (text ++ (raster ++ rest)) text_is_image

-- of a PGM
module _ (blank : ℕ) (numbers raster rest : List ℕ) (w : white blank ≡ true) (passes : AllPass pgm.tests numbers) where
  pub pgm_round_trip : length raster ≡ pgm.size numbers
      → ((position : ℕ) → position < pgm.positions numbers → pgm.faulty numbers raster position ≡ false)
      → length (text pgm blank numbers raster rest) + length raster ≤ limit
      → numbers_of (text pgm blank numbers raster rest ++ (raster ++ rest))
      ≡ named record {
        refusal = 0;
        numbers = numbers;
        start = length (text pgm blank numbers raster rest);
        used = length (text pgm blank numbers raster rest) + length raster;
      }
  unfolding numbers_of
  pgm_round_trip size sound fits = ap named (round_trip pgm blank numbers raster rest w passes size sound fits)
