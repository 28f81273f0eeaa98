-- A header as one writes it: the numbers in decimal without leading zeros, one white byte wherever white space has to be.
use Rattle.std.specs.Prelude.{ℕ, List, [], ◌∷◌, ◌++◌}
use Rattle.decimals.specs.Decimal.{decimal}
use Rattle.image.specs.Bytes.{letter_p}

-- the numbers, each with the white byte before it
abbrev pub number_texts : (blank : ℕ) → List ℕ → List ℕ
number_texts blank [] = []
number_texts blank (number ∷ later) = blank ∷ (decimal number ++ number_texts blank later)

-- `P`, the sign, the numbers, one white byte
unfoldable pub header_text : (sign blank : ℕ) → List ℕ → List ℕ
header_text sign blank numbers = letter_p ∷ sign ∷ (number_texts blank numbers ++ (blank ∷ []))
