-- The fields of a header (SCOPE, Images), each a step over the bytes ahead: a sign, one white byte, a number, and all of them in order.
use Rattle.std.specs.Prelude.{ℕ, ◌-◌, Bool, cond, List, [], ◌∷◌, eqb}
use Rattle.refusals.specs.Numbers.{wrong_byte, number_out_of_range}
use Rattle.decimals.specs.Decimal.{zero_byte, digit, with_digit}
use Rattle.image.specs.Bytes.{letter_p, white}
use Rattle.image.specs.Tests.{Test}
use Rattle.image.specs.Seen.{Seen}
use Rattle.image.specs.Step.{Step, stopped, found, next_byte, and_then}

-- one byte that has to be of a kind; any other is a wrong byte
unfoldable pub one_of : (ℕ → Bool) → ℕ → List Seen → Step ℕ
one_of kind end l =
    and_then stopped (next_byte end l) λ byte used rest. cond (kind byte) (found byte used rest) (stopped wrong_byte)

-- the bytes from the first one on that is not white
unfoldable pub after_white : List Seen → List Seen
after_white [] = []
after_white (seen ∷ rest) = cond (white seen.byte) (after_white rest) (seen ∷ rest)

-- a number is judged at the white byte after its digits
unfoldable pub judged : Test → ℕ → ℕ → List Seen → Step ℕ
judged test value used rest = cond (test value) (found value used rest) (stopped number_out_of_range)

-- the digits that follow a digit, down to the white byte after them; `value` is the number that the digits so far write
unfoldable pub more_digits : ℕ → Test → ℕ → List Seen → Step ℕ
more_digits end test value [] = stopped end
more_digits end test value (seen ∷ rest) =
    cond (white seen.byte) (judged test value seen.upto rest)
    (cond (digit seen.byte) (more_digits end test (with_digit value seen.byte) rest) (stopped wrong_byte))

-- a number of one or more digits with one white byte after it; white bytes before it are passed over
unfoldable pub number_field : ℕ → Test → List Seen → Step ℕ
number_field end test l =
    and_then stopped (one_of digit end (after_white l)) λ byte used rest. more_digits end test (byte - zero_byte) rest

-- a number for each test
unfoldable pub number_fields : ℕ → List Test → ℕ → List Seen → Step (List ℕ)
number_fields end [] used l = found [] used l
number_fields end (test ∷ tests) used l =
    and_then stopped (number_field end test l) λ value used rest.
    and_then stopped (number_fields end tests used rest) λ values used rest. found (value ∷ values) used rest

-- `P`, the byte that says what kind of image it is, and one white byte
unfoldable pub magic : ℕ → ℕ → List Seen → Step ℕ
magic end sign l =
    and_then stopped (one_of (eqb letter_p) end l) λ byte used rest.
    and_then stopped (one_of (eqb sign) end rest) λ byte used rest. one_of white end rest

-- a whole header: the sign, then the numbers
unfoldable pub header_fields : ℕ → ℕ → List Test → List Seen → Step (List ℕ)
header_fields end sign tests l =
    and_then stopped (magic end sign l) λ byte used rest. number_fields end tests used rest
