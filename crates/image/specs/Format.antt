-- The formats as Netpbm describes them, within the limits of SCOPE, Images, said without any reading: which bytes are an image of a kind,
-- and of which numbers.
use Rattle.std.specs.Prelude.{ℕ, ◌+◌, ◌≤◌, ◌<◌, Bool, true, false, List, [], ◌∷◌, ◌++◌, ◌≡◌, length}
use Rattle.decimals.specs.Decimal.{digit, value_of}
use Rattle.image.specs.Bytes.{letter_p, white}
use Rattle.image.specs.Tests.{Test}
use Rattle.image.specs.Seen.{limit, visible, bytes_of, reach}
use Rattle.image.specs.Kinds.{Kind}

-- every byte of a run is of a kind
abbrev pub AllOf : (ℕ → Bool) → List ℕ → Type 0
AllOf kind [] = Unit {0}
AllOf kind (byte ∷ later) = (kind byte ≡ true) × AllOf kind later

-- one or more bytes of a kind
pub record Some (kind : ℕ → Bool) (run : List ℕ) : Type 0 where
  pub all : AllOf kind run
  pub not_none : 0 < length run

-- a number as it stands in a header: the bytes before it, and its own
pub record Field : Type 0 where
  pub gap : List ℕ
  pub digits : List ℕ

-- white space, then decimal digits; leading zeros are allowed
abbrev pub Written : List Field → Type 0
Written [] = Unit {0}
Written (field ∷ later) = (Some white field.gap × Some digit field.digits) × Written later

-- the bytes of some fields, one after the other, and the numbers that their digits write
abbrev pub bytes_in : List Field → List ℕ
bytes_in [] = []
bytes_in (field ∷ later) = field.gap ++ (field.digits ++ bytes_in later)

abbrev pub numbers_in : List Field → List ℕ
numbers_in [] = []
numbers_in (field ∷ later) = value_of 0 field.digits ∷ numbers_in later

-- for each test a number that passes it
abbrev pub AllPass : List Test → List ℕ → Type 0
AllPass [] [] = Unit {0}
AllPass (test ∷ tests) (number ∷ numbers) = (test number ≡ true) × AllPass tests numbers
AllPass [] (number ∷ numbers) = ⊥
AllPass (test ∷ tests) [] = ⊥

-- bytes that are a header with these numbers: `P`, the sign, each number with white space before it, one white byte
pub record Header (sign : ℕ) (tests : List Test) (numbers bytes : List ℕ) : Type 0 where
  pub fields : List Field
  pub last : ℕ
  pub split : bytes ≡ letter_p ∷ sign ∷ (bytes_in fields ++ (last ∷ []))
  pub written : Written fields
  pub writes : numbers_in fields ≡ numbers
  pub passes : AllPass tests numbers
  pub one : white last ≡ true

-- bytes of a slice that are one: what is seen of them is, and the last of them is seen
pub record HeaderBytes (kind : Kind) (numbers bytes : List ℕ) : Type 0 where
  pub header : Header kind.sign kind.tests numbers (bytes_of (visible false 0 bytes))
  pub ends : reach (visible false 0 bytes) ≡ length bytes

-- a slice that starts with an image: its header, its raster with no position at fault, and whatever comes after them
pub record Image (kind : Kind) (s numbers : List ℕ) (start used : ℕ) : Type 0 where
  pub header : List ℕ
  pub raster : List ℕ
  pub rest : List ℕ
  pub split : s ≡ header ++ (raster ++ rest)
  pub head : HeaderBytes kind numbers header
  pub raster_length : length raster ≡ kind.size numbers
  pub sound : (position : ℕ) → position < kind.positions numbers → kind.faulty numbers raster position ≡ false
  pub starts : start ≡ length header
  pub uses : used ≡ length header + length raster
  pub within : used ≤ limit
