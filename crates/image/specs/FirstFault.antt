-- The first fault of SCOPE, Images, said of the bytes alone (promise B.7): no reading is spoken of here.
use Rattle.std.specs.Prelude.{ℕ, ◌≤◌, ◌<◌, true, false, List, [], ◌∷◌, ◌++◌, ◌≡◌, length, take}
use Rattle.refusals.specs.Numbers.{wrong_byte, number_out_of_range, image_too_large, ends_too_early, pixel_too_large}
use Rattle.image.specs.Tests.{Test, failing, any_numbers}
use Rattle.image.specs.Seen.{limit, visible, bytes_of}
use Rattle.image.specs.Kinds.{Kind}
use Rattle.image.specs.Format.{Header, HeaderBytes}
use Rattle.image.specs.Reading.{used_with, raster_at}

-- these bytes are a header, whatever its numbers
pub record Complete (kind : Kind) (bytes : List ℕ) : Type 0 where
  pub numbers : List ℕ
  pub header : Header kind.sign (any_numbers kind.tests) numbers bytes

-- these bytes can go on, by one byte or more, to be one
pub record Begun (kind : Kind) (bytes : List ℕ) : Type 0 where
  pub more : List ℕ
  pub not_none : 0 < length more
  pub completes : Complete kind (bytes ++ more)

-- these bytes end with the white byte after a number that fails its test, and every number before it passes
pub record Over (kind : Kind) (bytes : List ℕ) : Type 0 where
  pub before : List Test
  pub test : Test
  pub after : List Test
  pub tests_are : kind.tests ≡ before ++ (test ∷ after)
  pub numbers : List ℕ
  pub header : Header kind.sign (before ++ (failing test ∷ [])) numbers bytes

-- nowhere in these bytes does such a number end
abbrev pub NothingOver : Kind → List ℕ → Type 0
NothingOver kind bytes = (first rest : List ℕ) → bytes ≡ first ++ rest → Over kind first → ⊥

-- a number out of range
pub record OutOfRange (kind : Kind) (bytes : List ℕ) : Type 0 where
  pub first : List ℕ
  pub rest : List ℕ
  pub split : bytes ≡ first ++ rest
  pub over : Over kind first

-- a byte with which a header can no longer be continued, nor is one
pub record WrongByte (kind : Kind) (bytes : List ℕ) : Type 0 where
  pub first : List ℕ
  pub byte : ℕ
  pub rest : List ℕ
  pub split : bytes ≡ first ++ (byte ∷ rest)
  pub begun : Begun kind first
  pub nothing_over : NothingOver kind first
  pub not_begun : Begun kind (first ++ (byte ∷ [])) → ⊥
  pub not_complete : Complete kind (first ++ (byte ∷ [])) → ⊥

-- the bytes run out while a header may still come
pub record RunsOut (kind : Kind) (bytes : List ℕ) : Type 0 where
  pub begun : Begun kind bytes
  pub nothing_over : NothingOver kind bytes

-- the header bytes of a slice: those among the first 24,576 that are seen
abbrev pub seen_in : List ℕ → List ℕ
seen_in s = bytes_of (visible false 0 (take limit s))

-- a slice that starts with a header, which ends within the limit
pub record Headed (kind : Kind) (s numbers : List ℕ) (start : ℕ) : Type 0 where
  pub header : List ℕ
  pub rest : List ℕ
  pub split : take limit s ≡ header ++ rest
  pub head : HeaderBytes kind numbers header
  pub starts : start ≡ length header

-- a position of the raster that is at fault
pub record BadPixel (kind : Kind) (s numbers : List ℕ) (start : ℕ) : Type 0 where
  pub position : ℕ
  pub there : position < kind.positions numbers
  pub faulty : kind.faulty numbers (raster_at kind s numbers start) position ≡ true

-- the first fault of a slice, with its number: one of the header's bytes, or, behind a whole header, one of the raster
pub data FirstFault (kind : Kind) (s : List ℕ) (refusal : ℕ) : Type 0 where
  is_wrong_byte : refusal ≡ wrong_byte → WrongByte kind (seen_in s) → FirstFault kind s refusal
  out_of_range : refusal ≡ number_out_of_range → OutOfRange kind (seen_in s) → FirstFault kind s refusal
  header_past_limit : refusal ≡ image_too_large → limit ≤ length s → RunsOut kind (seen_in s) → FirstFault kind s refusal
  header_cut_short : refusal ≡ ends_too_early → length s < limit → RunsOut kind (seen_in s) → FirstFault kind s refusal
  raster_past_limit : refusal ≡ image_too_large → (numbers : List ℕ) (start : ℕ) → Headed kind s numbers start
      → limit < used_with kind numbers start → FirstFault kind s refusal
  raster_cut_short : refusal ≡ ends_too_early → (numbers : List ℕ) (start : ℕ) → Headed kind s numbers start
      → used_with kind numbers start ≤ limit → length s < used_with kind numbers start → FirstFault kind s refusal
  bad_pixel : refusal ≡ pixel_too_large → (numbers : List ℕ) (start : ℕ) → Headed kind s numbers start
      → used_with kind numbers start ≤ limit → used_with kind numbers start ≤ length s → BadPixel kind s numbers start
      → FirstFault kind s refusal
