-- The score of two images under a mask (SCOPE, Masks): what is refused, in order, and the number that is given.
use Rattle.std.specs.Prelude.{ℕ, ◌<◌, min, Bool, true, false, not, ◌&&◌, List, ◌∷◌, ◌++◌, ◌≡◌}
use Rattle.refusals.specs.First.{Fault, passed_on}
use Rattle.refusals.specs.Call.{Call}
use Rattle.image.specs.declared.told.Numbers.{Numbers}
use Rattle.image.specs.Reading.{numbers_of, positions_of, pixel_of}
use Rattle.image.specs.Mask.{mask_numbers_of}
use Rattle.score.specs.declared.Answer.{Answer}
use Rattle.score.specs.Changed.{moved_at, counted}
use Rattle.score.specs.Calls.{side_faults, differ_faults, image_faults}
use Rattle.score.specs.Black.{black_of}

-- whether a position counts: it is not black, and its pixels moved
abbrev pub unmasked : (black moved : ℕ → Bool) → ℕ → Bool
unmasked black moved position = not (black position) && moved position

-- the number of positions that count, or L if that number is larger
unfoldable pub masked_number : ℕ → ℕ → List ℕ → List ℕ → List ℕ → ℕ
masked_number bound allowance first second mask =
    min bound
    (counted (unmasked (black_of mask) (moved_at allowance (numbers_of first).maxval (pixel_of first) (pixel_of second))) (positions_of first))

-- in order: L out of range, the first image's refusal, the second's, the mask's, images that differ, and last a mask of another width or
-- height than the first image, which is 16 too
abbrev pub masked_faults : ℕ → (one two mask : Numbers) → List Fault
masked_faults bound one two mask =
    image_faults bound one two ++ (passed_on mask.refusal ∷ (differ_faults one two ++ side_faults one mask))

-- the call: the score, or a refusal with the number 0; images and mask are lent only to be read
unfoldable pub masked_call : ℕ → ℕ → List ℕ → List ℕ → List ℕ → Call Answer (List ℕ × List ℕ × List ℕ)
masked_call bound allowance first second mask =
    record {
      faults = masked_faults bound (numbers_of first) (numbers_of second) (mask_numbers_of mask);
      given = record { refusal = 0; value = masked_number bound allowance first second mask };
      left = (first, second, mask);
      back = λ number. record { refusal = number; value = 0 };
      lent = (first, second, mask);
    }

-- a mask that may lie on an image
pub record Fits (one mask : Numbers) : Type 0 where
  pub taken : mask.refusal ≡ 0
  pub width : one.width ≡ mask.width
  pub height : one.height ≡ mask.height

-- two masks that are refused alike, or taken with the same width and height
pub record SameSides (mask other : Numbers) : Type 0 where
  pub refusal : mask.refusal ≡ other.refusal
  pub width : mask.width ≡ other.width
  pub height : mask.height ≡ other.height

-- masks with every position white, and with every position black
abbrev pub AllWhite : (mask : List ℕ) (positions : ℕ) → Type 0
AllWhite mask positions = (position : ℕ) → position < positions → black_of mask position ≡ false

abbrev pub AllBlack : (mask : List ℕ) (positions : ℕ) → Type 0
AllBlack mask positions = (position : ℕ) → position < positions → black_of mask position ≡ true

-- a mask that is black wherever another is
abbrev pub Blacker : (mask darker : List ℕ) (positions : ℕ) → Type 0
Blacker mask darker positions = (position : ℕ) → position < positions → black_of mask position ≡ true → black_of darker position ≡ true
