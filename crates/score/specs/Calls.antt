-- The score of two images (SCOPE, Score): what is refused, in order, and the number that is given.
use Rattle.std.specs.Prelude.{ℕ, min, not, List, [], ◌∷◌, ◌++◌, ◌≡◌, eqb}
use Rattle.refusals.specs.Numbers.{bad_bound, images_differ}
use Rattle.refusals.specs.First.{Fault, ◌gives◌, passed_on, outside}
use Rattle.refusals.specs.Call.{Call}
use Rattle.image.specs.declared.told.Numbers.{Numbers}
use Rattle.image.specs.Reading.{numbers_of, positions_of, pixel_of}
use Rattle.score.specs.declared.Answer.{Answer}
use Rattle.score.specs.Changed.{moved_at, counted}

-- L is 1 to 65,535, as in a book
abbrev pub largest_bound : ℕ
largest_bound = 65535

-- 16: the images differ in width, height …
abbrev pub side_faults : Numbers → Numbers → List Fault
side_faults one two =
    (not (eqb one.width two.width) gives images_differ) ∷ (not (eqb one.height two.height) gives images_differ) ∷ []

-- … or maxval
abbrev pub maxval_faults : Numbers → Numbers → List Fault
maxval_faults one two = (not (eqb one.maxval two.maxval) gives images_differ) ∷ []

abbrev pub differ_faults : Numbers → Numbers → List Fault
differ_faults one two = side_faults one two ++ maxval_faults one two

-- in order: L out of range, the first image's refusal, the second's …
abbrev pub image_faults : ℕ → Numbers → Numbers → List Fault
image_faults bound one two = (outside 1 largest_bound bound gives bad_bound) ∷ passed_on one.refusal ∷ passed_on two.refusal ∷ []

-- … and images that differ
abbrev pub score_faults : ℕ → Numbers → Numbers → List Fault
score_faults bound one two = image_faults bound one two ++ differ_faults one two

-- the number of positions whose pixels differ by more than the allowance, or L if that number is larger; both images have one maxval
unfoldable pub score_number : ℕ → ℕ → List ℕ → List ℕ → ℕ
score_number bound allowance first second =
    min bound (counted (moved_at allowance (numbers_of first).maxval (pixel_of first) (pixel_of second)) (positions_of first))

-- the call, by the numbers of two images and what their score is: the score, or a refusal with the number 0; both images are lent only to be
-- read
abbrev pub score_row : ℕ → (one two : Numbers) (first second : List ℕ) (score : ℕ) → Call Answer (List ℕ × List ℕ)
score_row bound one two first second score =
    record {
      faults = score_faults bound one two;
      given = record { refusal = 0; value = score };
      left = (first, second);
      back = λ number. record { refusal = number; value = 0 };
      lent = (first, second);
    }

unfoldable pub score_call : ℕ → ℕ → List ℕ → List ℕ → Call Answer (List ℕ × List ℕ)
score_call bound allowance first second =
    score_row bound (numbers_of first) (numbers_of second) first second (score_number bound allowance first second)

-- two images that may be compared
pub record Alike (one two : Numbers) : Type 0 where
  pub one_taken : one.refusal ≡ 0
  pub two_taken : two.refusal ≡ 0
  pub width : one.width ≡ two.width
  pub height : one.height ≡ two.height
  pub maxval : one.maxval ≡ two.maxval
