-- What a mask does to a score: white leaves it, black takes all of it, blackening never raises it, and padding bits do nothing.
-- Assumes nothing.
use Prim.Native.Nat.{ℕ, ◌≤◌, ◌<◌, min}
use mathlib.Core.Bool.{Bool, true, false, not, ◌&&◌}
use mathlib.Core.List.{List, [], ◌∷◌, ◌++◌}
use mathlib.Core.Path.{◌≡◌, refl, sym, ap, ◌∙◌}
use native.Mathlib.Omega.{arith}
use borrow.Author.Tests.{eq-eqb}
use lib.Dec.{eqb}
use Rattle.refusals.specs.Numbers.{images_differ}
use Rattle.refusals.specs.First.{◌gives◌, passed_on, first_of}
use Rattle.refusals.specs.Call.{Call, refusal_of, result_of}
use Rattle.refusals.proofs.Calls.{passed_on_past, result_taken, result_cases, same_result}
use Rattle.image.specs.declared.told.Numbers.{Numbers}
use Rattle.image.specs.Reading.{numbers_of, positions_of, pixel_of}
use Rattle.image.specs.Mask.{mask_numbers_of}
use Rattle.score.specs.declared.Answer.{Answer}
use Rattle.score.specs.Changed.{moved_at}
use Rattle.score.specs.Calls.{side_faults, differ_faults, image_faults, score_faults, score_number, score_call}
use Rattle.score.specs.Black.{black_of}
use Rattle.score.specs.Masked.{unmasked, masked_number, masked_faults, masked_call, Fits, SameSides, AllWhite, AllBlack, Blacker}
use Rattle.score.proofs.Counts.{counted_nowhere, counted_fewer, counted_same}
use Rattle.score.proofs.Refused.{first_behind, first_none}

-- which positions count: none that is black, and of the others those that moved
white_counts : {black : Bool} (moved : Bool) → black ≡ false → (not black && moved) ≡ moved
white_counts moved e = ap (λ (b : Bool). not b && moved) e

black_counts_not : {black : Bool} (moved : Bool) → black ≡ true → (not black && moved) ≡ false
black_counts_not moved e = ap (λ (b : Bool). not b && moved) e

darker_counts : (black darker moved : Bool) → (black ≡ true → darker ≡ true) → (not darker && moved) ≡ true → (not black && moved) ≡ true
darker_counts false darker true so e = refl
darker_counts false darker false so e = sym (never darker) ∙ e
  where
    never : (b : Bool) → (not b && false) ≡ false
    never true = refl
    never false = refl
darker_counts true darker moved so e = sym (black_counts_not moved (so refl)) ∙ e

-- a mask that fits refuses nothing that the images do not
fits_refusal : (bound : ℕ) (one two mask : Numbers) → Fits one mask → first_of (masked_faults bound one two mask) ≡ first_of (score_faults bound one two)
fits_refusal bound one two mask fits =
    let alike : first_of (side_faults one mask) ≡ 0 =
    rw (eq-eqb one.width mask.width fits.width, eq-eqb one.height mask.height fits.height) refl in
    let unlike = differ_faults one two ++ side_faults one mask in
    first_behind (image_faults bound one two) (passed_on mask.refusal ∷ unlike) (differ_faults one two)
    (passed_on_past mask.refusal unlike fits.taken ∙ first_none (differ_faults one two) (side_faults one mask) alike)

-- masks of the same sides refuse the same
same_refusal : (bound : ℕ) (one two mask other : Numbers) → SameSides mask other
    → first_of (masked_faults bound one two mask) ≡ first_of (masked_faults bound one two other)
same_refusal bound one two mask other same =
    λ i. first_of (image_faults bound one two ++ (passed_on (same.refusal i) ∷ (differ_faults one two
    ++ ((not (eqb one.width (same.width i)) gives images_differ) ∷ (not (eqb one.height (same.height i)) gives images_differ) ∷ []))))

module _ (bound allowance : ℕ) (first second : List ℕ) where
  abbrev moves : ℕ → Bool
  moves = moved_at allowance (numbers_of first).maxval (pixel_of first) (pixel_of second)

  abbrev call : List ℕ → Call Answer (List ℕ × List ℕ × List ℕ)
  call = masked_call bound allowance first second

  -- ALL WHITE: the plain score, refused calls too
  pub white_is_plain : (mask : List ℕ) → Fits (numbers_of first) (mask_numbers_of mask) → AllWhite mask (positions_of first)
      → result_of (masked_call bound allowance first second mask) ≡ result_of (score_call bound allowance first second)
  unfolding masked_call score_call masked_number score_number
  white_is_plain mask fits white =
      same_result (call mask) (score_call bound allowance first second) (fits_refusal bound (numbers_of first) (numbers_of second) (mask_numbers_of mask) fits)
      (λ i. record {
        refusal = 0;
        value = min bound (counted_same _ moves (positions_of first) (λ position lt. white_counts (moves position) (white position lt)) i);
      }) refl

  -- ALL BLACK: 0
  pub black_is_0 : (mask : List ℕ) → AllBlack mask (positions_of first) → (result_of (masked_call bound allowance first second mask)).value ≡ 0
  unfolding masked_call masked_number
  black_is_0 mask black =
      result_cases (λ r. r.value ≡ 0) (call mask)
      (λ e. (let none = counted_nowhere (unmasked (black_of mask) moves) (positions_of first) (λ position lt. black_counts_not (moves position) (black position lt)) in
      omega (arith, none))) (λ number e. refl)

  -- BLACKENING FURTHER POSITIONS never raises a score
  pub blacker_no_higher : (mask darker : List ℕ) → SameSides (mask_numbers_of mask) (mask_numbers_of darker) → Blacker mask darker (positions_of first)
      → (result_of (masked_call bound allowance first second darker)).value ≤ (result_of (masked_call bound allowance first second mask)).value
  unfolding masked_call masked_number
  blacker_no_higher mask darker same blacker =
      result_cases (λ r. r.value ≤ (result_of (call mask)).value) (call darker)
      (λ e. (let also : refusal_of (call mask) ≡ 0 = same_refusal bound (numbers_of first) (numbers_of second) _ _ same ∙ e in
      let given : (call mask).given ≡ result_of (call mask) = result_taken (call mask) refl also in
      let fewer = counted_fewer (unmasked (black_of darker) moves) (unmasked (black_of mask) moves) (positions_of first)
      (λ position lt. darker_counts (black_of mask position) (black_of darker position) (moves position) (blacker position lt)) in
      omega (arith, fewer, ap (λ (answer : Answer). answer.value) given))) (λ number e. omega arith)

  -- PADDING: masks of the same sides that are black at the same positions give the same answer, whatever else their bytes hold
  pub padding_free : (mask other : List ℕ) → SameSides (mask_numbers_of mask) (mask_numbers_of other)
      → ((position : ℕ) → position < positions_of first → black_of mask position ≡ black_of other position)
      → result_of (masked_call bound allowance first second mask) ≡ result_of (masked_call bound allowance first second other)
  unfolding masked_call masked_number
  padding_free mask other same alike =
      same_result (call mask) (call other) (same_refusal bound (numbers_of first) (numbers_of second) _ _ same)
      (λ i. record {
        refusal = 0;
        value = min bound (counted_same (unmasked (black_of mask) moves) (unmasked (black_of other) moves) (positions_of first)
            (λ position lt. ap (λ (b : Bool). not b && moves position) (alike position lt)) i);
      }) refl

  -- at most L: what the book asks of an item
  pub masked_le_bound : (mask : List ℕ) → (result_of (masked_call bound allowance first second mask)).value ≤ bound
  unfolding masked_call masked_number
  masked_le_bound mask = result_cases (λ r. r.value ≤ bound) (call mask) (λ e. omega arith) (λ number e. omega arith)
