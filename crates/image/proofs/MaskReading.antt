-- What holds of images of every kind, of a mask: it is accepted exactly where it is one as the format has it, its first fault decides, an
-- answer other than 14 stays, what is written is read back; and what its numbers are.
-- Assumes nothing.
use Prim.Native.Nat.{ℕ, ◌+◌, ◌*◌, ◌≤◌}
use mathlib.Core.Bool.{true}
use mathlib.Core.List.{List, [], ◌∷◌, ◌++◌}
use mathlib.Core.Logic.{⊎_elim}
use mathlib.Core.Path.{◌≡◌, refl, ap, ◌∙◌}
use native.Mathlib.Omega.{arith}
use lib.ListN.{length}
use Rattle.refusals.specs.Numbers.{wrong_byte, ends_too_early}
use Rattle.image.specs.Bytes.{white}
use Rattle.image.specs.Seen.{limit}
use Rattle.image.specs.Kinds.{width_in, height_in, maxval_in, largest_side, row_bytes, pbm}
use Rattle.image.specs.Format.{AllPass, Image}
use Rattle.image.specs.FirstFault.{FirstFault}
use Rattle.image.specs.Reading.{Reading, reading_of, named}
use Rattle.image.specs.Mask.{mask_numbers_of, mask_in}
use Rattle.image.specs.Promised.{Lies, ImageOf}
use Rattle.image.specs.Text.{header_text}
use Rattle.image.proofs.FieldsOfBytes.{up_to_range}
use Rattle.image.proofs.ReadingLies.{reading_sized, reading_lies_in, lies_length}
use Rattle.image.proofs.FirstFaultDecides.{first_fault, fault_refused}
use Rattle.image.proofs.RefusalRange.{refusal_up_to}
use Rattle.image.proofs.ExactReading.{accepted_is_image, image_used, image_is_accepted, accepted_passes}
use Rattle.image.proofs.PrefixLaw.{prefix_law_of}
use Rattle.image.proofs.RoundTrip.{round_trip}

-- promise 2.6
pub accepted_is_mask : (s : List ℕ) → (mask_numbers_of s).refusal ≡ 0 → ImageOf pbm s (reading_of pbm s)
unfolding mask_numbers_of
accepted_is_mask s e = accepted_is_image pbm s e

pub mask_is_accepted : (s : List ℕ) {numbers : List ℕ} {start used : ℕ} → Image pbm s numbers start used
    → mask_numbers_of s ≡ named record { refusal = 0; numbers = numbers; start = start; used = used }
unfolding mask_numbers_of
mask_is_accepted s p = ap named (image_is_accepted pbm s p)

-- promise B.7
pub mask_first_fault : (s : List ℕ) → ((mask_numbers_of s).refusal ≡ 0 → ⊥) → FirstFault pbm s (mask_numbers_of s).refusal
unfolding mask_numbers_of
mask_first_fault s = first_fault pbm s

pub mask_fault_refused : (s : List ℕ) {refusal : ℕ} → FirstFault pbm s refusal → (mask_numbers_of s).refusal ≡ refusal
unfolding mask_numbers_of
mask_fault_refused s f = fault_refused pbm s f

-- since no bit is bad, a mask is never refused with 15
pub mask_refusal_range : (s : List ℕ) → ((mask_numbers_of s).refusal ≡ 0 → ⊥)
    → (wrong_byte ≤ (mask_numbers_of s).refusal) × ((mask_numbers_of s).refusal ≤ ends_too_early)
unfolding mask_numbers_of pbm
mask_refusal_range s =
    refusal_up_to ends_too_early pbm s (omega arith) (λ numbers start bad. (let e = bad.faulty in let z : ◌≡◌ {A = ℕ} 0 1 = cc in omega arith))

-- the prefix law: so bytes after a mask are allowed
pub mask_prefix_law : (s more : List ℕ) → ((mask_numbers_of s).refusal ≡ ends_too_early → ⊥) → mask_numbers_of (s ++ more) ≡ mask_numbers_of s
unfolding mask_numbers_of
mask_prefix_law s more goes = ap named (prefix_law_of pbm s more goes)

-- a mask that is written is read back, whatever its bits are
pub mask_round_trip : (blank : ℕ) (numbers raster rest : List ℕ) → white blank ≡ true → AllPass pbm.tests numbers
    → length raster ≡ pbm.size numbers → let text = header_text pbm.sign blank numbers in length text + length raster ≤ limit
    → mask_numbers_of (text ++ (raster ++ rest))
    ≡ named record { refusal = 0; numbers = numbers; start = length text; used = length text + length raster }
unfolding mask_numbers_of pbm
mask_round_trip blank numbers raster rest w passes size fits =
    ap named (round_trip pbm blank numbers raster rest w passes size (λ position h. refl) fits)

-- where its bytes lie
pub mask_lies : (s : List ℕ) → Lies s (mask_numbers_of s).start (mask_numbers_of s).used
unfolding mask_numbers_of
mask_lies s = reading_lies_in pbm s

-- whole rows of them
pub mask_length : (s : List ℕ) → (mask_numbers_of s).refusal ≡ 0 → length (mask_in s) ≡ row_bytes (mask_numbers_of s).width * (mask_numbers_of s).height
unfolding mask_numbers_of pbm
mask_length s taken = lies_length s (mask_lies s) ∙ omega (arith, image_used pbm s (accepted_is_mask s taken))

-- its header has two numbers, in their ranges
abbrev InRange : ℕ → Type 0
InRange side = (1 ≤ side) × (side ≤ largest_side)

two_sides : (numbers : List ℕ) → AllPass pbm.tests numbers
    → (InRange (width_in numbers) × InRange (height_in numbers)) × (maxval_in numbers ≡ 0)
unfolding pbm
two_sides [] p = absurd p
two_sides (width ∷ []) p = absurd p.1
two_sides (width ∷ height ∷ []) p = ((up_to_range largest_side width p.0, up_to_range largest_side height p.1.0), refl)
two_sides (width ∷ height ∷ next ∷ more) p = absurd p.1.1

pub mask_sides : (s : List ℕ) → (mask_numbers_of s).refusal ≡ 0
    → (1 ≤ (mask_numbers_of s).width) × ((mask_numbers_of s).width ≤ largest_side) × (1 ≤ (mask_numbers_of s).height) × ((mask_numbers_of s).height ≤ largest_side)
unfolding mask_numbers_of
mask_sides s taken =
    let sides = (two_sides (reading_of pbm s).numbers (accepted_passes pbm s taken)).0 in
    (sides.0.0, sides.0.1, sides.1.0, sides.1.1)

-- so it has no maxval
pub mask_no_maxval : (s : List ℕ) → (mask_numbers_of s).maxval ≡ 0
unfolding mask_numbers_of
mask_no_maxval s =
    ⊎_elim (λ zeros. ap (λ (r : Reading). maxval_in r.numbers) zeros)
    (λ taken. (two_sides (reading_of pbm s).numbers (accepted_passes pbm s taken.0)).1) (reading_sized pbm s)
