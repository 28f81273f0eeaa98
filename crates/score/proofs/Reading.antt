-- A score in its order: what is asked first decides, and then what is asked behind it; and where what was read lies.
-- Assumes nothing.
use Rattle.std.proofs.Common.{◌≡◌, ℕ, Ok, List, ◌∷◌, ◌++◌, sym, ◌∙◌}
use Rattle.refusals.specs.declared.Refusal.{Refusal}
use Rattle.refusals.specs.First.{Fault, passed_on, first_of}
use Rattle.refusals.specs.Refused.{number_of}
use Rattle.refusals.proofs.Numbers.{number_not_0}
use Rattle.refusals.proofs.Calls.{passed_on_first, passed_on_past}
use Rattle.image.specs.declared.Layout.{Layout}
use Rattle.image.specs.declared.told.Numbers.{Numbers}
use Rattle.image.specs.Reading.{numbers_of}
use Rattle.image.specs.Refused.{as_numbers}
use Rattle.image.specs.Promised.{Lies}
use Rattle.image.specs.Mask.{mask_numbers_of}
use Rattle.image.proofs.Promises.{reading_lies, mask_lies}
use Rattle.score.specs.Calls.{side_faults, differ_faults, image_faults}
use Rattle.score.specs.Masked.{masked_faults}
use Rattle.score.proofs.Refused.{first_own, first_later}

-- the numbers of what was read
abbrev pub known : Layout → Numbers
known layout = as_numbers (Ok layout)

-- an image that was read lies in its slice
pub known_lies : (layout : Layout) (s : List ℕ) → known layout ≡ numbers_of s → Lies s layout.start layout.used
known_lies layout s e = rw (sym e) at (reading_lies s)

-- a refusal that was found first is that of the whole list …
pub found_first : (refusal : Refusal) (own later : List Fault) → number_of refusal ≡ first_of own → number_of refusal ≡ first_of (own ++ later)
found_first refusal own later e = first_own own later e (number_not_0 refusal)

-- … and one that was found behind them, where they gave none
pub found_behind : {n : ℕ} (own later : List Fault) → 0 ≡ first_of own → n ≡ first_of later → n ≡ first_of (own ++ later)
found_behind own later none e = e ∙ sym (first_later own later (sym none))

-- UNDER A MASK, in order: the images' own refusal, the mask's, images that differ, a mask that does
module _ (bound : ℕ) (one two over : Numbers) where
  abbrev own : List Fault
  own = image_faults bound one two

  abbrev unlike : List Fault
  unlike = differ_faults one two ++ side_faults one over

  pub images_first : (refusal : Refusal) → number_of refusal ≡ first_of own → number_of refusal ≡ first_of (masked_faults bound one two over)
  images_first refusal = found_first refusal own (passed_on over.refusal ∷ unlike)

  module _ (none : 0 ≡ first_of own) where
    pub mask_next : (refusal : Refusal) → number_of refusal ≡ over.refusal → number_of refusal ≡ first_of (masked_faults bound one two over)
    mask_next refusal e =
        found_behind own (passed_on over.refusal ∷ unlike) none
        (e ∙ passed_on_first over.refusal unlike (λ z. number_not_0 refusal (e ∙ z)))

    module _ (taken : 0 ≡ over.refusal) where
      behind_mask : {n : ℕ} → n ≡ first_of unlike → n ≡ first_of (masked_faults bound one two over)
      behind_mask e = found_behind own (passed_on over.refusal ∷ unlike) none (e ∙ sym (passed_on_past over.refusal unlike (sym taken)))

      pub images_differ_next : (refusal : Refusal) → number_of refusal ≡ first_of (differ_faults one two)
          → number_of refusal ≡ first_of (masked_faults bound one two over)
      images_differ_next refusal e = behind_mask (found_first refusal (differ_faults one two) (side_faults one over) e)

      pub mask_differs_last : {n : ℕ} → 0 ≡ first_of (differ_faults one two) → n ≡ first_of (side_faults one over)
          → n ≡ first_of (masked_faults bound one two over)
      mask_differs_last alike e = behind_mask (found_behind (differ_faults one two) (side_faults one over) alike e)

-- and so does a mask
pub mask_known_lies : (layout : Layout) (s : List ℕ) → known layout ≡ mask_numbers_of s → Lies s layout.start layout.used
mask_known_lies layout s e = rw (sym e) at (mask_lies s)
