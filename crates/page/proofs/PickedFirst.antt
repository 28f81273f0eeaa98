-- What both calls make of the picture that the code picks first is what their rows give.
-- Assumes nothing.
use Rattle.std.proofs.Common.{◌≡◌, ℕ, suc, ◌-◌, List, sym, refl, ap, ◌∙◌, arith, Bor}
use Rattle.refusals.specs.Call.{refusal_of, result_of}
use Rattle.refusals.proofs.Calls.{result_cases, result_taken, result_refused}
use Rattle.book.specs.declared.Book.{Book}
use Rattle.image.specs.Part.{Part, cut}
use Rattle.image.specs.Promised.{Lies}
use Rattle.image.proofs.Promises.{reading_lies}
use Rattle.page.specs.Answers.{Picture}
use Rattle.page.specs.declared.Ticks.{Ticks}
use Rattle.page.specs.Answers.{Picked}
use Rattle.page.specs.Shown.{of_shown, age_shown}
use Rattle.page.specs.Calls.{Lent, lent_by, page_call, choice_of, no_choice, show_call, part_call}
use Rattle.page.specs.Picked.{no_picture, pick_call}
use Rattle.page.proofs.Pictures.{raster_of_shown, cut_nothing}

module _ (book : Book) (window amount : ℕ) (lent : Lent) where
  -- ONE CALL OF THE PAGE AS ANOTHER: what is made of what the one gives is what the other gives, if it is so of the picture that is shown and of each
  -- refusal
  pub page_forms : {A B : Type 0} (form : A → B) (shown : Picture → A) (refused : ℕ → A) (shown' : Picture → B) (refused' : ℕ → B)
      → ((picture : Picture) → form (shown picture) ≡ shown' picture) → ((number : ℕ) → form (refused (suc number)) ≡ refused' (suc number))
      → form (result_of (page_call book window amount lent shown refused)) ≡ result_of (page_call book window amount lent shown' refused')
  unfolding page_call
  page_forms form shown refused shown' refused' same back =
      result_cases (λ r. form r ≡ result_of (page_call book window amount lent shown' refused')) (page_call book window amount lent shown refused)
      (λ e. same _ ∙ result_taken (page_call book window amount lent shown' refused') (sym e) refl)
      (λ number e. back number ∙ result_refused (page_call book window amount lent shown' refused') (sym e) (λ none. omega arith))

  abbrev picked : Picked
  picked = result_of (pick_call book window amount lent)

  picked_refusal : picked.refusal ≡ refusal_of (pick_call book window amount lent)
  unfolding pick_call page_call
  picked_refusal =
      result_cases (λ p. p.refusal ≡ refusal_of (pick_call book window amount lent)) (pick_call book window amount lent)
      (λ e. sym e) (λ number e. sym e)

  -- what is picked lies in the slice of its picture
  pub picked_lies : Lies (of_shown picked.picture lent.newest lent.older) picked.start picked.end
  unfolding pick_call page_call
  picked_lies =
      result_cases (λ p. Lies (of_shown p.picture lent.newest lent.older) p.start p.end) (pick_call book window amount lent)
      (λ e. reading_lies _) (λ number e. record { order = omega arith; there = omega arith; within = omega arith })

  -- SHOW, refused and not
  module _ (ticks : Ticks) where
    pub show_refused : (picked.refusal ≡ 0 → ⊥) → no_choice picked.refusal ≡ result_of (show_call book window amount lent ticks)
    unfolding pick_call show_call page_call
    show_refused some = result_refused (show_call book window amount lent ticks) picked_refusal some

    pub show_taken : picked.refusal ≡ 0
        → choice_of picked.picture picked.start picked.end (age_shown ticks picked.picture)
        ≡ result_of (show_call book window amount lent ticks)
    unfolding pick_call show_call page_call
    show_taken none =
        ap (λ (p : Picked). choice_of p.picture p.start p.end (age_shown ticks p.picture))
        (sym (result_taken (pick_call book window amount lent) picked_refusal none))
        ∙ result_taken (show_call book window amount lent ticks) picked_refusal none

-- RASTER: the part of the picture's slice between the two places
abbrev pub part_in : (newest older : Bor (List ℕ)) → Picked → Part
part_in newest older picked = cut (of_shown picked.picture newest older) picked.start (picked.end - picked.start)

pub picked_part : (book : Book) (window amount : ℕ) (ring newest older : Bor (List ℕ))
    → part_in newest older (result_of (pick_call book window amount (lent_by ring newest older)))
    ≡ result_of (part_call book window amount ring newest older)
unfolding pick_call part_call
picked_part book window amount ring newest older =
    page_forms book window amount (lent_by ring newest older) (part_in newest older) _ no_picture _ _
    (λ picture. raster_of_shown picture newest older) (λ number. cut_nothing newest)
