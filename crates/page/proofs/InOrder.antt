-- The refusals of the page's calls in their order: the verdict's, the newest image's, the older one's; and what is shown where there is none.
-- Assumes nothing.
use Rattle.std.proofs.Common.{◌≡◌, ℕ, zero, suc, [], ◌∷◌, sym, refl, ap, ◌∙◌}
use Rattle.refusals.specs.First.{passed_on, or_else, first_of}
use Rattle.refusals.specs.Call.{Call, refusal_of, result_of}
use Rattle.refusals.proofs.Calls.{result_taken, result_refused}
use Rattle.refusals.proofs.Laws.{or_else_stops}
use Rattle.book.specs.declared.Book.{Book}
use Rattle.book.specs.Answers.{Ruling}
use Rattle.book.specs.Verdict.{refusal_in}
use Rattle.image.specs.Reading.{numbers_of}
use Rattle.page.specs.Answers.{Picture}
use Rattle.page.specs.Shown.{picture_in, ruling_on}
use Rattle.page.specs.Calls.{Lent, page_call}

module _ {Result : Type 0} (book : Book) (window amount : ℕ) (lent : Lent) (shown : Picture → Result) (refused : ℕ → Result) where
  abbrev call : Call Result Lent
  call = page_call book window amount lent shown refused

  abbrev ruling : Ruling
  ruling = ruling_on book lent.ring window amount

  abbrev newest : ℕ
  newest = (numbers_of lent.newest).refusal

  abbrev older : ℕ
  older = (numbers_of lent.older).refusal

  pub page_refusal : refusal_of call ≡ or_else (refusal_in ruling) (or_else newest older)
  unfolding page_call
  page_refusal = by (refusal_in ruling) newest older
    where
      by : (a b c : ℕ) → first_of (passed_on a ∷ passed_on b ∷ passed_on c ∷ []) ≡ or_else a (or_else b c)
      by zero zero zero = refl
      by zero zero (suc c) = refl
      by zero (suc b) c = refl
      by (suc a) b c = refl

  pub verdict_first : (refusal_in ruling ≡ 0 → ⊥) → refused (refusal_in ruling) ≡ result_of call
  unfolding page_call
  verdict_first some = result_refused call (or_else_stops (refusal_in ruling) (or_else newest older) some ∙ sym page_refusal) some

  module _ (told : refusal_in ruling ≡ 0) where
    past : refusal_of call ≡ or_else newest older
    past = page_refusal ∙ ap (λ (n : ℕ). or_else n (or_else newest older)) told

    pub newest_next : (newest ≡ 0 → ⊥) → refused newest ≡ result_of call
    unfolding page_call
    newest_next some = result_refused call (or_else_stops newest older some ∙ sym past) some

    module _ (taken : newest ≡ 0) where
      last : older ≡ refusal_of call
      last = sym (past ∙ ap (λ (n : ℕ). or_else n older) taken)

      pub older_last : (older ≡ 0 → ⊥) → refused older ≡ result_of call
      unfolding page_call
      older_last some = result_refused call last some

      pub then_shown : older ≡ 0 → shown (picture_in ruling) ≡ result_of call
      unfolding page_call
      then_shown none = result_taken call last none
