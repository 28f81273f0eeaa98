-- THE CALLS: how they are refused, which picture they show, where its raster lies, and how old it is.
-- Assumes nothing.
use Rattle.std.proofs.Common.{◌≡◌, ℕ, zero, suc, ◌+◌, ◌-◌, ◌<◌, ◌≤◌, List, length, sym, refl, ◌∙◌, arith}
use Rattle.refusals.specs.First.{or_else}
use Rattle.refusals.specs.Call.{refusal_of, result_of}
use Rattle.refusals.proofs.Calls.{result_taken, result_refused, result_number, result_cases}
use Rattle.book.specs.declared.Book.{Book}
use Rattle.book.specs.declared.verdicts.Verdict.{Verdict}
use Rattle.book.specs.declared.verdicts.Verdict.TheVariants.{Live, Frozen, Undecided, Resting}
use Rattle.book.specs.Answers.{Ruling}
use Rattle.book.specs.Answers.{Told, Refused}
use Rattle.book.specs.Verdict.{verdict_now, verdict_number, refusal_in, ruling_number}
use Rattle.book.specs.Figure.{figure}
use Rattle.book.specs.Calls.{verdict_call}
use Rattle.book.proofs.Promises.{verdict_tells, verdict_gives}
use Rattle.image.specs.Reading.{numbers_of}
use Rattle.image.specs.Part.{cut, raster_of, empty_part}
use Rattle.image.proofs.Promises.{reading_lies}
use Rattle.page.specs.Answers.{Picture}
use Rattle.page.specs.Answers.{Newest, Older}
use Rattle.page.specs.Answers.{Choice}
use Rattle.page.specs.Ages.{full_turn, age_of, tick_at, ticks_at}
use Rattle.page.specs.Shown.{picture_by, picture_in, ruling_on, of_shown, age_shown}
use Rattle.page.specs.Calls.{Lent, lent_by, page_call, choice_of, no_choice, show_call, part_call}
use Rattle.page.specs.Both.{Asked, ruling_to, shown_to, refused_to, part_to}
use Rattle.page.proofs.TrueTimes.{age_true}
use Rattle.page.proofs.Pictures.{of_shown_made, raster_of_shown, cut_nothing}
use Rattle.page.proofs.InOrder.{page_refusal}
use Rattle.page.proofs.PickedFirst.{page_forms}

-- WHICH PICTURE, by the verdict
module _ (book : Book) (ring : List ℕ) (window amount : ℕ) where
  abbrev ruling : Ruling
  ruling = ruling_on book ring window amount

  -- where the verdict is not refused, it is told
  told : refusal_in ruling ≡ 0 → ruling ≡ Told (record { window = window; verdict = verdict_now book amount (figure book ring window) })
  told none =
      let tells = verdict_tells book ring window amount (λ notice. refl) (λ number. refl) in
      verdict_gives book ring window amount (sym (result_number refusal_in (verdict_call book ring window amount) tells) ∙ none)

  -- the newest if the verdict is live …
  picture_live : ruling_number ruling ≡ 1 → picture_in ruling ≡ Newest
  picture_live = by ruling
    where
      of : (verdict : Verdict) → verdict_number verdict ≡ 1 → picture_by verdict ≡ Newest
      of (Live f) e = refl
      of (Frozen f) e = absurd (omega arith)
      of (Undecided f) e = absurd (omega arith)
      of (Resting f) e = absurd (omega arith)

      by : (answer : Ruling) → ruling_number answer ≡ 1 → picture_in answer ≡ Newest
      by (Told notice) e = of notice.verdict e
      by (Refused number) e = absurd (omega arith)

  -- … otherwise the older one
  picture_else : refusal_in ruling ≡ 0 → (ruling_number ruling ≡ 1 → ⊥) → picture_in ruling ≡ Older
  picture_else none other = rw (told none) (of (verdict_now book amount (figure book ring window)) (rw (told none) at other))
    where
      of : (verdict : Verdict) → (verdict_number verdict ≡ 1 → ⊥) → picture_by verdict ≡ Older
      of (Live f) ne = absurd (ne refl)
      of (Frozen f) ne = refl
      of (Undecided f) ne = refl
      of (Resting f) ne = refl

-- BOTH CALLS, handed the same
module _ (a : Asked) where
  -- they are refused alike: with the verdict's refusal, then the newest image's, then the other's
  pub show_refusal : refused_to a
      ≡ or_else (refusal_in (ruling_to a)) (or_else (numbers_of a.newest.now).refusal (numbers_of a.older.now).refusal)
  unfolding show_call
  show_refusal = page_refusal a.book a.window a.amount (lent_by a.ring a.newest a.older) _ no_choice

  pub raster_refusal_lem : refusal_of (part_call a.book a.window a.amount a.ring a.newest a.older) ≡ refused_to a
  unfolding show_call part_call page_call
  raster_refusal_lem = refl

  -- the raster is the part of the picture's slice that show tells of, refused or not
  pub raster_at_choice : cut (of_shown (shown_to a).picture a.newest a.older) (shown_to a).offset (shown_to a).length ≡ part_to a
  unfolding show_call part_call
  raster_at_choice =
      page_forms a.book a.window a.amount (lent_by a.ring a.newest a.older)
      (λ (choice : Choice). cut (of_shown choice.picture a.newest a.older) choice.offset choice.length) _ _ _ _
      (λ picture. raster_of_shown picture a.newest a.older) (λ number. cut_nothing a.newest)

  -- refused: neither picture, age 0, and the empty part at the start of the newest's slice
  module _ (number : ℕ) (refused : refused_to a ≡ suc number) where
    pub refused_shows_neither : shown_to a ≡ no_choice (suc number)
    unfolding show_call page_call
    refused_shows_neither = sym (result_refused _ (sym refused) (λ e. omega arith))

    pub refused_raster : part_to a ≡ empty_part a.newest
    unfolding part_call page_call
    refused_raster = sym (result_refused _ (sym (raster_refusal_lem ∙ refused)) (λ e. omega arith))

  -- not refused: …
  module _ (taken : refused_to a ≡ 0) where
    picture_shown : {picture : Picture} → picture_in (ruling_to a) ≡ picture
        → let numbers = numbers_of (of_shown picture a.newest.now a.older.now) in
        (shown_to a ≡ choice_of picture numbers.start numbers.used (age_shown a.ticks picture))
        × (part_to a ≡ raster_of (of_shown picture a.newest a.older))
    unfolding show_call part_call page_call
    picture_shown e = (sym (result_taken _ (sym taken) refl) ∙ rw e, sym (result_taken _ (sym (raster_refusal_lem ∙ taken)) refl) ∙ rw e)

    verdict_told : refusal_in (ruling_to a) ≡ 0
    verdict_told = by (refusal_in (ruling_to a)) _ (sym show_refusal ∙ taken)
      where
        by : (n m : ℕ) → or_else n m ≡ 0 → n ≡ 0
        by zero m e = refl
        by (suc n) m e = e

    -- … the newest if the verdict is live …
    pub live_shows_newest : ruling_number (ruling_to a) ≡ 1 → let numbers = numbers_of a.newest.now in
        (shown_to a ≡ choice_of Newest numbers.start numbers.used (age_of a.ticks.present a.ticks.newest))
        × (part_to a ≡ raster_of a.newest)
    live_shows_newest live = picture_shown (picture_live a.book a.ring.now a.window a.amount live)

    -- … otherwise the older one
    pub else_shows_older : (ruling_number (ruling_to a) ≡ 1 → ⊥) → let numbers = numbers_of a.older.now in
        (shown_to a ≡ choice_of Older numbers.start numbers.used (age_of a.ticks.present a.ticks.older))
        × (part_to a ≡ raster_of a.older)
    else_shows_older other = picture_shown (picture_else a.book a.ring.now a.window a.amount verdict_told other)

  -- THE PLACE lies in the slice of the picture that is shown
  pub shown_lies : (shown_to a).offset + (shown_to a).length ≤ length (of_shown (shown_to a).picture a.newest a.older).now
  unfolding show_call page_call
  shown_lies =
      rw (of_shown_made (λ x. x.now) (shown_to a).picture a.newest a.older)
      (result_cases Within (show_call a.book a.window a.amount (lent_by a.ring a.newest a.older) a.ticks)
      (λ e. whole _) (λ number e. omega arith))
    where
      Within : Choice → Type 0
      Within choice = choice.offset + choice.length ≤ length (of_shown choice.picture a.newest.now a.older.now)

      whole : (s : List ℕ) → (numbers_of s).start + ((numbers_of s).used - (numbers_of s).start) ≤ length s
      whole s = omega (arith, (reading_lies s).order, (reading_lies s).there)

-- THE AGE OVER TRUE TIMES, counted without end: where the picture that is shown was taken at a time not after now, and less than a full turn before
-- it, its age is the time between them
pub shown_age : (book : Book) (window amount : ℕ) (lent : Lent) (newest_time older_time time : ℕ)
    → let call = show_call book window amount lent (ticks_at newest_time older_time time) in
    refusal_of call ≡ 0 → let own = of_shown (result_of call).picture newest_time older_time in
    own ≤ time → time < own + full_turn → (result_of call).age ≡ time - own
unfolding show_call page_call
shown_age book window amount lent newest_time older_time time taken before within =
    result_cases Aged (show_call book window amount lent (ticks_at newest_time older_time time))
    (λ e. by (picture_in (ruling_on book lent.ring window amount)))
    (λ number e. absurd (let z = sym taken ∙ e in omega arith)) before within
  where
    Aged : Choice → Type 0
    Aged choice = let own = of_shown choice.picture newest_time older_time in own ≤ time → time < own + full_turn → choice.age ≡ time - own

    by : (picture : Picture) → let own = of_shown picture newest_time older_time in
        own ≤ time → time < own + full_turn → age_shown (ticks_at newest_time older_time time) picture ≡ time - own
    by picture before within =
        rw (sym (of_shown_made tick_at picture newest_time older_time)) (age_true (of_shown picture newest_time older_time) time before within)
