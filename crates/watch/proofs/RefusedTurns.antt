-- A refused turn leaves the ring as it was, in every state; and in a run it is refused with one of 11 to 16: an image is refused, or the
-- two images differ, and the book refuses nothing.
-- Assumes nothing.
use Rattle.std.specs.Prelude.{Option}
use Prim.Native.Nat.{ℕ, zero, suc, ◌≤◌}
use native.Mathlib.Decide.{ℕ_discrete}
use native.Mathlib.Omega.{arith}
use mathlib.Core.Bool.{Bool, true, false}
use mathlib.Core.List.{List, [], ◌∷◌}
use mathlib.Core.Path.{◌≡◌, refl, sym, ap, subst, ◌∙◌}
use Rattle.refusals.specs.Numbers.{wrong_byte, images_differ}
use Rattle.refusals.specs.First.{Fault, ◌gives◌, is_refusal, first_of}
use Rattle.refusals.specs.Call.{refusal_of, result_of, left_of}
use Rattle.refusals.proofs.Calls.{passed_on_numbered, result_cases}
use Rattle.book.specs.declared.Book.{Book}
use Rattle.book.specs.declared.told.Updated.{Updated}
use Rattle.book.specs.declared.told.Figure.{Figure}
use Rattle.book.specs.Adding.{added, added_ring}
use Rattle.book.specs.Calls.{add_call, total_call}
use Rattle.book.proofs.Promises.{add_known, add_gives, added_usable, total_taken, total_gives}
use Rattle.demands.proofs.Demand2.{demand_2}
use Rattle.image.specs.Reading.{numbers_of}
use Rattle.image.proofs.Promises.{refusal_range}
use Rattle.score.specs.declared.Answer.{Answer}
use Rattle.score.specs.Calls.{score_faults, score_call}
use Rattle.score.proofs.Promises.{refusal_is}
use Rattle.watch.specs.Answers.{Refused, Ends}
use Rattle.watch.specs.declared.State.{State}
use Rattle.watch.specs.Setting as setting
use Rattle.watch.specs.Turn.{Outcome, shown_of, outcome_of}
use Rattle.watch.specs.Output.{Moment, outcome_at, Runs}
use Rattle.watch.specs.TrueRows.{scores_of}
use Rattle.watch.proofs.Deciding.{untaken_leaves}
use Rattle.watch.proofs.OutcomeCases.{shown_cases, score_of, counted_cases, decided_cases, outcome_cases}
use Rattle.watch.proofs.Streaming.{refused_no_row, refused_no_wait}
use Rattle.watch.proofs.RowsAreTrue.{scores_good, score_taken, runs_from_opening}

ends_not_refused : {refusal : ℕ} → Ends ≡ Refused refusal → ⊥
ends_not_refused e = cc

same_refusal : {one two : ℕ} → Refused one ≡ Refused two → one ≡ two
same_refusal e = cc

-- where the total for the window kept is not refused, a row is shown
shown_taken : (state : State) (ring : List ℕ) (scored : Option ℕ) (used refusal : ℕ)
    → (result_of (total_call state.book ring state.book.kept)).refusal ≡ 0 → shown_of state ring scored used ≡ Refused refusal → ⊥
shown_taken state ring scored used refusal none =
    shown_cases state ring scored used (λ t. t ≡ Refused refusal → ⊥) (λ taken e. refused_no_row (sym e)) (λ refused e. refused none)

-- after an item that is taken the total for the window kept is not refused
total_after : (book : Book) (ring : List ℕ) (item : ℕ) → refusal_of (add_call book ring item) ≡ 0
    → let call = add_call book ring item in (result_of (total_call (result_of call).book (left_of call) (result_of call).book.kept)).refusal ≡ 0
total_after book ring item taken =
    let came = add_gives book ring item taken in
    let known = add_known book ring item taken in
    let window = (added book item).kept in
    let usable = added_usable book ring item known.0 known.1 in
    rw (ap (λ (u : Updated). u.book) came.0, came.1)
    (ap (λ (f : Figure). f.refusal)
    (total_gives (added book item) (added_ring book ring item) window
    (total_taken (added book item) (added_ring book ring item) window usable (omega arith))))

-- A REFUSED TURN leaves the ring, whatever the state is
pub refused_leaves : (state : State) (ring last rest : List ℕ) (over : Bool) (refusal : ℕ)
    → (outcome_of state ring last rest over).turn ≡ Refused refusal → (outcome_of state ring last rest over).ring ≡ ring
refused_leaves state ring last rest over refusal =
    outcome_cases state ring last rest over Claim (λ go why e. refl) (λ done none e. refl)
    (λ some whole. decided_cases state ring last rest Claim (λ refused e. refl) (λ taken first e. refl)
    (λ taken later. counted_cases state ring last _ Claim (λ refused e. refl) (λ refused e. refl)
    (λ scored added e. in_the_book _ _ _ (ℕ_discrete (refusal_of (add_call state.book ring (score_of last _).value)) 0) e)))
  where
    Claim : Outcome → Type 0
    Claim outcome = outcome.turn ≡ Refused refusal → outcome.ring ≡ ring

    in_the_book : (image : List ℕ) (scored : Option ℕ) (used : ℕ) → let call = add_call state.book ring (score_of last image).value in
        Dec (refusal_of call ≡ 0)
        → shown_of (record { book = (result_of call).book; frames = state.frames }) (left_of call) scored used ≡ Refused refusal → left_of call ≡ ring
    in_the_book image scored used (yes taken) e =
        absurd (shown_taken _ _ scored used refusal (total_after state.book ring (score_of last image).value taken) e)
    in_the_book image scored used (no ne) e = untaken_leaves state.book ring (score_of last image).value ne

-- THE NUMBERS are 11 to 16, and so of the first of faults that have such numbers
abbrev Known : ℕ → Type 0
Known refusal = (wrong_byte ≤ refusal) × (refusal ≤ images_differ)

abbrev AllKnown : List Fault → Type 0
AllKnown [] = Unit {0}
AllKnown ((holds gives number) ∷ later) = (holds ≡ true → Known number) × AllKnown later

first_known : (faults : List Fault) → AllKnown faults → (first_of faults ≡ 0 → ⊥) → Known (first_of faults)
first_known [] all ne = absurd (ne refl)
first_known ((false gives number) ∷ later) all ne = first_known later all.1 ne
first_known ((true gives zero) ∷ later) all ne = first_known later all.1 ne
first_known ((true gives suc number) ∷ later) all ne = all.0 refl

image_known : (bytes : List ℕ) → ((numbers_of bytes).refusal ≡ 0 → ⊥) → Known (numbers_of bytes).refusal
image_known bytes ne = let range = refusal_range bytes ne in (range.0, omega (arith, range.1))

-- a score of the setting is refused with the refusal of one of its images, or because they differ
module _ (last image : List ℕ) where
  score_known : ((score_of last image).refusal ≡ 0 → ⊥) → Known (score_of last image).refusal
  unfolding score_call
  score_known =
      result_cases (λ (answer : Answer). (answer.refusal ≡ 0 → ⊥) → Known answer.refusal) (score_call setting.bound setting.allowance last image)
      (λ e ne. absurd (ne refl))
      (λ number e ne. (let is = refusal_is setting.bound setting.allowance last image ∙ e in
      rw is at (first_known (score_faults setting.bound (numbers_of last) (numbers_of image)) all_known (λ none. ne (sym is ∙ none)))))
    where
      passed : (bytes : List ℕ) → is_refusal (numbers_of bytes).refusal ≡ true → Known (numbers_of bytes).refusal
      passed bytes e = image_known bytes (λ none. omega (arith, passed_on_numbered (numbers_of bytes).refusal e))

      differ : Known images_differ
      differ = (omega arith, omega arith)

      all_known : AllKnown (score_faults setting.bound (numbers_of last) (numbers_of image))
      all_known =
          (λ e. absurd cc, (passed last, (passed image, (λ e. differ, (λ e. differ, (λ e. differ, tt))))))

-- IN A RUN a refusal is one of those: the book takes every score, and has a total for the window kept
pub run_refusal_range : (input : List ℕ) (moment : Moment) → Runs input moment → (over : Bool) (refusal : ℕ)
    → (outcome_at moment over).turn ≡ Refused refusal → (wrong_byte ≤ refusal) × (refusal ≤ images_differ)
run_refusal_range input moment run over refusal =
    outcome_cases moment.state ring last moment.hand over Claim (λ go why e. absurd (refused_no_wait (sym e)))
    (λ done none e. absurd (ends_not_refused e))
    (λ some whole. decided_cases moment.state ring last moment.hand Claim
    (λ refused e. subst Known (same_refusal e) (image_known moment.hand refused))
    (λ taken first e. absurd (shown_taken _ _ _ _ refusal total_there e))
    (λ taken later. counted_cases moment.state ring last _ Claim
    (λ refused e. subst Known (same_refusal e) (score_known last _ refused))
    (λ refused e. absurd (refused (ap (λ (u : Updated). u.refusal) (add_gives book ring _ (item_there _)).0)))
    (λ scored added e. absurd (shown_taken _ _ _ _ refusal (total_after book ring _ (item_there _)) e))))
  where
    Claim : Outcome → Type 0
    Claim outcome = outcome.turn ≡ Refused refusal → Known refusal

    book : Book
    book = moment.state.book

    ring : List ℕ
    ring = moment.ring

    last : List ℕ
    last = moment.last

    scores : List ℕ
    scores = scores_of moment.lines

    total_there : (result_of (total_call book ring book.kept)).refusal ≡ 0
    total_there =
        (demand_2 book ring scores (scores_good book ring scores (runs_from_opening input moment run)) book.kept (omega arith)).not_refused

    item_there : (image : List ℕ) → refusal_of (add_call book ring (score_of last image).value) ≡ 0
    item_there = score_taken book ring scores (runs_from_opening input moment run) last
