-- What holds in each case of an outcome holds of the outcome: it waits, or the input is at its end, or the image decides; an image is refused,
-- or is the first, or is counted; a score or an item is refused, or goes into the book; a total is refused, or a row is shown.
-- Assumes nothing.
use Rattle.std.specs.Prelude.{Option, None, Some}
use Prim.Native.Nat.{ℕ, zero, suc}
use native.Mathlib.Decide.{ℕ_discrete}
use native.Mathlib.Omega.{arith}
use mathlib.Core.Bool.{Bool, true, false}
use mathlib.Core.List.{List}
use mathlib.Core.Logic.{◌⊎◌, inl, inr}
use mathlib.Core.Path.{◌≡◌, refl, subst}
use borrow.Author.Tests.{eq-eqb, ne_eqb}
use lib.ListN.{length, take}
use Rattle.refusals.specs.Numbers.{ends_too_early}
use Rattle.refusals.specs.First.{unless_refused}
use Rattle.refusals.specs.Call.{result_of, left_of}
use Rattle.book.specs.declared.told.Figure.{Figure}
use Rattle.book.specs.declared.told.Updated.{Updated}
use Rattle.book.specs.Calls.{add_call, total_call, verdict_call}
use Rattle.image.specs.Reading.{numbers_of}
use Rattle.score.specs.declared.Answer.{Answer}
use Rattle.score.specs.Calls.{score_call}
use Rattle.watch.specs.Answers.{Turn, Row, Refused, Ends, Wait}
use Rattle.watch.specs.declared.State.{State}
use Rattle.watch.specs.declared.Line.{Line}
use Rattle.watch.specs.Setting as setting
use Rattle.watch.specs.Turn.{word_of, frame_after, Outcome, refused_turn, shown_of, counted_of, decided_of, outcome_of}
use Rattle.watch.proofs.Deciding.{leaving, none_over, none_yet, short_waits, decides, decided_refused, decided_first, decided_counted, counted_unscored, counted_refused, counted_added}

true_or_false : true ≡ false → ⊥
true_or_false e = cc

-- A TOTAL is refused, or a row is shown
module _ (state : State) (ring : List ℕ) (scored : Option ℕ) (used : ℕ) where
  abbrev total : Figure
  total = result_of (total_call state.book ring state.book.kept)

  -- the row of this state
  abbrev pub line_of : Line
  line_of =
      record {
        state = record { book = state.book; frames = frame_after state.frames };
        used = used;
        score = scored;
        total = total.figure;
        word = word_of (result_of (verdict_call state.book ring setting.window setting.amount));
      }

  pub shown_cases : (P : Turn → Type 0) → (total.refusal ≡ 0 → P (Row line_of)) → ((total.refusal ≡ 0 → ⊥) → P (Refused total.refusal))
      → P (shown_of state ring scored used)
  unfolding shown_of
  shown_cases P row refused = by total.refusal row refused
    where
      by : (m : ℕ) → (m ≡ 0 → P (Row line_of)) → ((m ≡ 0 → ⊥) → P (Refused m)) → P (unless_refused m (Row line_of) (Refused m))
      by zero row refused = row refl
      by (suc m) row refused = refused (λ e. omega arith)

-- AN IMAGE AFTER THE FIRST: its score is refused, or the item is, or it is in the book
abbrev pub score_of : List ℕ → List ℕ → Answer
score_of last image = result_of (score_call setting.bound setting.allowance last image)

module _ (state : State) (ring last image : List ℕ) where
  abbrev score : Answer
  score = score_of last image

  abbrev added_of : Updated
  added_of = result_of (add_call state.book ring score.value)

  abbrev added_left : List ℕ
  added_left = left_of (add_call state.book ring score.value)

  -- the state whose book has it
  abbrev added_state : State
  added_state = record { book = added_of.book; frames = state.frames }

  pub counted_cases : (P : Outcome → Type 0) → ((score.refusal ≡ 0 → ⊥) → P (refused_turn ring score.refusal))
      → ((added_of.refusal ≡ 0 → ⊥) → P (refused_turn ring added_of.refusal))
      → (score.refusal ≡ 0 → added_of.refusal ≡ 0
      → P (leaving added_left (shown_of added_state added_left (Some score.value) (length image))))
      → P (counted_of state ring last image)
  counted_cases P unscored refused added = by (ℕ_discrete score.refusal 0) (ℕ_discrete added_of.refusal 0)
    where
      by : Dec (score.refusal ≡ 0) → Dec (added_of.refusal ≡ 0) → P (counted_of state ring last image)
      by (no ne) any = subst P (counted_unscored state ring last image refl ne) (unscored ne)
      by (yes e) (no ne) = subst P (counted_refused state ring last image refl e refl ne) (refused ne)
      by (yes e) (yes none) = subst P (counted_added state ring last image refl e refl none refl) (added e none)

module _ (state : State) (ring last rest : List ℕ) where
  -- AN IMAGE is refused, or is the first, or is counted
  pub decided_cases : (P : Outcome → Type 0) → (((numbers_of rest).refusal ≡ 0 → ⊥) → P (refused_turn ring (numbers_of rest).refusal))
      → ((numbers_of rest).refusal ≡ 0 → state.frames ≡ 0 → P (leaving ring (shown_of state ring None (numbers_of rest).used)))
      → ((numbers_of rest).refusal ≡ 0 → (state.frames ≡ 0 → ⊥) → P (counted_of state ring last (take (numbers_of rest).used rest)))
      → P (decided_of state ring last rest)
  decided_cases P refused first later = by (ℕ_discrete (numbers_of rest).refusal 0) (ℕ_discrete state.frames 0)
    where
      by : Dec ((numbers_of rest).refusal ≡ 0) → Dec (state.frames ≡ 0) → P (decided_of state ring last rest)
      by (no ne) any = subst P (decided_refused state ring last rest refl ne) (refused ne)
      by (yes e) (yes z) = subst P (decided_first state ring last rest refl e z) (first e z)
      by (yes e) (no nz) = subst P (decided_counted state ring last rest refl e nz) (later e nz)

  -- THE BYTES AT HAND wait, or there are none and no more will come, or their image decides
  pub outcome_cases : (over : Bool) (P : Outcome → Type 0)
      → (over ≡ false → (length rest ≡ 0) ⊎ ((numbers_of rest).refusal ≡ ends_too_early) → P (leaving ring Wait))
      → (over ≡ true → length rest ≡ 0 → P (leaving ring Ends))
      → ((length rest ≡ 0 → ⊥) → (over ≡ false → (numbers_of rest).refusal ≡ ends_too_early → ⊥) → P (decided_of state ring last rest))
      → P (outcome_of state ring last rest over)
  outcome_cases true P waits ends decided = by (ℕ_discrete (length rest) 0)
    where
      by : Dec (length rest ≡ 0) → P (outcome_of state ring last rest true)
      by (yes e) = subst P (none_over state ring last rest true e refl) (ends refl e)
      by (no ne) = subst P (decides state ring last rest true ne refl refl) (decided ne (λ e w. true_or_false e))
  outcome_cases false P waits ends decided = by (ℕ_discrete (length rest) 0) (ℕ_discrete (numbers_of rest).refusal ends_too_early)
    where
      by : Dec (length rest ≡ 0) → Dec ((numbers_of rest).refusal ≡ ends_too_early) → P (outcome_of state ring last rest false)
      by (yes e) any = subst P (none_yet state ring last rest false e refl) (waits refl (inl e))
      by (no ne) (yes w) =
          subst P (short_waits state ring last rest false ne refl (eq-eqb (numbers_of rest).refusal ends_too_early w)) (waits refl (inr w))
      by (no ne) (no whole) =
          subst P (decides state ring last rest false ne refl (ne_eqb (numbers_of rest).refusal ends_too_early whole))
          (decided ne (λ e. whole))
