-- An outcome in its cases, as the code reaches them.
-- Assumes nothing.
use Rattle.std.specs.Prelude.{Option, None, Some}
use Prim.Native.Nat.{ℕ}
use mathlib.Core.Bool.{Bool, true, false, not, cond, ◌&&◌}
use mathlib.Core.List.{List}
use mathlib.Core.Path.{◌≡◌, refl, sym, ap, ◌∙◌}
use borrow.Author.Tests.{eq-eqb, ne_eqb}
use lib.Dec.{eqb}
use lib.ListN.{length, take}
use Rattle.refusals.specs.Numbers.{ends_too_early}
use Rattle.refusals.specs.Call.{refusal_of, result_of, left_of}
use Rattle.refusals.proofs.Laws.{refused_keeps}
use Rattle.refusals.proofs.Calls.{left_refused}
use Rattle.book.specs.declared.Book.{Book}
use Rattle.book.specs.declared.told.Figure.{Figure}
use Rattle.book.specs.declared.told.Updated.{Updated}
use Rattle.book.specs.Calls.{add_call, total_call, verdict_call}
use Rattle.rows.specs.declared.Word.{Word}
use Rattle.book.proofs.Promises.{add_back, add_gives}
use Rattle.image.specs.declared.told.Numbers.{Numbers}
use Rattle.image.specs.Reading.{numbers_of}
use Rattle.score.specs.declared.Answer.{Answer}
use Rattle.score.specs.Calls.{score_call}
use Rattle.watch.specs.Answers.{Turn, Row, Refused, Ends, Wait}
use Rattle.watch.specs.declared.State.{State}
use Rattle.watch.specs.Setting as setting
use Rattle.watch.specs.Turn.{word_of, frame_after, Outcome, refused_turn, shown_of, counted_of, decided_of, outcome_of}

-- a turn that leaves this ring
abbrev pub leaving : List ℕ → Turn → Outcome
leaving ring turn = record { turn = turn; ring = ring }

-- both parts of an outcome, as a contract has them
abbrev pub ComesTo : Turn → List ℕ → Outcome → Type 0
ComesTo turn ring outcome = (turn ≡ outcome.turn) × (ring ≡ outcome.ring)

pub comes_to : {turn : Turn} {ring : List ℕ} {one two : Outcome} → ComesTo turn ring one → one ≡ two → ComesTo turn ring two
comes_to came same = (came.0 ∙ ap (λ (o : Outcome). o.turn) same, came.1 ∙ ap (λ (o : Outcome). o.ring) same)

-- an item that is refused leaves the ring
module _ (book : Book) (ring : List ℕ) (item : ℕ) where
  pub untaken_leaves : (refusal_of (add_call book ring item) ≡ 0 → ⊥) → left_of (add_call book ring item) ≡ ring
  untaken_leaves ne = sym (left_refused (add_call book ring item) refl ne) ∙ (add_back book ring item).1

  pub refused_item_leaves : ((result_of (add_call book ring item)).refusal ≡ 0 → ⊥) → left_of (add_call book ring item) ≡ ring
  refused_item_leaves ne = untaken_leaves (λ e. ne (ap (λ (u : Updated). u.refusal) (add_gives book ring item e).0))

-- an image that is not refused is not cut
pub not_cut : (over : Bool) → (not over && eqb 0 ends_too_early) ≡ false
not_cut true = refl
not_cut false = refl

-- a total that is refused, and a row that is shown
module _ (state : State) (ring : List ℕ) (score : Option ℕ) (used : ℕ) {total : Figure}
    (asked : total ≡ result_of (total_call state.book ring state.book.kept)) where
  pub shown_refused : (total.refusal ≡ 0 → ⊥) → Refused total.refusal ≡ shown_of state ring score used
  unfolding shown_of
  shown_refused ne = rw (sym asked) (sym (refused_keeps total.refusal _ (Refused total.refusal) refl ne))

  pub shown_row : total.refusal ≡ 0 → {frames : ℕ} → frames ≡ frame_after state.frames
      → {word : Word} → word ≡ word_of (result_of (verdict_call state.book ring setting.window setting.amount))
      → Row (record { state = record { book = state.book; frames = frames }; used = used; score = score; total = total.figure; word = word })
      ≡ shown_of state ring score used
  unfolding shown_of
  shown_row taken counted said = rw (sym asked, taken, counted, said)

module _ (state : State) (ring last rest : List ℕ) where
  module _ (over : Bool) where
    -- no byte is at hand
    pub none_over : length rest ≡ 0 → over ≡ true → leaving ring Ends ≡ outcome_of state ring last rest over
    unfolding outcome_of
    none_over e o = rw (o, eq-eqb (length rest) 0 e)

    pub none_yet : length rest ≡ 0 → over ≡ false → leaving ring Wait ≡ outcome_of state ring last rest over
    unfolding outcome_of
    none_yet e o = rw (o, eq-eqb (length rest) 0 e)

    module _ (some : length rest ≡ 0 → ⊥) {n : Numbers} (read : n ≡ numbers_of rest) where
      -- the image is not whole yet
      pub short_waits : (not over && eqb n.refusal ends_too_early) ≡ true → leaving ring Wait ≡ outcome_of state ring last rest over
      unfolding outcome_of
      short_waits w = rw (sym read, ne_eqb (length rest) 0 some, w)

      -- it decides
      pub decides : (not over && eqb n.refusal ends_too_early) ≡ false → decided_of state ring last rest ≡ outcome_of state ring last rest over
      unfolding outcome_of
      decides w = rw (sym read, ne_eqb (length rest) 0 some, w)

  module _ {n : Numbers} (read : n ≡ numbers_of rest) where
    pub decided_refused : (n.refusal ≡ 0 → ⊥) → refused_turn ring n.refusal ≡ decided_of state ring last rest
    unfolding decided_of
    decided_refused ne =
        rw (sym read) (sym (refused_keeps n.refusal
        (cond (eqb state.frames 0) (leaving ring (shown_of state ring None n.used)) (counted_of state ring last (take n.used rest)))
        (refused_turn ring n.refusal) refl ne))

    pub decided_first : n.refusal ≡ 0 → state.frames ≡ 0
        → leaving ring (shown_of state ring None n.used) ≡ decided_of state ring last rest
    unfolding decided_of
    decided_first e0 first = rw (sym read, e0, eq-eqb state.frames 0 first)

    pub decided_counted : n.refusal ≡ 0 → (state.frames ≡ 0 → ⊥)
        → counted_of state ring last (take n.used rest) ≡ decided_of state ring last rest
    unfolding decided_of
    decided_counted e0 later = rw (sym read, e0, ne_eqb state.frames 0 later)

-- an image after the first
module _ (state : State) (ring last image : List ℕ) {score : Answer}
    (scored : score ≡ result_of (score_call setting.bound setting.allowance last image)) where
  pub counted_unscored : (score.refusal ≡ 0 → ⊥) → refused_turn ring score.refusal ≡ counted_of state ring last image
  unfolding counted_of
  counted_unscored ne =
      rw (sym scored) (sym (refused_keeps score.refusal _ (refused_turn ring score.refusal) refl ne))

  module _ (taken : score.refusal ≡ 0) {added : Updated} (adds : added ≡ result_of (add_call state.book ring score.value)) where
    pub counted_refused : (added.refusal ≡ 0 → ⊥) → refused_turn ring added.refusal ≡ counted_of state ring last image
    unfolding counted_of
    counted_refused ne =
        rw (sym scored, taken, sym adds) (sym (refused_keeps added.refusal _ (refused_turn ring added.refusal) refl ne))

    pub counted_added : added.refusal ≡ 0 → {left : List ℕ} → left ≡ left_of (add_call state.book ring score.value)
        → leaving left (shown_of (record { book = added.book; frames = state.frames }) left (Some score.value) (length image))
        ≡ counted_of state ring last image
    unfolding counted_of
    counted_added none left_is = rw (left_is, sym scored, taken, sym adds, none)
