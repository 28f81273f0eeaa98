-- A run that gets its input in pieces writes the output of the whole input (promise P.1): at each moment what is written, with the rows
-- of all that is at hand and unread, is that output; so it is with the last turn at the end of the input, and with a refusal at any time.
-- Assumes nothing.
use Prim.Native.Nat.{ℕ, zero, suc, ◌+◌, ◌-◌, ◌<◌}
use native.Mathlib.Omega.{arith}
use mathlib.Core.Bool.{true, false}
use mathlib.Core.List.{List, [], ◌++◌, append_assoc, append-nil}
use mathlib.Core.Path.{◌≡◌, refl, sym, ap, subst, ◌∙◌}
use lib.ListN.{length, take, drop, length-append, length-drop}
use lib.Seq.{take-append-le, drop-append-le}
use Rattle.image.specs.Seen.{limit}
use Rattle.rows.specs.Row.{head_text}
use Rattle.watch.specs.Answers.{Turn, Row, Refused, Ends, Wait}
use Rattle.watch.specs.declared.State.{State}
use Rattle.watch.specs.declared.Line.{Line}
use Rattle.watch.specs.Turn.{Outcome, outcome_of}
use Rattle.watch.specs.Calls.{step_text}
use Rattle.watch.specs.Output.{then_rows, rows_from, first_state, first_ring, output_of, Moment, outcome_at, Runs, begins, reads, turns}
use Rattle.watch.proofs.Streaming.{refused_no_row, wait_no_row, refused_no_wait, wait_short, outcome_stays, row_used, row_either_way}

-- THE ROWS OF A REST, where the outcome of its first turn is known
module _ (n : ℕ) (state : State) (ring last rest : List ℕ) (outcome : Outcome) (first : outcome_of state ring last rest true ≡ outcome) where
  rows_by : rows_from (suc n) state ring last rest
      ≡ step_text state outcome.turn
      ++ then_rows outcome.turn (λ line. rows_from n line.state outcome.ring (take line.used rest) (drop line.used rest))
  unfolding rows_from
  rows_by = rw first

  -- a turn that is no row is the last
  rows_end : ((line : Line) → outcome.turn ≡ Row line → ⊥) → rows_from (suc n) state ring last rest ≡ step_text state outcome.turn
  rows_end none = rows_by ∙ by outcome.turn none _
    where
      by : (turn : Turn) → ((line : Line) → turn ≡ Row line → ⊥) → (rows : Line → List ℕ)
          → step_text state turn ++ then_rows turn rows ≡ step_text state turn
      by (Row line) never rows = absurd (never line refl)
      by (Refused refusal) never rows = append-nil (step_text state (Refused refusal))
      by Ends never rows = refl
      by Wait never rows = refl

-- more turns than there are bytes change nothing
rows_enough : (f g : ℕ) (state : State) (ring last rest : List ℕ) → length rest < f → length rest < g
    → rows_from f state ring last rest ≡ rows_from g state ring last rest
unfolding rows_from
rows_enough zero g state ring last rest hf hg = absurd (omega arith)
rows_enough (suc f) zero state ring last rest hf hg = absurd (omega arith)
rows_enough (suc f) (suc g) state ring last rest hf hg =
    ap (λ (l : List ℕ). step_text state outcome.turn ++ l)
    (by outcome.turn refl
    (λ line e. rows_enough f g line.state outcome.ring (take line.used rest) (drop line.used rest)
    (shorter line e f hf) (shorter line e g hg)))
  where
    outcome : Outcome
    outcome = outcome_of state ring last rest true

    shorter : (line : Line) → outcome.turn ≡ Row line → (n : ℕ) → length rest < suc n → length (drop line.used rest) < n
    shorter line e n h =
        let used = row_used state ring last rest true line e in
        rw (length-drop line.used rest) (omega (arith, used.0, used.1))

    rows : ℕ → Line → List ℕ
    rows n line = rows_from n line.state outcome.ring (take line.used rest) (drop line.used rest)

    by : (turn : Turn) → outcome.turn ≡ turn → ((line : Line) → outcome.turn ≡ Row line → rows f line ≡ rows g line)
        → then_rows turn (rows f) ≡ then_rows turn (rows g)
    by (Row line) e same = same line e
    by (Refused refusal) e same = refl
    by Ends e same = refl
    by Wait e same = refl

-- a row that the bytes at hand give is the first of the rows of all that is to come
row_first : (n : ℕ) (state : State) (ring last hand more : List ℕ) (line : Line) → (outcome_of state ring last hand false).turn ≡ Row line
    → rows_from (suc n) state ring last (hand ++ more)
    ≡ step_text state (Row line)
    ++ rows_from n line.state (outcome_of state ring last hand false).ring (take line.used hand) (drop line.used hand ++ more)
row_first n state ring last hand more line row =
    let there = (row_used state ring last hand false line row).1 in
    rows_by n state ring last (hand ++ more) _
    (outcome_stays state ring last hand more (λ wait. wait_no_row (sym wait ∙ row)) true)
    ∙ rw (row, take-append-le line.used hand more there, drop-append-le line.used hand more there)

-- AT EACH MOMENT of a run: what is written, and the rows of all that is to come, is the output of the whole input
pub runs_right : (input : List ℕ) (moment : Moment) → Runs input moment → (f : ℕ) → length (moment.hand ++ moment.unread) < f
    → moment.written ++ rows_from f moment.state moment.ring moment.last (moment.hand ++ moment.unread) ≡ output_of input
unfolding output_of
runs_right input moment begins f h =
    ap (λ (l : List ℕ). head_text ++ l)
    (rows_enough f (suc (length input)) first_state first_ring [] input h (omega arith))
runs_right input moment (reads before run piece unread split) f h =
    let same : (before.hand ++ piece) ++ unread ≡ before.hand ++ before.unread =
    append_assoc before.hand piece unread ∙ ap (λ (l : List ℕ). before.hand ++ l) (sym split) in
    ap (λ (l : List ℕ). before.written ++ rows_from f before.state before.ring before.last l) same
    ∙ runs_right input before run f (subst (λ l. length l < f) same h)
runs_right input moment (turns before run line row) f h =
    let hand = before.hand in
    let unread = before.unread in
    let n : ℕ = f + line.used in
    let left = drop line.used hand ++ unread in
    let used = row_used before.state before.ring before.last hand false line row in
    let fewer : length left ≡ length hand - line.used + length unread =
    length-append (drop line.used hand) unread ∙ ap (λ (k : ℕ). k + length unread) (length-drop line.used hand) in
    append_assoc before.written (step_text before.state (Row line)) _
    ∙ ap (λ (t : List ℕ). before.written ++ (step_text before.state (Row line) ++ t))
    (rows_enough f n line.state (outcome_at before false).ring (take line.used hand) left h (omega (arith, used.1)))
    ∙ ap (λ (t : List ℕ). before.written ++ t) (sym (row_first n before.state before.ring before.last hand unread line row))
    ∙ runs_right input before run (suc n) (rw (length-append hand unread) (omega (arith, used.1)))

-- a turn over all that is to come, if it is no row, completes the output
last_turn : (input : List ℕ) (moment : Moment) → Runs input moment → (outcome : Outcome)
    → outcome_of moment.state moment.ring moment.last (moment.hand ++ moment.unread) true ≡ outcome
    → ((line : Line) → outcome.turn ≡ Row line → ⊥) → moment.written ++ step_text moment.state outcome.turn ≡ output_of input
last_turn input moment run outcome is none =
    let all = moment.hand ++ moment.unread in
    ap (λ (t : List ℕ). moment.written ++ t) (sym (rows_end (length all) moment.state moment.ring moment.last all outcome is none))
    ∙ runs_right input moment run (suc (length all)) (omega arith)

-- AT THE END of the input the last turn is no row, and what it writes completes the output
pub end_right : (input : List ℕ) (moment : Moment) → Runs input moment → moment.unread ≡ []
    → ((line : Line) → (outcome_at moment true).turn ≡ Row line → ⊥)
    → moment.written ++ step_text moment.state (outcome_at moment true).turn ≡ output_of input
end_right input moment run all none =
    last_turn input moment run (outcome_at moment true)
    (ap (λ (l : List ℕ). outcome_of moment.state moment.ring moment.last l true)
    (ap (λ (l : List ℕ). moment.hand ++ l) all ∙ append-nil moment.hand))
    none

-- A REFUSAL ends the run: whatever is unread, that is the whole output …
pub refused_right : (input : List ℕ) (moment : Moment) → Runs input moment → (refusal : ℕ) → (outcome_at moment false).turn ≡ Refused refusal
    → moment.written ++ step_text moment.state (Refused refusal) ≡ output_of input
refused_right input moment run refusal refused =
    ap (λ (t : Turn). moment.written ++ step_text moment.state t) (sym refused)
    ∙ last_turn input moment run (outcome_at moment false)
    (outcome_stays moment.state moment.ring moment.last moment.hand moment.unread
    (λ wait. refused_no_wait (sym refused ∙ wait)) true)
    (λ line row. refused_no_row (sym refused ∙ row))

-- … and at the end of the input, where an image that is cut is refused too
pub refused_at_end : (input : List ℕ) (moment : Moment) → Runs input moment → moment.unread ≡ [] → (refusal : ℕ)
    → (outcome_at moment true).turn ≡ Refused refusal → moment.written ++ step_text moment.state (Refused refusal) ≡ output_of input
refused_at_end input moment run all refusal refused =
    ap (λ (t : Turn). moment.written ++ step_text moment.state t) (sym refused)
    ∙ end_right input moment run all (λ line row. refused_no_row (sym refused ∙ row))

-- A ROW AT THE END of the input is the row that the same bytes give before it, so that it is a turn of a run too
pub over_row : (moment : Moment) (line : Line) → (outcome_at moment true).turn ≡ Row line
    → ((outcome_at moment false).turn ≡ Row line) × ((outcome_at moment false).ring ≡ (outcome_at moment true).ring)
over_row moment line row =
    let same = row_either_way moment.state moment.ring moment.last moment.hand true line row false in
    (ap (λ (o : Outcome). o.turn) same ∙ row, ap (λ (o : Outcome). o.ring) same)

-- WHO WAITS has room for more: fewer bytes are at hand than an image may have
pub waits_for_more : (moment : Moment) → (outcome_at moment false).turn ≡ Wait → length moment.hand < limit
waits_for_more moment = wait_short moment.state moment.ring moment.last moment.hand
