-- What a step gives and leaves: 23 where the buffer has fewer than 96 bytes; otherwise the turn of its outcome and the length of its row,
-- the ring as the outcome leaves it, and the row at the start of the buffer.
-- Assumes nothing.
use Prim.Native.Nat.{ℕ, ◌≤◌, ◌<◌}
use native.Mathlib.Omega.{arith}
use mathlib.Core.Bool.{Bool}
use mathlib.Core.List.{List}
use mathlib.Core.Path.{◌≡◌, refl, sym, ap, ap₂, ◌∙◌}
use borrow.Author.Tests.{lt-ltb, le-ltb}
use lib.ListN.{length}
use lib.Seq.{sets}
use Rattle.std.specs.Prelude.{Result, Ok, Err, IsOk}
use Rattle.std.proofs.Common.{rules}
use Rattle.refusals.specs.declared.Refusal.{Refusal}
use Rattle.refusals.specs.Numbers.{buffer_too_short}
use Rattle.refusals.proofs.Numbers.{number_not_0}
use Rattle.refusals.specs.Call.{Call, refusal_of, result_of, left_of}
use Rattle.refusals.proofs.Calls.{result_taken, result_refused, left_taken, left_refused}
use Rattle.rows.specs.Calls.{line_most}
use Rattle.watch.specs.Answers.{Turn, Refused, Stepped}
use Rattle.watch.specs.declared.State.{State}
use Rattle.watch.specs.declared.Stepped as code
use Rattle.watch.specs.Told.{as_turn, as_stepped}
use Rattle.watch.specs.Turn.{Outcome, frame_after, outcome_of}
use Rattle.watch.specs.Calls.{text_of, step_text, step_call}

module _ (state : State) (ring last rest : List ℕ) (over : Bool) (out : List ℕ) where
  abbrev call : Call Stepped (List ℕ × List ℕ)
  call = step_call state ring last rest over out

  abbrev outcome : Outcome
  outcome = outcome_of state ring last rest over

  abbrev text : List ℕ
  text = step_text state outcome.turn

  -- too short a buffer
  module _ (short : length out < line_most) where
    found_23 : buffer_too_short ≡ refusal_of call
    unfolding step_call
    found_23 = rw (lt-ltb (length out) line_most short)

    not_0 : buffer_too_short ≡ 0 → ⊥
    not_0 e = omega arith

    pub step_refused : (result_of call ≡ record { refusal = buffer_too_short; turn = Refused buffer_too_short; wrote = 0 }) × (left_of call ≡ (ring, out))
    unfolding step_call
    step_refused = (sym (result_refused call found_23 not_0), sym (left_refused call found_23 not_0))

  -- a buffer with room for a line
  module _ (room : line_most ≤ length out) where
    found_0 : 0 ≡ refusal_of call
    unfolding step_call
    found_0 = rw (le-ltb (length out) line_most room)

    -- what a step gives …
    pub step_gives : result_of call ≡ record { refusal = 0; turn = outcome.turn; wrote = length text }
    unfolding step_call
    step_gives = sym (result_taken call found_0 refl)

    -- … and what it leaves of the ring and of the buffer
    pub step_leaves : left_of call ≡ (outcome.ring, sets out 0 text)
    unfolding step_call
    step_leaves = sym (left_taken call found_0 refl)

    -- so a caller is not refused, and has that turn and that length
    pub step_given : (result : Result code.Stepped Refusal) → as_stepped result ≡ result_of call
        → IsOk result × ((stepped : code.Stepped) → result ≡ Ok stepped → (as_turn stepped.turn ≡ outcome.turn) × (stepped.wrote ≡ length text))
    step_given result said = (
      by result gives,
      λ stepped is. (let same = ap as_stepped (sym is) ∙ gives in
          (ap (λ (s : Stepped). s.turn) same, ap (λ (s : Stepped). s.wrote) same)),
    )
      where
        gives : as_stepped result ≡ record { refusal = 0; turn = outcome.turn; wrote = length text }
        gives = said ∙ step_gives

        by : (result : Result code.Stepped Refusal) → as_stepped result ≡ record { refusal = 0; turn = outcome.turn; wrote = length text } → IsOk result
        by (Ok stepped) e = search rules
        by (Err refusal) e = absurd (number_not_0 refusal (ap (λ (s : Stepped). s.refusal) e))

    -- as the code takes it: a turn is decided, and then said
    pub step_taken : {turn : Turn} {frame wrote : ℕ} {ring' out' : List ℕ} → (turn ≡ outcome.turn) × (ring' ≡ outcome.ring)
        → frame ≡ frame_after state.frames → (wrote ≡ length (text_of frame turn)) × (out' ≡ sets out 0 (text_of frame turn))
        → (◌≡◌ {A = Stepped} (record { refusal = 0; turn = turn; wrote = wrote }) (result_of call)) × ((ring', out') ≡ left_of call)
    step_taken {turn} {frame} decided numbered said =
        let row : text_of frame turn ≡ text = ap₂ text_of numbered decided.0 in (
          (λ i. record { refusal = 0; turn = decided.0 i; wrote = (said.0 ∙ ap length row) i }) ∙ sym step_gives,
          (λ i. (decided.1 i, (said.1 ∙ ap (sets out 0) row) i)) ∙ sym step_leaves,
        )
