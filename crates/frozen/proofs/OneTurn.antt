-- One turn of the program is the step of watch over the desk: what the step gives and leaves makes the turn.
-- Assumes nothing.
use Prim.Native.Nat.{ℕ, ◌+◌, ◌-◌, ◌≤◌}
use mathlib.Core.Bool.{Bool}
use mathlib.Core.List.{List}
use mathlib.Core.Path.{◌≡◌, ap, ◌∙◌}
use native.Mathlib.Omega.{arith}
use borrow.Rule.Slice.PartMut.{mid_of, put_mid, mid_len}
use lib.ListN.{length}
use Rattle.std.specs.Prelude.{Result, Ok, IsOk}
use Rattle.refusals.specs.declared.Refusal.{Refusal}
use Rattle.refusals.specs.Call.{Call, result_of, left_of}
use Rattle.rows.specs.Calls.{line_most}
use Rattle.watch.specs.Answers.{Stepped}
use Rattle.watch.specs.declared.Stepped as code
use Rattle.watch.specs.Told.{as_turn, as_stepped}
use Rattle.watch.specs.Turn.{Outcome, outcome_of}
use Rattle.watch.specs.Calls.{step_text, step_call}
use Rattle.watch.proofs.Stepping.{step_given, step_leaves}
use Rattle.frozen.specs.declared.desk.Desk.{Desk}
use Rattle.frozen.specs.declared.round.Round.{Round}
use Rattle.frozen.specs.Desk.{last_in, hand_in, Fits}
use Rattle.frozen.specs.Round.{used_by, desk_after, go_after, turn_at, Tells}
use Rattle.frozen.proofs.Parts.{put_sets}
use Rattle.frozen.proofs.DeskLaws.{hand_length}
use Rattle.frozen.proofs.TurnsOfWatch.{used_there}

module _ (desk : Desk) (ring buf out : List ℕ) (over : Bool) (full : ℕ) (room : full + line_most ≤ length out) where
  -- the part of the buffer that the step is lent
  abbrev part : List ℕ
  part = mid_of full (length out - full) out

  part_room : line_most ≤ length part
  part_room = omega (arith, mid_len full (length out) out (omega arith))

  abbrev call : Call Stepped (List ℕ × List ℕ)
  call = step_call desk.state ring (last_in buf desk) (hand_in buf desk) over part

  abbrev outcome : Outcome
  outcome = outcome_of desk.state ring (last_in buf desk) (hand_in buf desk) over

  abbrev text : List ℕ
  text = step_text desk.state outcome.turn

  -- it is not refused
  pub step_ok : (result : Result code.Stepped Refusal) → as_stepped result ≡ result_of call → IsOk result
  step_ok result said = (step_given desk.state ring (last_in buf desk) (hand_in buf desk) over part part_room result said).0

  module _ (result : Result code.Stepped Refusal) (said : as_stepped result ≡ result_of call) (stepped : code.Stepped) (is : result ≡ Ok stepped)
      (most : stepped.wrote ≤ line_most) where
    given : (as_turn stepped.turn ≡ outcome.turn) × (stepped.wrote ≡ length text)
    given = (step_given desk.state ring (last_in buf desk) (hand_in buf desk) over part part_room result said).1 stepped is

    turn_is : as_turn stepped.turn ≡ outcome.turn
    turn_is = given.0

    wrote_is : stepped.wrote ≡ length text
    wrote_is = given.1

    pub turn_there : Fits desk (length buf) → desk.at + used_by (as_turn stepped.turn) ≤ desk.end
    turn_there fits =
        let used = (used_there desk.state ring (last_in buf desk) (hand_in buf desk) over).0 in
        omega (arith, ap used_by turn_is, used, hand_length desk buf fits, fits.order)

    pub turn_tells : (ring_after part_after : List ℕ) → (ring_after, part_after) ≡ left_of call → (answer : Round)
        → answer ≡ record { desk = desk_after desk (as_turn stepped.turn); full = full + stepped.wrote; go = go_after (as_turn stepped.turn) }
        → Tells (turn_at desk ring buf over) out full answer ring_after (put_mid full (length out - full) out part_after)
        × (answer.full ≤ full + line_most)
    unfolding turn_at
    turn_tells ring_after part_after left answer answers =
        let leaves = left ∙ step_leaves desk.state ring (last_in buf desk) (hand_in buf desk) over part part_room in (
          record {
            answers =
                answers
                ∙ (λ i. record { desk = desk_after desk (turn_is i); full = full + wrote_is i; go = go_after (turn_is i) });
            ring = ap (λ (l : List ℕ × List ℕ). l.0) leaves;
            rows =
                ap (λ (l : List ℕ × List ℕ). put_mid full (length out - full) out l.1) leaves
                ∙ put_sets out text full (omega (arith, wrote_is, most));
          },
          omega (arith, ap (λ (r : Round). r.full) answers, most),
        )
