-- A round: turns one after another over the bytes at hand, their rows one behind another; then the rows are written.
use Rattle.std.specs.Prelude.{ℕ, zero, suc, ◌+◌, Bool, List, [], ◌++◌, ◌≡◌, length}
use Rattle.std.proofs.lemmas.List.Edits.{sets}
use Rattle.watch.specs.Answers.{Turn, Row, Refused, Ends, Wait}
use Rattle.watch.specs.Turn.{outcome_of}
use Rattle.watch.specs.Calls.{step_text}
use Rattle.frozen.specs.declared.desk.Desk.{Desk}
use Rattle.frozen.specs.declared.round.Round.{Round}
use Rattle.frozen.specs.declared.round.Go.{Go}
use Rattle.frozen.specs.declared.round.Go.TheVariants.{Again, Read, Done}
use Rattle.frozen.specs.Desk.{last_in, hand_in}

-- the turns of a round at most, and the bytes of their rows at most, 96 each
abbrev pub turns_most : ℕ
turns_most = 42

abbrev pub rows_most : ℕ
rows_most = 4032

-- what a round comes to: the desk and the ring after it, its rows, and how the program goes on
pub record Rounded : Type 0 where
  pub desk : Desk
  pub ring : List ℕ
  pub text : List ℕ
  pub go : Go

-- the desk after a turn: behind a row's image, which is the image before now; otherwise as it was
abbrev pub desk_after : Desk → Turn → Desk
desk_after desk (Row line) = record { state = line.state; from = desk.at; at = desk.at + line.used; end = desk.end }
desk_after desk (Refused refusal) = desk
desk_after desk Ends = desk
desk_after desk Wait = desk

-- the bytes that a turn takes
abbrev pub used_by : Turn → ℕ
used_by (Row line) = line.used
used_by (Refused refusal) = 0
used_by Ends = 0
used_by Wait = 0

abbrev pub go_after : Turn → Go
go_after (Row line) = Again
go_after (Refused refusal) = Done
go_after Ends = Done
go_after Wait = Read

-- one turn: the step of watch over the image before and the bytes at hand
unfoldable pub turn_at : Desk → (ring buf : List ℕ) → (over : Bool) → Rounded
turn_at desk ring buf over =
    let outcome = outcome_of desk.state ring (last_in buf desk) (hand_in buf desk) over in
    record {
      desk = desk_after desk outcome.turn;
      ring = outcome.ring;
      text = step_text desk.state outcome.turn;
      go = go_after outcome.turn;
    }

-- the same with a text in front
abbrev pub behind : List ℕ → Rounded → Rounded
behind text rounded = record { desk = rounded.desk; ring = rounded.ring; text = text ++ rounded.text; go = rounded.go }

-- a turn and what follows where the program goes on with a turn more, which is after a row alone
abbrev pub goes_on : Go → Rounded → Rounded → Rounded
goes_on Again turn later = behind turn.text later
goes_on Read turn later = turn
goes_on Done turn later = turn

-- a round of so many turns at most
unfoldable pub round_of : ℕ → Desk → (ring buf : List ℕ) → (over : Bool) → Rounded
round_of zero desk ring buf over = record { desk = desk; ring = ring; text = []; go = Again }
round_of (suc turns) desk ring buf over =
    let turn = turn_at desk ring buf over in
    goes_on turn.go turn (round_of turns turn.desk turn.ring buf over)

-- what a call tells of it where the rows go to the place `full` of a buffer: the desk, where they end, and how to go on …
abbrev pub told : Rounded → ℕ → Round
told rounded full = record { desk = rounded.desk; full = full + length rounded.text; go = rounded.go }

-- … and the call whole, with the ring and the buffer as it leaves them
pub record Tells (rounded : Rounded) (out : List ℕ) (full : ℕ) (answer : Round) (ring_after out_after : List ℕ) : Type 0 where
  pub answers : answer ≡ told rounded full
  pub ring : ring_after ≡ rounded.ring
  pub rows : out_after ≡ sets out full rounded.text
