-- The results of the code in numbers, as the calls' rows have them (specs/Calls.antt).
use Rattle.std.specs.Prelude.{Result}
use Rattle.refusals.specs.declared.Refusal.{Refusal}
use Rattle.refusals.specs.Refused.{number_of, in_numbers}
use Rattle.book.specs.Record.{no_book_at_all}
use Rattle.watch.specs.declared.State.{State}
use Rattle.watch.specs.declared.Line.{Line}
use Rattle.watch.specs.declared.Turn as code
use Rattle.watch.specs.declared.Turn.TheVariants as code_turns
use Rattle.watch.specs.declared.Stepped as code_steps
use Rattle.watch.specs.Answers.{Turn, Row, Refused, Ends, Wait, Started, Stepped}

-- a turn, with the number of its refusal
abbrev pub as_turn : code.Turn → Turn
as_turn (code_turns.Row line) = Row line
as_turn (code_turns.Refused refusal) = Refused (number_of refusal)
as_turn code_turns.Ends = Ends
as_turn code_turns.Wait = Wait

-- a row, or what it was refused with, is a turn
abbrev pub as_row : Result Line Refusal → Turn
as_row = in_numbers Row Refused

-- the state before the first frame; with a refusal its record is all zeros
abbrev pub as_started : Result State Refusal → Started
as_started =
    in_numbers (λ state. record { refusal = 0; state = state })
    (λ number. record { refusal = number; state = record { book = no_book_at_all; frames = 0 } })

-- the turn and the bytes of its row; a refusal is told by the turn too
abbrev pub as_stepped : Result code_steps.Stepped Refusal → Stepped
as_stepped =
    in_numbers (λ stepped. record { refusal = 0; turn = as_turn stepped.turn; wrote = stepped.wrote })
    (λ number. record { refusal = number; turn = Refused number; wrote = 0 })
