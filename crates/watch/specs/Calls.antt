-- The two calls as rows of data: opening the book of the setting, and one turn with its row in a lent buffer (SCOPE, Refusals).
use Rattle.std.specs.Prelude.{ℕ, Bool, List, [], ◌∷◌, ltb, length}
use Rattle.std.proofs.lemmas.List.Edits.{sets}
use Rattle.refusals.specs.Numbers.{buffer_too_short}
use Rattle.refusals.specs.First.{◌gives◌}
use Rattle.refusals.specs.Call.{Call, seen_as}
use Rattle.book.specs.declared.told.Updated.{Updated}
use Rattle.book.specs.Calls.{open_call}
use Rattle.rows.specs.Row.{row_text, refused_text}
use Rattle.rows.specs.Calls.{line_most}
use Rattle.watch.specs.Answers.{Turn, Row, Refused, Ends, Wait, Started, Stepped}
use Rattle.watch.specs.declared.State.{State}
use Rattle.watch.specs.Setting as setting
use Rattle.watch.specs.Turn.{frame_after, outcome_of}

-- the opening of the setting's book in a lent ring
abbrev pub opening : List ℕ → Call Updated (List ℕ)
opening ring = open_call setting.bound setting.length setting.tolerance ring

-- what is seen of it: its refusal, and the state before the first frame
abbrev pub started_by : Updated → Started
started_by opened = record { refusal = opened.refusal; state = record { book = opened.book; frames = 0 } }

-- Starting is that opening: its refusals, what it leaves of the ring, and at a refusal its record of all zeros
unfoldable pub start_call : List ℕ → Call Started (List ℕ)
start_call ring = seen_as started_by (opening ring)

-- what a turn writes, for the frame of this number
abbrev pub text_of : ℕ → Turn → List ℕ
text_of frame (Row line) = row_text frame line.score line.state.book.kept line.total line.word
text_of frame (Refused refusal) = refused_text frame refusal
text_of frame Ends = []
text_of frame Wait = []

-- what a step writes: the row of its turn, for the frame behind those that have come
abbrev pub step_text : State → Turn → List ℕ
step_text state turn = text_of (frame_after state.frames) turn

-- A step: 23. It gives the turn and the bytes of its row, and leaves the ring as the turn does and the row at the start of the buffer; a
-- frame that is refused is a turn of its own, with a row
unfoldable pub step_call : State → List ℕ → List ℕ → List ℕ → Bool → List ℕ → Call Stepped (List ℕ × List ℕ)
step_call state ring last rest over out =
    let outcome = outcome_of state ring last rest over in
    let text = step_text state outcome.turn in
    record {
      faults = (ltb (length out) line_most gives buffer_too_short) ∷ [];
      given = record { refusal = 0; turn = outcome.turn; wrote = length text };
      left = (outcome.ring, sets out 0 text);
      back = λ number. record { refusal = number; turn = Refused number; wrote = 0 };
      lent = (ring, out);
    }
