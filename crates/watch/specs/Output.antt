-- The whole output for a whole input, and a run that gets its input in pieces (SCOPE, Program).
use Rattle.std.specs.Prelude.{ℕ, zero, suc, Bool, true, false, List, [], ◌∷◌, ◌++◌, ◌≡◌, length, take, drop, replicate}
use Rattle.refusals.specs.Call.{result_of, left_of}
use Rattle.rows.specs.Row.{head_text}
use Rattle.watch.specs.Answers.{Turn, Row, Refused, Ends, Wait}
use Rattle.watch.specs.declared.State.{State}
use Rattle.watch.specs.declared.Line.{Line}
use Rattle.watch.specs.Setting as setting
use Rattle.watch.specs.Turn.{Outcome, outcome_of}
use Rattle.watch.specs.Calls.{start_call, step_text}

-- what follows a turn: the rows of the rest after a row, and nothing after anything else
abbrev pub then_rows : Turn → (Line → List ℕ) → List ℕ
then_rows (Row line) rows = rows line
then_rows (Refused refusal) rows = []
then_rows Ends rows = []
then_rows Wait rows = []

-- the rows of the images one after another until the input is empty or something is refused (each image takes a byte at least, so
-- that as many turns as there are bytes are enough)
unfoldable pub rows_from : ℕ → State → List ℕ → List ℕ → List ℕ → List ℕ
rows_from zero state ring last rest = []
rows_from (suc turns) state ring last rest =
    let outcome = outcome_of state ring last rest true in
    step_text state outcome.turn
    ++ then_rows outcome.turn (λ line.
    rows_from turns line.state outcome.ring (take line.used rest) (drop line.used rest))

-- the ring that the program lends, and what starting with it comes to: the state and the ring before the first frame
abbrev pub no_bytes : List ℕ
no_bytes = replicate setting.ring_length 0

abbrev pub first_state : State
first_state = (result_of (start_call no_bytes)).state

abbrev pub first_ring : List ℕ
first_ring = left_of (start_call no_bytes)

-- the whole output: the names of the fields, then the rows
unfoldable pub output_of : List ℕ → List ℕ
output_of input = head_text ++ rows_from (suc (length input)) first_state first_ring [] input

-- A moment of a run: what is written, the rows in it (the newest first), the state and the ring, the image before, the bytes at hand, and
-- those not read yet.
pub record Moment : Type 0 where
  pub written : List ℕ
  pub lines : List Line
  pub state : State
  pub ring : List ℕ
  pub last : List ℕ
  pub hand : List ℕ
  pub unread : List ℕ

-- the first line is written, and nothing is read
abbrev pub beginning : List ℕ → Moment
beginning input =
    record { written = head_text; lines = []; state = first_state; ring = first_ring; last = []; hand = []; unread = input }

-- a piece of what was not read yet has come
abbrev pub after_read : Moment → List ℕ → List ℕ → Moment
after_read moment piece unread =
    record {
      written = moment.written;
      lines = moment.lines;
      state = moment.state;
      ring = moment.ring;
      last = moment.last;
      hand = moment.hand ++ piece;
      unread = unread;
    }

-- what the bytes at hand lead to
abbrev pub outcome_at : Moment → Bool → Outcome
outcome_at moment over = outcome_of moment.state moment.ring moment.last moment.hand over

-- a row is written, and its image is the one before
abbrev pub after_row : Moment → Line → List ℕ → Moment
after_row moment line ring =
    record {
      written = moment.written ++ step_text moment.state (Row line);
      lines = line ∷ moment.lines;
      state = line.state;
      ring = ring;
      last = take line.used moment.hand;
      hand = drop line.used moment.hand;
      unread = moment.unread;
    }

-- A run over an input: it begins with the first line; it reads a piece of any size at any time; it takes a turn whenever the bytes at hand
-- give a row.
pub data Runs (input : List ℕ) : Moment → Type 0 where
  begins : Runs input (beginning input)
  reads : (moment : Moment) → Runs input moment → (piece unread : List ℕ) → moment.unread ≡ piece ++ unread
      → Runs input (after_read moment piece unread)
  turns : (moment : Moment) → Runs input moment → (line : Line) → (outcome_at moment false).turn ≡ Row line
      → Runs input (after_row moment line (outcome_at moment false).ring)
