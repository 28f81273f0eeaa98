-- The program's loop (SCOPE, Program) as a run of watch: the calls made so far are a run over what was read, and a whole run has written the
-- whole output.
use Rattle.std.specs.Prelude.{ℕ, Bool, true, List, [], ◌++◌, ◌≡◌, length, take}
use Rattle.rows.specs.Row.{head_text}
use Rattle.watch.specs.declared.Line.{Line}
use Rattle.watch.specs.Output.{Moment, Runs, output_of}
use Rattle.frozen.specs.declared.desk.Desk.{Desk}
use Rattle.frozen.specs.declared.round.Round.{Round}
use Rattle.frozen.specs.declared.Given.{Given}
use Rattle.frozen.specs.Desk.{last_in, hand_in, Received}
use Rattle.frozen.specs.declared.round.Go.TheVariants.{Read}
use Rattle.frozen.specs.Round.{turns_most, round_of}

-- the moment of a run that stands on the desk
abbrev pub moment_on : Desk → (ring buf written : List ℕ) → List Line → (unread : List ℕ) → Moment
moment_on desk ring buf written lines unread =
    record {
      written = written;
      lines = lines;
      state = desk.state;
      ring = ring;
      last = last_in buf desk;
      hand = hand_in buf desk;
      unread = unread;
    }

-- The calls so far have read `consumed` and written `written`, and stand on the desk: however the input goes on, they are a run over it
pub record Along (consumed written : List ℕ) (desk : Desk) (ring buf : List ℕ) : Type 0 where
  pub lines : List Line
  pub run : (unread : List ℕ) → Runs (consumed ++ unread) (moment_on desk ring buf written lines unread)

-- such calls, whatever they have read and written
pub record Standing (desk : Desk) (ring buf : List ℕ) : Type 0 where
  pub consumed : List ℕ
  pub written : List ℕ
  pub along : Along consumed written desk ring buf

-- A text is the whole output: of what was read if the input is over, and otherwise however it goes on
abbrev pub WholeOutput : (consumed text : List ℕ) (over : Bool) → Type 0
WholeOutput consumed text over = (unread : List ℕ) → (over ≡ true → unread ≡ []) → text ≡ output_of (consumed ++ unread)

-- Before a round: where the last one waits, a read; otherwise the same desk
abbrev pub Supplied : (told : Round) (buf : List ℕ) (over : Bool) (given : Given) (buf_after : List ℕ) → Type 0
Supplied told buf over given buf_after =
    (told.go ≡ Read → Received told.desk buf given.desk given.over buf_after)
    × ((told.go ≡ Read → ⊥) → (given ≡ record { desk = told.desk; over = over }) × (buf_after ≡ buf))

-- What is handed to write: the first line, or the rows of a round from a desk that calls stand on
pub data Due (bytes : List ℕ) : Type 0 where
  first : bytes ≡ head_text → Due bytes
  rows : (desk : Desk) (ring buf : List ℕ) (over : Bool) → Standing desk ring buf → bytes ≡ (round_of turns_most desk ring buf over).text → Due bytes

-- The run is complete: calls that stood on a desk, and one round more, whose rows are at the start of the buffer; what was written before it
-- and those rows are the whole output
pub record Complete (buf out : List ℕ) : Type 0 where
  pub desk : Desk
  pub ring : List ℕ
  pub over : Bool
  pub stood : Standing desk ring buf
  pub there : take (length (round_of turns_most desk ring buf over).text) out ≡ (round_of turns_most desk ring buf over).text
  pub whole : WholeOutput stood.consumed (stood.written ++ (round_of turns_most desk ring buf over).text) over
