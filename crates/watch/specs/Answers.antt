-- The answers of the calls in numbers, as the calls' rows have them (specs/Calls.antt), and the turn with the number of its refusal.
use Rattle.std.specs.Prelude.{ℕ}
use Rattle.watch.specs.declared.State.{State}
use Rattle.watch.specs.declared.Line.{Line}

-- what comes of the bytes at hand: a row, a refusal that ends the run, the end of the input, or that more bytes are needed
pub data Turn : Type 0 where
  Row : Line → Turn
  Refused : ℕ → Turn
  Ends : Turn
  Wait : Turn

-- a refusal, 0 for none, and the state before the first frame
pub record Started : Type 0 where
  pub refusal : ℕ
  pub state : State

-- a refusal, 0 for none, the turn, and how many bytes of its row were written; with a refusal the turn tells it too
pub record Stepped : Type 0 where
  pub refusal : ℕ
  pub turn : Turn
  pub wrote : ℕ
