-- The answer of a line in numbers, as its row has it (specs/Calls.antt).
use Rattle.std.specs.Prelude.{ℕ}

-- a refusal, 0 for none, and the bytes that the line took, 0 with a refusal
pub record Wrote : Type 0 where
  pub refusal : ℕ
  pub length : ℕ
