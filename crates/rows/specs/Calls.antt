-- A line into a lent buffer: one row of data for every call, whatever the line says (SCOPE, Refusals: 23).
use Rattle.std.specs.Prelude.{ℕ, List, [], ◌∷◌, ltb, length}
use Rattle.std.proofs.lemmas.List.Edits.{sets}
use Rattle.refusals.specs.Numbers.{buffer_too_short}
use Rattle.refusals.specs.First.{◌gives◌}
use Rattle.refusals.specs.Call.{Call}
use Rattle.rows.specs.Answers.{Wrote}

-- no line is longer
abbrev pub line_most : ℕ
line_most = 96

-- the text goes to the start of the buffer, and its length is given; a buffer that some line would not fit is refused
unfoldable pub line_call : List ℕ → List ℕ → Call Wrote (List ℕ)
line_call out text =
    record {
      faults = (ltb (length out) line_most gives buffer_too_short) ∷ [];
      given = record { refusal = 0; length = length text };
      left = sets out 0 text;
      back = λ number. record { refusal = number; length = 0 };
      lent = out;
    }
