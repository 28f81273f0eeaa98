-- The result of a line in numbers, as the calls' row has it (specs/Calls.antt).
use Rattle.std.specs.Prelude.{ℕ, Result}
use Rattle.refusals.specs.declared.Refusal.{Refusal}
use Rattle.refusals.specs.Refused.{in_numbers}
use Rattle.rows.specs.Answers.{Wrote}

-- the bytes that the line took, or 0 with a refusal
abbrev pub as_wrote : Result ℕ Refusal → Wrote
as_wrote = in_numbers (λ length. record { refusal = 0; length = length }) (λ number. record { refusal = number; length = 0 })
