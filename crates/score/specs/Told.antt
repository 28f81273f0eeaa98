-- The results of the scores in numbers, as the calls' rows have them (specs/Calls.antt, specs/Masked.antt) and C is told them.
use Rattle.std.specs.Prelude.{ℕ, Result}
use Rattle.refusals.specs.declared.Refusal.{Refusal}
use Rattle.refusals.specs.Refused.{in_numbers}
use Rattle.score.specs.declared.Answer.{Answer}

-- a number, or a refusal with the number 0
abbrev pub as_answer : Result ℕ Refusal → Answer
as_answer = in_numbers (λ value. record { refusal = 0; value = value }) (λ number. record { refusal = number; value = 0 })
