-- The results of the ring's calls in numbers, as the calls' rows have them (specs/Calls.antt) and C is told them.
use Rattle.std.specs.Prelude.{ℕ, Result}
use Rattle.refusals.specs.declared.Refusal.{Refusal}
use Rattle.refusals.specs.Refused.{in_numbers}
use Rattle.ring.specs.declared.Answer.{Answer}

-- a refusal number, 0 for none, and a number, which is 0 at a refusal
abbrev pub as_answer : Result ℕ Refusal → Answer
as_answer = in_numbers (λ value. record { refusal = 0; value = value }) (λ number. record { refusal = number; value = 0 })
