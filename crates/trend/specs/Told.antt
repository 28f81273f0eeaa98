-- The result of a trend in numbers, as the call's row has it (specs/Trend.antt) and C is told it.
use Rattle.std.specs.Prelude.{ℤ, pos, Result}
use Rattle.refusals.specs.declared.Refusal.{Refusal}
use Rattle.refusals.specs.Refused.{in_numbers}
use Rattle.trend.specs.declared.Answer.{Answer}

-- a trend, or 0
abbrev pub as_answer : Result ℤ Refusal → Answer
as_answer = in_numbers (λ trend. record { refusal = 0; trend = trend }) (λ number. record { refusal = number; trend = pos 0 })
