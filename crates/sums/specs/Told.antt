-- The result of a total by the row in numbers, as the call's row has it (specs/Calls.antt) and C is told it.
use Rattle.std.specs.Prelude.{Result}
use Rattle.refusals.specs.declared.Refusal.{Refusal}
use Rattle.refusals.specs.Refused.{in_numbers}
use Rattle.sums.specs.declared.RowTotal.{RowTotal}
use Rattle.sums.specs.declared.told.Summed.{Summed}

-- a figure with how many fields and sums were read, or zeros
abbrev pub as_summed : Result RowTotal Refusal → Summed
as_summed =
    in_numbers (λ total. record { refusal = 0; figure = total.figure; fields = total.fields; sums = total.sums })
    (λ number. record { refusal = number; figure = 0; fields = 0; sums = 0 })
