-- The result of a salvage in numbers, as the calls' rows have it (specs/Calls.antt) and C is told it.
use Rattle.std.specs.Prelude.{Result}
use Rattle.refusals.specs.declared.Refusal.{Refusal}
use Rattle.refusals.specs.Refused.{in_numbers}
use Rattle.book.specs.declared.Book.{Book}
use Rattle.salvage.specs.declared.Mended.{Mended}
use Rattle.salvage.specs.declared.told.Salvaged.{Salvaged}

-- how many slots were altered, and the record to go on with; a refusal hands back the one that came
abbrev pub as_salvaged : Book → Result Mended Refusal → Salvaged
as_salvaged before =
    in_numbers (λ mended. record { refusal = 0; count = mended.count; book = mended.book })
    (λ number. record { refusal = number; count = 0; book = before })
