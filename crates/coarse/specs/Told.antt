-- The result of making a book coarser in numbers, as the calls' rows have it (specs/Calls.antt) and C is told it.
use Rattle.std.specs.Prelude.{Result}
use Rattle.refusals.specs.declared.Refusal.{Refusal}
use Rattle.refusals.specs.Refused.{in_numbers}
use Rattle.book.specs.declared.Book.{Book}
use Rattle.coarse.specs.declared.Coarsened.{Coarsened}
use Rattle.coarse.specs.declared.told.Coarser.{Coarser}

-- the bytes that the new ring takes, and the record to go on with; a refusal hands back the old one
abbrev pub as_coarser : Book → Result Coarsened Refusal → Coarser
as_coarser before =
    in_numbers (λ made. record { refusal = 0; bytes = made.bytes; book = made.book })
    (λ number. record { refusal = number; bytes = 0; book = before })
