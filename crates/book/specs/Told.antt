-- The results of the book's calls in numbers, as the calls' rows have them (specs/Calls.antt) and C is told them: 0 for no refusal, and with a
-- refusal zeros, or the record that came.
use Rattle.std.specs.Prelude.{ℕ, Result, Ok, Err}
use Rattle.refusals.specs.Numbers.{item_too_large}
use Rattle.refusals.specs.declared.Refusal.{Refusal}
use Rattle.refusals.specs.Refused.{number_of, in_numbers}
use Rattle.book.specs.declared.Book.{Book}
use Rattle.book.specs.declared.BothFigures.{BothFigures}
use Rattle.book.specs.declared.RunRefusal.{RunRefusal}
use Rattle.book.specs.declared.RunRefusal.TheVariants as run_refusals
use Rattle.book.specs.declared.told.Updated.{Updated}
use Rattle.book.specs.declared.told.Ran.{Ran}
use Rattle.book.specs.declared.told.Figure.{Figure}
use Rattle.book.specs.declared.told.Window.{Window}
use Rattle.book.specs.declared.shape.Shape.{Shape}
use Rattle.book.specs.declared.shape.Shaped.{Shaped}
use Rattle.book.specs.declared.verdicts.Notice.{Notice}
use Rattle.book.specs.Answers.{Figures, Ruling, Told, Refused}
use Rattle.book.specs.Shape.{no_shape}

-- the record to go on with; a refusal hands back the one that came
abbrev pub as_updated : Book → Result Book Refusal → Updated
as_updated before = in_numbers (λ book. record { refusal = 0; book = book }) (λ number. record { refusal = number; book = before })

-- the same of a run; with 7 comes the place of the first count above L, otherwise 0
abbrev pub as_ran : Book → Result Book RunRefusal → Ran
as_ran before (Ok book) = record { refusal = 0; place = 0; book = book }
as_ran before (Err (run_refusals.Refused refusal)) = record { refusal = number_of refusal; place = 0; book = before }
as_ran before (Err (run_refusals.CountTooLarge place)) = record { refusal = item_too_large; place = place; book = before }

-- the numbers of a book, or zeros
abbrev pub as_shaped : Result Shape Refusal → Shaped
as_shaped = in_numbers (λ shape. record { refusal = 0; shape = shape }) (λ number. record { refusal = number; shape = no_shape })

-- a figure, or 0
abbrev pub as_figure : Result ℕ Refusal → Figure
as_figure = in_numbers (λ figure. record { refusal = 0; figure = figure }) (λ number. record { refusal = number; figure = 0 })

-- two figures, or zeros
abbrev pub as_figures : Result BothFigures Refusal → Figures
as_figures =
    in_numbers (λ totals. record { refusal = 0; shorter = totals.shorter; longer = totals.longer })
    (λ number. record { refusal = number; shorter = 0; longer = 0 })

-- a window, or 0
abbrev pub as_window : Result ℕ Refusal → Window
as_window = in_numbers (λ window. record { refusal = 0; window = window }) (λ number. record { refusal = number; window = 0 })

-- what the page is told, or the refusal
abbrev pub as_ruling : Result Notice Refusal → Ruling
as_ruling = in_numbers Told Refused
