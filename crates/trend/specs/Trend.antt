-- More or less movement than before (SCOPE, Trend), in whole numbers with a sign, which are the toolchain's own.
use Rattle.std.specs.Prelude.{ℕ, ◌*◌, List, [], ◌∷◌, ◌++◌, ℤ, pos, ◌-ℤ◌, length}
use Rattle.refusals.specs.Call.{Call}
use Rattle.book.specs.declared.Book.{Book}
use Rattle.book.specs.Figure.{figure}
use Rattle.book.specs.Calls.{book_faults, window_fault}
use Rattle.trend.specs.declared.Answer.{Answer}

-- twice one total less another: the total of the last i items set against that of the i before them, if the other one is of the last 2i
abbrev pub twice_less : ℕ → ℕ → ℤ
twice_less total longer = pos (2 * total) -ℤ pos longer

-- the trend for a window i: twice the figure for i less the figure for 2i
unfoldable pub trend_of : Book → List ℕ → ℕ → ℤ
trend_of book ring window = twice_less (figure book ring window) (figure book ring (2 * window))

-- Trend: 8, 4, then 5 where 2i is above kept. It gives the trend, whatever the mark
unfoldable pub trend_call : Book → List ℕ → ℕ → Call Answer (List ℕ)
trend_call book ring window =
    record {
      faults = book_faults book (length ring) ++ window_fault book (2 * window) ∷ [];
      given = record { refusal = 0; trend = trend_of book ring window };
      left = ring;
      back = λ refusal. record { refusal = refusal; trend = pos 0 };
      lent = ring;
    }
