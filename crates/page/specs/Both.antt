-- Both calls, handed the same: short names for what they give.
use Rattle.std.specs.Prelude.{ℕ, List}
use Rattle.std.specs.Borrow.{Bor}
use Rattle.refusals.specs.Call.{refusal_of, result_of}
use Rattle.book.specs.declared.Book.{Book}
use Rattle.book.specs.Answers.{Ruling}
use Rattle.image.specs.Part.{Part}
use Rattle.page.specs.Answers.{Choice}
use Rattle.page.specs.declared.Ticks.{Ticks}
use Rattle.page.specs.Shown.{ruling_on}
use Rattle.page.specs.Calls.{lent_by, show_call, part_call}

-- what the page asks with: record, window, amount, the three slices, the ticks
pub record Asked : Type 0 where
  pub book : Book
  pub window : ℕ
  pub amount : ℕ
  pub ring : Bor (List ℕ)
  pub newest : Bor (List ℕ)
  pub older : Bor (List ℕ)
  pub ticks : Ticks

-- the verdict that it goes by
abbrev pub ruling_to : Asked → Ruling
ruling_to a = ruling_on a.book a.ring.now a.window a.amount

-- what show tells, and what it is refused with
abbrev pub shown_to : Asked → Choice
shown_to a = result_of (show_call a.book a.window a.amount (lent_by a.ring a.newest a.older) a.ticks)

abbrev pub refused_to : Asked → ℕ
refused_to a = refusal_of (show_call a.book a.window a.amount (lent_by a.ring a.newest a.older) a.ticks)

-- what raster gives
abbrev pub part_to : Asked → Part
part_to a = result_of (part_call a.book a.window a.amount a.ring a.newest a.older)
