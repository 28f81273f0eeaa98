-- When a book can be made coarser, as refusals 19 and 3 have it (SCOPE, Refusals), put positively.
use Rattle.std.specs.Prelude.{ℕ, ◌*◌, ◌%◌, ◌≤◌, ◌≡◌}
use Rattle.book.specs.declared.Book.{Book}

-- how often D may go into the new tolerance: 2 to 16
abbrev pub fewest_times : ℕ
fewest_times = 2

abbrev pub most_times : ℕ
most_times = 16

-- D is a multiple of L, m is 2 to 16, and m·D is at most n·L
pub record Coarsens (book : Book) (times : ℕ) : Type 0 where
  pub whole : book.tolerance % book.bound ≡ 0
  pub times_low : fewest_times ≤ times
  pub times_high : times ≤ most_times
  pub tolerance_high : times * book.tolerance ≤ book.length * book.bound
