-- A record that is a book, as refusal 8 has it (SCOPE, Refusals), put positively: each of its numbers in its range, but the
-- mark, which has none.
use Rattle.std.specs.Prelude.{ℕ, ◌+◌, ◌-◌, ◌*◌, ◌<◌, ◌≤◌}
use Rattle.book.specs.declared.Book.{Book}
use Rattle.book.specs.Limits.{largest_bound, largest_length}
use Rattle.book.specs.Record.{block_of, slots_of, bytes_of}

-- L is 1 to 65,535, n is 1 to 4,096, D is 1 to n·L
pub record Ranges (bound length tolerance : ℕ) : Type 0 where
  pub bound_low : 1 ≤ bound
  pub bound_high : bound ≤ largest_bound
  pub length_low : 1 ≤ length
  pub length_high : length ≤ largest_length
  pub tolerance_low : 1 ≤ tolerance
  pub tolerance_high : tolerance ≤ length * bound

-- and p ≤ kept ≤ n, p < c, head < s, R ≤ D − 1 + p·L
pub record Sound (book : Book) : Type 0 where
  pub ranges : Ranges book.bound book.length book.tolerance
  pub kept_high : book.kept ≤ book.length
  pub kept_low : book.phase ≤ book.kept
  pub phase_high : book.phase < block_of book
  pub head_high : book.head < slots_of book
  pub carry_high : book.carry ≤ book.tolerance - 1 + book.phase * book.bound

-- a record that is a book, with its ring lent whole
pub record Usable (book : Book) (lent : ℕ) : Type 0 where
  pub sound : Sound book
  pub room : bytes_of book ≤ lent
