-- The figure for the last i items: SCOPE, Total.
use Rattle.std.specs.Prelude.{ℕ, ◌+◌, ◌-◌, ◌*◌, ◌/◌, cond, List, nat_le}
use Rattle.ring.specs.Newest.{newest, sum_newest}
use Rattle.book.specs.declared.Book.{Book}
use Rattle.book.specs.Derived.{ceil_div}
use Rattle.book.specs.Record.{block_of, slots_of, held_in}

-- R + D·(sum of the slots) − (D − 1) − e·L·g, or 0 if that is negative (a difference of natural numbers is 0 then)
unfoldable pub reckoned : Book → ℕ → ℕ → ℕ → ℕ
reckoned book sum e g = book.carry + book.tolerance * sum - (book.tolerance - 1) - e * book.bound * g

-- j = ceil((i − p)/c), the slots that a window longer than the open block needs
unfoldable pub slots_for : Book → ℕ → ℕ
slots_for book window = ceil_div (window - book.phase) (block_of book)

-- i ≤ p: j = 0, e = p − i, g = floor(R/D)
abbrev pub figure_in_open : Book → ℕ → ℕ
figure_in_open book window = reckoned book 0 (book.phase - window) (book.carry / book.tolerance)

-- otherwise e = j·c − (i − p), and g is the oldest of the j newest slots. The sum of the j newest slots is handed in as a function of j,
-- and what a slot holds as a function of its number
abbrev pub figure_in_slots : Book → (ℕ → ℕ) → (ℕ → ℕ) → ℕ → ℕ
figure_in_slots book newestSum held window =
    let j = slots_for book window in
    reckoned book (newestSum j) (j * block_of book - (window - book.phase)) (held (newest (slots_of book) book.head j))

-- the figure, by the sums of the newest slots and by what the slots hold
unfoldable pub figure_by : Book → (ℕ → ℕ) → (ℕ → ℕ) → ℕ → ℕ
figure_by book newestSum held window =
    cond (nat_le window book.phase) (figure_in_open book window) (figure_in_slots book newestSum held window)

-- the sum of the j newest slots, by what the slots hold
abbrev pub newest_sum_of : Book → (ℕ → ℕ) → ℕ → ℕ
newest_sum_of book held j = sum_newest held (slots_of book) book.head j

-- the figure where the sums are those of the slots themselves
abbrev pub figure_of : Book → (ℕ → ℕ) → ℕ → ℕ
figure_of book held window = figure_by book (newest_sum_of book held) held window

-- the figure of a book with its ring
abbrev pub figure : Book → List ℕ → ℕ → ℕ
figure book ring window = figure_of book (held_in book ring) window
