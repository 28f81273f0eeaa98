-- What a row holds that has been kept beside its ring: the law at the heart of a total by the rule. Entries past head are of the lap before.
use Rattle.std.specs.Prelude.{ℕ, ◌+◌, ◌%◌, ◌≤◌, ◌<◌, cond, List, ◌⊎◌, ◌≡◌, eqb}
use Rattle.book.specs.declared.Book.{Book}
use Rattle.book.specs.Record.{slots_of, held_in}
use Rattle.sums.specs.Row.{group, sum_to}
use Rattle.sums.specs.Rule.{stored_at}

-- an end: 0, 32, 64, … or s
abbrev pub End : ℕ → ℕ → Type 0
End slots e = (e % group ≡ 0) ⊎ (e ≡ slots)

-- how far the present lap has reached: head, or s where head is 0
unfoldable pub reached : ℕ → ℕ → ℕ
reached slots head = cond (eqb head 0) slots head

-- at an end up to there stands the sum of the present fields from slot 0; at any later end a sum that, with the present fields behind it, makes
-- the sum that stands at the last one
pub record Kept (slots head : ℕ) (held : ℕ → ℕ) (row : List ℕ) : Type 0 where
  pub present : (e : ℕ) → End slots e → e ≤ reached slots head → stored_at row e ≡ sum_to held e
  pub lap_before : (e : ℕ) → End slots e → reached slots head < e → e ≤ slots
      → stored_at row slots + sum_to held e ≡ stored_at row e + sum_to held slots

-- so it is with a book, its ring and its row
abbrev pub RowKept : Book → List ℕ → List ℕ → Type 0
RowKept book ring row = Kept (slots_of book) book.head (held_in book ring) row
