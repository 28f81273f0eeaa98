-- THE RULE (SCOPE, Running sums): which single fields and which stored sums a total reads, over record and window alone; and the sum of slots
-- that they make, whatever the row holds.
-- Stored sums stand at the ENDS of groups: 32, 64, … and s. Slot 0 begins at the end 0, whose sum is 0 and is not read.
use Rattle.std.specs.Prelude.{ℕ, zero, suc, ◌+◌, ◌-◌, ◌*◌, ◌/◌, cond, List, eqb, leb, ltb, get_or}
use Rattle.book.specs.declared.Book.{Book}
use Rattle.book.specs.Record.{slots_of, held_in}
use Rattle.book.specs.Figure.{slots_for, figure_by}
use Rattle.sums.specs.declared.rule.Parts.{Parts}
use Rattle.sums.specs.Row.{group, group_end, sum_from, entry_at}

-- A, the end of the group in which slot a lies; 0 if a is 0 (and s if a is s)
unfoldable pub end_after : ℕ → ℕ → ℕ
end_after slots zero = 0
end_after slots (suc a) = group_end slots (suc a)

-- E, the last end at or before b, which is at most s
unfoldable pub end_before : ℕ → ℕ → ℕ
end_before slots b = cond (eqb b slots) slots (b / group * group)

-- A RUN of slots from a up to, not including, b. Where A < E: the fields a … A − 1, the sum stored at E less the sum stored at A, and the
-- fields E … b − 1; otherwise the fields a … b − 1 alone. (`front` and `back`: single fields are read up to the one and from the other on;
-- `plus` and `minus`: the ends whose sums are added and taken off, 0 for none)
unfoldable pub parts_of : ℕ → ℕ → ℕ → Parts
parts_of slots a b =
    let A = end_after slots a in
    let E = end_before slots b in
    cond (ltb A E) (record { front = A; plus = E; minus = A; back = E }) (record { front = b; plus = 0; minus = 0; back = b })

-- how many single fields a run reads …
abbrev pub fields_of : ℕ → ℕ → Parts → ℕ
fields_of a b parts = (parts.front - a) + (b - parts.back)

-- … and how many stored sums: the one at 0 is not read
abbrev pub read_at : ℕ → ℕ
read_at zero = 0
read_at (suc end) = 1

abbrev pub sums_of : Parts → ℕ
sums_of parts = read_at parts.plus + read_at parts.minus

-- the sum that the row holds for an end
unfoldable pub stored_at : List ℕ → ℕ → ℕ
stored_at row zero = 0
stored_at row (suc end) = get_or row (entry_at (suc end)) 0

-- what a run adds, and what it takes off
abbrev pub added_by : (ℕ → ℕ) → List ℕ → ℕ → ℕ → Parts → ℕ
added_by held row a b parts = sum_from held a (parts.front - a) + stored_at row parts.plus + sum_from held parts.back (b - parts.back)

abbrev pub taken_by : List ℕ → Parts → ℕ
taken_by row parts = stored_at row parts.minus

-- THE j NEWEST SLOTS before head are two runs: one up to head, and what does not fit in front of head up to the last slot (a difference of
-- natural numbers is 0 where it would be negative, so that the one begins at 0 then, and the other is empty where j ≤ head)
module _ (slots head j : ℕ) where
  abbrev pub near_from : ℕ
  near_from = head - j

  abbrev pub far_from : ℕ
  far_from = slots - (j - head)

  -- the oldest of them is the slot with which its run begins
  unfoldable pub oldest_slot : ℕ
  oldest_slot = cond (leb j head) near_from far_from

  abbrev pub near : Parts
  near = parts_of slots near_from head

  abbrev pub far : Parts
  far = parts_of slots far_from slots

  -- how many single fields, and how many stored sums, both read
  unfoldable pub fields_read : ℕ
  fields_read = fields_of near_from head near + fields_of far_from slots far

  unfoldable pub sums_read : ℕ
  sums_read = sums_of near + sums_of far

  -- the sum of the slots by the rule: all that is added less all that is taken off, or 0 if that is negative
  unfoldable pub sum_by_row : (ℕ → ℕ) → List ℕ → ℕ
  sum_by_row held row =
      (added_by held row near_from head near + added_by held row far_from slots far) - (taken_by row near + taken_by row far)

-- A TOTAL for a window: a window within the open block reads nothing; a longer one reads the fields and the sums of its j slots, and the field g
-- of the oldest of them by itself
unfoldable pub fields_for : Book → ℕ → ℕ
fields_for book window = cond (leb window book.phase) 0 (fields_read (slots_of book) book.head (slots_for book window) + 1)

unfoldable pub sums_for : Book → ℕ → ℕ
sums_for book window = cond (leb window book.phase) 0 (sums_read (slots_of book) book.head (slots_for book window))

-- its figure is that of SCOPE, Total, with the sum of the slots by the rule
abbrev pub figure_by_row : Book → List ℕ → List ℕ → ℕ → ℕ
figure_by_row book ring row window =
    figure_by book (λ j. sum_by_row (slots_of book) book.head j (held_in book ring) row) (held_in book ring) window
