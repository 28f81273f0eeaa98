-- The row of running sums beside a book's ring: SCOPE, Running sums. What the slots hold is handed in as a function of the slot's number.
use Rattle.std.specs.Prelude.{ℕ, zero, suc, ◌+◌, ◌-◌, ◌*◌, ◌/◌, min, Bool, cond, List, [], ◌∷◌, ◌++◌, ◌≡◌, eqb, length, set, drop, replicate}
use Rattle.book.specs.declared.Book.{Book}
use Rattle.book.specs.Record.{block_of, slots_of, held_in}
use Rattle.book.specs.Adding.{added, added_ring}

-- the slots of a group; the last group may have fewer
abbrev pub group : ℕ
group = 32

-- the used entries, one for each group: ceil(s/32)
abbrev pub entries_for : ℕ → ℕ
entries_for slots = (slots + (group - 1)) / group

abbrev pub entries_of : Book → ℕ
entries_of book = entries_for (slots_of book)

-- the sum of the fields of `count` slots, from slot `from` on
unfoldable pub sum_from : (ℕ → ℕ) → ℕ → ℕ → ℕ
sum_from held from zero = 0
sum_from held from (suc count) = sum_from held from count + held (from + count)

-- the sum of the fields from slot 0 up to, not including, slot `end`
abbrev pub sum_to : (ℕ → ℕ) → ℕ → ℕ
sum_to held end = sum_from held 0 end

-- the entry that belongs to a group's end, where the group's last slot is `end` − 1
abbrev pub entry_at : ℕ → ℕ
entry_at end = (end - 1) / group

-- the end of the group in which a slot lies: 32, 64, …, or s for the last group
unfoldable pub group_end : ℕ → ℕ → ℕ
group_end slots slot = min slots ((slot / group + 1) * group)

-- a group ends with slot 31, 63, … and with the last slot
abbrev pub ends_group : ℕ → ℕ → Bool
ends_group slots slot = eqb (slot + 1) (group_end slots slot)

-- STORING, once a slot is written: where a group ends with it, the group's entry becomes what slot 0 and all slots up to this one hold together,
-- whatever it was; nothing else of the row changes
unfoldable pub stored : ℕ → (ℕ → ℕ) → List ℕ → ℕ → List ℕ
stored slots held row slot = cond (ends_group slots slot) (set row (entry_at (slot + 1)) (sum_to held (slot + 1))) row

-- the row after adding: where the block closes, slot head is written
unfoldable pub added_row : Book → List ℕ → List ℕ → ℕ → List ℕ
added_row book ring row item =
    cond (eqb (book.phase + 1) (block_of book)) (stored (slots_of book) (held_in book (added_ring book ring item)) row book.head) row

-- the row after adding counts one after the other
unfoldable pub added_all_row : Book → List ℕ → List ℕ → List ℕ → List ℕ
added_all_row book ring row [] = row
added_all_row book ring row (count ∷ later) =
    added_all_row (added book count) (added_ring book ring count) (added_row book ring row count) later

-- the row with its used entries 0 and all others as they were
unfoldable pub cleared_row : ℕ → List ℕ → List ℕ
cleared_row slots row = replicate (entries_for slots) 0 ++ drop (entries_for slots) row

-- what is not used of a row stays: it has its length, and its entries from `entries` on
pub record RestStays (entries : ℕ) (row row' : List ℕ) : Type 0 where
  pub same_length : length row' ≡ length row
  pub same_rest : drop entries row' ≡ drop entries row
