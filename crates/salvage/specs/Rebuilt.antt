-- The row of running sums as salvage rebuilds it (SCOPE, Salvage): from the fields that the ring has then, wherever head stands.
use Rattle.std.specs.Prelude.{ℕ, zero, suc, ◌*◌, List, [], ◌∷◌, ◌++◌, drop}
use Rattle.sums.specs.Row.{group, entries_for, group_end, sum_to}

-- the entries of the first `groups` groups: each the sum of the fields from slot 0 to its group's end
unfoldable pub group_sums : ℕ → (ℕ → ℕ) → ℕ → List ℕ
group_sums slots held zero = []
group_sums slots held (suc groups) = group_sums slots held groups ++ sum_to held (group_end slots (groups * group)) ∷ []

-- every used entry, and the others as they were
unfoldable pub rebuilt_row : ℕ → (ℕ → ℕ) → List ℕ → List ℕ
rebuilt_row slots held row = group_sums slots held (entries_for slots) ++ drop (entries_for slots) row
