-- The newest slots of a ring (SCOPE, Ring), counted back from the next slot to be written. The slot before 0 is the last one.
-- What the slots hold is handed in as a function of the slot's number.
use Rattle.std.specs.Prelude.{ℕ, zero, suc, ◌+◌, ◌-◌}

-- the slot before a slot
unfoldable pub slot_before : ℕ → ℕ → ℕ
slot_before slots zero = slots - 1
slot_before slots (suc slot) = slot

-- the j-th newest slot before `next`: one step back for each; `next` itself for j = 0
unfoldable pub newest : ℕ → ℕ → ℕ → ℕ
newest slots next zero = next
newest slots next (suc j) = slot_before slots (newest slots next j)

-- the sum of the j newest slots
unfoldable pub sum_newest : (ℕ → ℕ) → ℕ → ℕ → ℕ → ℕ
sum_newest held slots next zero = 0
sum_newest held slots next (suc j) = sum_newest held slots next j + held (newest slots next (suc j))
