-- The numbers that follow from a book's bound L, length n and tolerance D: SCOPE, Numbers.
use Rattle.std.specs.Prelude.{ℕ, zero, suc, ◌+◌, ◌-◌, ◌*◌, ◌/◌, max}
use Rattle.ring.specs.Slot.{ring_bytes}

-- a / b rounded up
unfoldable pub ceil_div : ℕ → ℕ → ℕ
ceil_div a b = (a + (b - 1)) / b

-- c, the block length: the larger of 1 and floor(D/L)
unfoldable pub block_length : ℕ → ℕ → ℕ
block_length bound tolerance = max 1 (tolerance / bound)

-- s, the slots: ceil(n/c)
unfoldable pub slot_count : ℕ → ℕ → ℕ → ℕ
slot_count bound length tolerance = ceil_div length (block_length bound tolerance)

-- z, the largest quotient: ceil(c·L/D)
unfoldable pub largest_quotient : ℕ → ℕ → ℕ
largest_quotient bound tolerance = ceil_div (block_length bound tolerance * bound) tolerance

-- how many binary digits a number has: how often it can be halved until 0 is left. `steps` bounds how often that is tried
unfoldable pub digits_within : ℕ → ℕ → ℕ
digits_within zero v = 0
digits_within (suc steps) zero = 0
digits_within (suc steps) (suc v) = suc (digits_within steps (suc v / 2))

-- (a number cannot be halved more often than it counts)
unfoldable pub binary_digits : ℕ → ℕ
binary_digits v = digits_within v v

-- b, the field width: how many binary digits z has
unfoldable pub field_width : ℕ → ℕ → ℕ
field_width bound tolerance = binary_digits (largest_quotient bound tolerance)

-- B, the ring bytes: ceil(s·b/8)
unfoldable pub bytes_needed : ℕ → ℕ → ℕ → ℕ
bytes_needed bound length tolerance = ring_bytes (field_width bound tolerance) (slot_count bound length tolerance)
