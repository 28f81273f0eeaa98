-- The slots of a ring (SCOPE, Ring). Slot k of width b occupies the bits k·b to k·b + b − 1 of the ring's row of bits, its highest digit first.
use Rattle.std.specs.Prelude.{ℕ, ◌+◌, ◌*◌, ◌/◌, List, ◌++◌, drop, replicate}
use Rattle.bits.specs.Row.{part_at, with_part}

-- B, the bytes that a ring takes: ceil(slots·width / 8)
unfoldable pub ring_bytes : ℕ → ℕ → ℕ
ring_bytes width slots = (slots * width + 7) / 8

-- the number in a slot
unfoldable pub field : ℕ → List ℕ → ℕ → ℕ
field width ring slot = part_at (slot * width) width ring

-- the ring with a value in a slot: the bits before the slot, the value's digits, the bits after the slot
unfoldable pub written : ℕ → List ℕ → ℕ → ℕ → List ℕ
written width ring slot value = with_part (slot * width) width value ring

-- the ring with its first B bytes 0 and all others as they were
unfoldable pub cleared : ℕ → ℕ → List ℕ → List ℕ
cleared width slots ring = replicate (ring_bytes width slots) 0 ++ drop (ring_bytes width slots) ring
