-- Where the slots lie in the bytes, and what a slot can hold.
-- Assumes nothing.
use Prim.Native.Nat.{ℕ, ◌+◌, ◌*◌, ◌^◌, ◌<◌, ◌≤◌}
use native.Mathlib.Nat.{mul-le-mul_right, suc-mul}
use native.Mathlib.Omega.{arith}
use mathlib.Core.List.{List}
use mathlib.Core.Path.{sym}
use lib.ListN.{length}
use lib.Pow.{pow_mono}
use Rattle.bits.proofs.Promises.{part_lt}
use Rattle.ring.specs.Limits.{widest}
use Rattle.ring.specs.Slot.{ring_bytes, field}
use Rattle.ring.specs.Newest.{sum_newest}
use Rattle.ring.proofs.Around.{sum_none, sum_upward, sum_near, sum_past, sum_le}

-- a slot holds no more than its width allows
pub field_lt : (width : ℕ) (ring : List ℕ) (slot : ℕ) → field width ring slot < 2 ^ width
unfolding field
field_lt width ring slot = part_lt (slot * width) width ring

-- so at most 65,535
pub field_le : (width : ℕ) (ring : List ℕ) (slot : ℕ) → width ≤ widest → field width ring slot ≤ 65535
field_le width ring slot h = omega (arith, field_lt width ring slot, pow_mono {i = width} {j = widest} h)

-- and j of them at most j times that
pub sum_fits : (width : ℕ) (ring : List ℕ) (slots next j : ℕ) → width ≤ widest → sum_newest (field width ring) slots next j ≤ j * 65535
sum_fits width ring slots next j narrow = sum_le (field width ring) 65535 (λ slot. field_le width ring slot narrow) slots next j

-- the slots' bits end within the bytes that the ring takes
pub slots_fit : (width slots : ℕ) → slots * width ≤ ring_bytes width slots * 8
unfolding ring_bytes
slots_fit width slots = omega arith

-- a slot ends where the next one begins
pub slot_end : (width : ℕ) {slot slots : ℕ} → slot < slots → slot * width + width ≤ slots * width
slot_end width {slot} {slots} h = rw (sym (suc-mul slot width)) (mul-le-mul_right width h)

-- a slot of a ring that is lent whole lies within it
pub slot_within : (width slots slot : ℕ) (ring : List ℕ) → slot < slots → ring_bytes width slots ≤ length ring
    → slot * width + width ≤ length ring * 8
slot_within width slots slot ring h room = omega (arith, slot_end width h, slots_fit width slots)

-- what the proofs of sums list
pub ruleset sums = (sum_none, sum_upward, sum_near, sum_past, sum_fits, field_le)
