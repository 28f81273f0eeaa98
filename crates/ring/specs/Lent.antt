-- What a caller can show of its numbers so that no call of the ring is refused.
use Rattle.std.specs.Prelude.{ℕ, ◌≤◌, ◌<◌}
use Rattle.ring.specs.Limits.{widest, most_slots}
use Rattle.ring.specs.Slot.{ring_bytes}

-- a ring that is lent whole: its width is 1 to 16, its slots are 1 to 4,096, and `lent` bytes are as many as it takes
pub record Lent (width slots lent : ℕ) : Type 0 where
  pub width_low : 1 ≤ width
  pub width_high : width ≤ widest
  pub slots_low : 1 ≤ slots
  pub slots_high : slots ≤ most_slots
  pub room : ring_bytes width slots ≤ lent

-- and a slot of it
pub record HasSlot (width slots lent slot : ℕ) : Type 0 where
  pub whole : Lent width slots lent
  pub below : slot < slots
