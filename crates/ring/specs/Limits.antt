-- How large a ring can be (SCOPE, Ring).
use Rattle.std.specs.Prelude.{ℕ}

-- the most bits of a slot
abbrev pub widest : ℕ
widest = 16

-- the most slots
abbrev pub most_slots : ℕ
most_slots = 4096
