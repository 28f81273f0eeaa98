-- The program's setting: SCOPE, Program. The same numbers stand in src/setting.rt.
use Rattle.std.specs.Prelude.{ℕ}

-- pixels that differ by no more are the same
abbrev pub allowance : ℕ
allowance = 12

-- L, n and D of its book, and the bytes of its ring
abbrev pub bound : ℕ
bound = 600

abbrev pub length : ℕ
length = 1440

abbrev pub tolerance : ℕ
tolerance = 3600

abbrev pub ring_length : ℕ
ring_length = 30

-- what its verdict is for
abbrev pub window : ℕ
window = 30

abbrev pub amount : ℕ
amount = 3600
