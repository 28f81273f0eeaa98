-- The ends of the ranges of L and n: SCOPE, Numbers.
use Rattle.std.specs.Prelude.{ℕ}

-- L is 1 to 65,535
abbrev pub largest_bound : ℕ
largest_bound = 65535

-- n is 1 to 4,096
abbrev pub largest_length : ℕ
largest_length = 4096
