-- A list that can stand in memory as bytes.
use Rattle.std.specs.Prelude.{ℕ, ◌<◌, List, get_or}

-- every number of the list is below 256
abbrev pub Bytes : List ℕ → Type 0
Bytes xs = (i : ℕ) → get_or xs i 0 < 256
