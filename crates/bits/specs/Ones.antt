-- How many bits of a row are 1.
use Rattle.std.specs.Prelude.{ℕ, zero, suc, ◌-◌, List, [], ◌∷◌, take, drop}
use Rattle.bits.specs.Row.{bits}

-- the number of ones; a bit is 0 or 1, so that one that is not 0 is 1
unfoldable pub ones_of : List ℕ → ℕ
ones_of [] = 0
ones_of (zero ∷ later) = ones_of later
ones_of (suc more ∷ later) = suc (ones_of later)

-- how many of the bits from `from` up to, not including, `to` of a row of bytes are 1
abbrev pub ones_between : ℕ → ℕ → List ℕ → ℕ
ones_between from to row = ones_of (take (to - from) (drop from (bits row)))
