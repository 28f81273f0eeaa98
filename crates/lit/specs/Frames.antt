-- One bit a frame, 1 for lit and 0 for dark, packed as a PBM row (SCOPE, Lit frames). `count` is the length of the row: how many frames it has.
use Rattle.std.specs.Prelude.{ℕ, List, take}
use Rattle.bits.specs.Row.{bits}

-- the frames of a row: as many of its first bits as its length says; what stands behind them is no frame
abbrev pub frames : List ℕ → ℕ → List ℕ
frames row count = take count (bits row)
