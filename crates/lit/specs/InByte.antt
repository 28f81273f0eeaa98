-- The place of the k-th one within a byte (SCOPE, Lit frames): 1 to 8, the top bit first, and 0 where there is none.
use Rattle.std.specs.Prelude.{ℕ}
use Rattle.bits.specs.Row.{digits}
use Rattle.lit.specs.RankSelect.{select_of}

abbrev pub place_in_byte : ℕ → ℕ → ℕ
place_in_byte byte k = select_of k (digits 8 byte)
