-- A row of bits in bytes, as in a PBM image: the top bit of the first byte comes first (SCOPE, Ring).
use Rattle.std.specs.Prelude.{ℕ, zero, suc, ◌+◌, ◌*◌, ◌/◌, ◌%◌, ◌^◌, List, [], ◌∷◌, ◌++◌, length, take, drop}

-- the lowest n binary digits of v, the highest of them first
unfoldable pub digits : ℕ → ℕ → List ℕ
digits zero v = []
digits (suc n) v = v / 2 ^ n % 2 ∷ digits n v

-- the number that a row of binary digits writes, the highest digit first
unfoldable pub number : List ℕ → ℕ
number [] = 0
number (digit ∷ later) = digit * 2 ^ length later + number later

-- the bits of a row of bytes: eight of each byte
unfoldable pub bits : List ℕ → List ℕ
bits [] = []
bits (byte ∷ later) = digits 8 byte ++ bits later

-- a row of bits packed into n bytes, eight bits to a byte
unfoldable pub packed : ℕ → List ℕ → List ℕ
packed zero row = []
packed (suc n) row = number (take 8 row) ∷ packed n (drop 8 row)

-- the number that the `width` bits from bit `at` on write
abbrev pub part_at : ℕ → ℕ → List ℕ → ℕ
part_at at width bytes = number (take width (drop at (bits bytes)))

-- the bytes with a value in the place of these bits: the bits before them, the value's digits, the bits after them
abbrev pub with_part : ℕ → ℕ → ℕ → List ℕ → List ℕ
with_part at width value bytes =
    packed (length bytes) (take at (bits bytes) ++ digits width value ++ drop (at + width) (bits bytes))
