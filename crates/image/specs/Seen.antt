-- The header bytes that a reader sees: those of the slice up to the limit that belong to no comment, each with the number of bytes used once it
-- is taken. The reading goes by nothing else; specs/Comments.antt says the same without counting.
use Rattle.std.specs.Prelude.{ℕ, suc, Bool, true, false, cond, not, ◌&&◌, ◌||◌, List, [], ◌∷◌, leb, eqb, length, take, drop}
use Rattle.refusals.specs.Numbers.{image_too_large, ends_too_early}
use Rattle.image.specs.Bytes.{hash, line_end}

-- an image, header included, has at most 24,576 bytes
abbrev pub limit : ℕ
limit = 24576

-- a header byte that is seen, and the bytes used with it
pub record Seen : Type 0 where
  pub byte : ℕ
  pub upto : ℕ

-- whether a comment goes on behind a byte that has `used` bytes before it, where it stands inside one or not: a `#` behind the first
-- two bytes opens one, and the next CR or LF is its last byte (SCOPE, Images: visible bytes)
unfoldable pub comments : (inside : Bool) (used byte : ℕ) → Bool
comments false used byte = eqb byte hash && leb 2 used
comments true used byte = not (line_end byte)

-- the bytes, of a list that starts after `used` bytes, that are seen: a comment hides its first byte, its last, and all between them
unfoldable pub visible : (inside : Bool) (used : ℕ) → List ℕ → List Seen
visible inside used [] = []
visible inside used (byte ∷ later) =
    let goes_on = comments inside used byte in
    let behind = visible goes_on (suc used) later in
    cond (inside || goes_on) behind (record { byte = byte; upto = suc used } ∷ behind)

-- what a reader that has used some bytes of the slice, and stands in no comment, still sees
unfoldable pub ahead : List ℕ → ℕ → List Seen
ahead s used = visible false used (drop used (take limit s))

-- the bytes alone
abbrev pub bytes_of : List Seen → List ℕ
bytes_of [] = []
bytes_of (seen ∷ rest) = seen.byte ∷ bytes_of rest

-- how many bytes are used once all that is seen is taken
abbrev pub reach : List Seen → ℕ
reach [] = 0
reach (seen ∷ []) = seen.upto
reach (seen ∷ next ∷ rest) = reach (next ∷ rest)

-- needing a byte that is not there: 13 where it would be the 24,577th, else 14
unfoldable pub end_of : List ℕ → ℕ
end_of s = cond (leb limit (length s)) image_too_large ends_too_early
