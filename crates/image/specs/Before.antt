-- How an image is read if there are no comments, as it was before request C-12: every byte among the first 24,576 is seen (SCOPE, Images:
-- visible bytes).
use Rattle.std.specs.Prelude.{ℕ, suc, ◌≤◌, min, List, [], ◌∷◌, ◌⊎◌, ◌≡◌, length, take, drop}
use Rattle.refusals.specs.Numbers.{ends_too_early}
use Rattle.image.specs.Bytes.{hash}
use Rattle.image.specs.Seen.{limit, Seen, end_of}
use Rattle.image.specs.Step.{Step, stopped, and_then}
use Rattle.image.specs.Fields.{header_fields}
use Rattle.image.specs.Kinds.{Kind}
use Rattle.image.specs.Reading.{Reading, refused_reading, with_raster}

-- the bytes of a list that starts after `used` bytes, each with the bytes used with it
abbrev pub every_byte : (used : ℕ) → List ℕ → List Seen
every_byte used [] = []
every_byte used (byte ∷ later) = record { byte = byte; upto = suc used } ∷ every_byte (suc used) later

-- the header read from all of these bytes, and the whole reading: the steps are those of specs/Reading.antt
unfoldable pub header_before : Kind → List ℕ → Step (List ℕ)
header_before kind s = header_fields (end_of s) kind.sign kind.tests (every_byte 0 (take limit s))

unfoldable pub reading_before : Kind → List ℕ → Reading
reading_before kind s = and_then refused_reading (header_before kind s) λ numbers start rest. with_raster kind s numbers start

-- no byte is a `#`
abbrev pub NoHash : List ℕ → Type 0
NoHash [] = Unit {0}
NoHash (byte ∷ later) = (byte ≡ hash → ⊥) × NoHash later

-- of the first `taken` bytes none behind the sign is a `#`, and that reader takes no byte of the header behind them: with them alone it has
-- come to the delimiter or to a fault, or no more may be taken
pub record PlainUpTo (kind : Kind) (s : List ℕ) (taken : ℕ) : Type 0 where
  pub no_hash : NoHash (drop 2 (take taken s))
  pub stops : (header_before kind (take taken s) ≡ stopped ends_too_early → ⊥) ⊎ (min limit (length s) ≤ taken)
