-- What the theorems of proofs/ promise of every reading, and of an accepted one.
use Rattle.std.specs.Prelude.{ℕ, ◌≤◌, ◌<◌, List, [], ◌∷◌, ◌++◌, ◌⊎◌, ◌≡◌, length, take}
use Rattle.refusals.specs.Numbers.{ends_too_early}
use Rattle.image.specs.Bytes.{hash}
use Rattle.image.specs.Seen.{limit}
use Rattle.image.specs.Tests.{Test}
use Rattle.image.specs.Kinds.{Kind}
use Rattle.image.specs.Format.{Header, Image}
use Rattle.image.specs.Comments.{InLine, Without}
use Rattle.image.specs.FirstFault.{seen_in}
use Rattle.image.specs.Reading.{Reading, refused_reading, used_with, reading_of}

-- what every reading is: refused with all numbers 0, or taken with a raster of the size that the numbers say
abbrev pub Sized : Kind → Reading → Type 0
Sized kind reading =
    (reading ≡ refused_reading reading.refusal)
    ⊎ ((reading.refusal ≡ 0) × (reading.used ≡ used_with kind reading.numbers reading.start))

-- and the part that it names lies in the slice
pub record Lies (s : List ℕ) (start used : ℕ) : Type 0 where
  pub order : start ≤ used
  pub there : used ≤ length s
  pub within : used ≤ limit

-- a slice that starts with an image of this reading's numbers
abbrev pub ImageOf : Kind → List ℕ → Reading → Type 0
ImageOf kind s reading = Image kind s reading.numbers reading.start reading.used

-- some number of bytes decides the answer: fewer leave the reader waiting for more, and with them or more the answer is the whole slice's
pub record DecidedAfter (kind : Kind) (s : List ℕ) : Type 0 where
  pub bytes : ℕ
  pub there : bytes ≤ length s
  pub waits : (n : ℕ) → n < bytes → (reading_of kind (take n s)).refusal ≡ ends_too_early
  pub decides : (n : ℕ) → bytes ≤ n → reading_of kind (take n s) ≡ reading_of kind s

-- two ways to part the bytes of a header are one
pub record SameParts {sign : ℕ} {tests : List Test} {numbers bytes : List ℕ} (p q : Header sign tests numbers bytes) : Type 0 where
  pub fields : p.fields ≡ q.fields
  pub last : p.last ≡ q.last

-- a comment that has begun: `#`, and bytes of which none ends a line
pub record Unended (bytes : List ℕ) : Type 0 where
  pub text : List ℕ
  pub split : bytes ≡ hash ∷ text
  pub within : InLine text

-- any bytes by their comments: bytes with whole comments among them, what is left of those without them, and then nothing or a comment that
-- has begun
pub record CommentParts (all : List ℕ) : Type 0 where
  pub bytes : List ℕ
  pub tail : List ℕ
  pub left : List ℕ
  pub split : all ≡ bytes ++ tail
  pub without : Without bytes left
  pub unended : (tail ≡ []) ⊎ Unended tail

-- for a slice whose first 24,576 bytes are these two and those behind them: its header bytes are the two, and what is left of the others
-- without comments
pub record SeenParts (s : List ℕ) (first second : ℕ) (behind : List ℕ) : Type 0 where
  pub parts : CommentParts behind
  pub seen : seen_in s ≡ first ∷ second ∷ parts.left
