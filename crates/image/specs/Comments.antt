-- Comments in a header, said of the bytes alone (SCOPE, Images: visible bytes): no reading is spoken of here, and no byte is counted.
use Rattle.std.specs.Prelude.{ℕ, true, not, List, [], ◌∷◌, ◌++◌, ◌≡◌}
use Rattle.image.specs.Bytes.{letter_p, hash, line_end}
use Rattle.image.specs.Kinds.{Kind}
use Rattle.image.specs.Format.{AllOf, Header}

-- bytes of which none ends a line
abbrev pub InLine : List ℕ → Type 0
InLine bytes = AllOf (λ byte. not (line_end byte)) bytes

-- a whole comment: `#`, bytes of which none ends a line, and one that does
pub record Comment (bytes : List ℕ) : Type 0 where
  pub text : List ℕ
  pub last : ℕ
  pub split : bytes ≡ hash ∷ (text ++ (last ∷ []))
  pub within : InLine text
  pub ends : line_end last ≡ true

-- bytes with whole comments among them, and what is left of them without these: a byte that is no `#` is left, and of a comment nothing
pub data Without : (bytes left : List ℕ) → Type 0 where
  nothing : Without [] []
  byte : (first : ℕ) (later left : List ℕ) → (first ≡ hash → ⊥) → Without later left → Without (first ∷ later) (first ∷ left)
  comment : (bytes later left : List ℕ) → Comment bytes → Without later left → Without (bytes ++ later) left

-- a header with comments: `P` and the sign, then bytes with comments among them, then the white byte that delimits the raster; and without
-- its comments it is a header
pub record CommentedHeader (kind : Kind) (numbers bytes : List ℕ) : Type 0 where
  pub among : List ℕ
  pub left : List ℕ
  pub last : ℕ
  pub split : bytes ≡ letter_p ∷ kind.sign ∷ (among ++ (last ∷ []))
  pub without : Without among left
  pub header : Header kind.sign kind.tests numbers (letter_p ∷ kind.sign ∷ (left ++ (last ∷ [])))
