-- Another reading of comments, which many programs have (SCOPE, Comments in headers: other readers): the line end of a comment is not ignored
-- with it but stays, as white space. Where every comment stands behind white space, as on a line of its own, the same bytes are headers in both
-- readings, with the same numbers and the same delimiter (proofs/OwnLines.antt).
use Rattle.std.specs.Prelude.{ℕ, true, List, [], ◌∷◌, ◌++◌, ◌≡◌}
use Rattle.image.specs.Bytes.{hash, white}
use Rattle.image.specs.Comments.{Comment}

-- bytes behind a byte `before`, in which each comment stands behind a white byte or behind another comment, whose last byte is white too; what
-- is left of them without the comments (ours); and what is left where of each comment the line end stays (theirs)
pub data OwnLines : (before : ℕ) (bytes ours theirs : List ℕ) → Type 0 where
  nothing : (before : ℕ) → OwnLines before [] [] []
  byte : (before first : ℕ) (later ours theirs : List ℕ) → (first ≡ hash → ⊥) → OwnLines first later ours theirs
      → OwnLines before (first ∷ later) (first ∷ ours) (first ∷ theirs)
  comment : (before : ℕ) (bytes later ours theirs : List ℕ) (c : Comment bytes) → white before ≡ true
      → OwnLines c.last later ours theirs → OwnLines before (bytes ++ later) ours (c.last ∷ theirs)
