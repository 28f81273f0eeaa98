-- What is seen of a list, by its first byte. Here alone, and in the proof of `image::bytes::opens_comment`, it is looked up what a comment is.
-- Assumes nothing.
use Prim.Native.Nat.{ℕ, suc, ◌≤◌}
use mathlib.Core.Bool.{Bool, true, false, ◌&&◌}
use mathlib.Core.List.{List, ◌∷◌}
use mathlib.Core.Path.{◌≡◌, refl}
use borrow.Author.Tests.{le-leb, leb-true, eqb-true}
use lib.Dec.{leb, eqb}
use Rattle.image.specs.Bytes.{hash, line_end}
use Rattle.image.specs.Seen.{comments, visible}

-- if a byte opens a comment, it is a `#` behind the first two bytes …
pub opens_none : (used byte : ℕ) → (2 ≤ used → byte ≡ hash → ⊥) → comments false used byte ≡ false
unfolding comments
opens_none used byte other = by (eqb byte hash) refl (leb 2 used) refl
  where
    by : (b : Bool) → eqb byte hash ≡ b → (two : Bool) → leb 2 used ≡ two → (b && two) ≡ false
    by true e true h = absurd (other (leb-true 2 used h) (eqb-true byte hash e))
    by true e false h = refl
    by false e two h = refl

-- … and each of these does
pub hash_opens : (used : ℕ) → 2 ≤ used → comments false used hash ≡ true
unfolding comments
hash_opens used two = le-leb 2 used two

module _ (used byte : ℕ) (later : List ℕ) where
  -- outside of comments: a byte that opens none is seen, and behind one that does, one stands inside
  pub shown_first : comments false used byte ≡ false
      → visible false used (byte ∷ later) ≡ record { byte = byte; upto = suc used } ∷ visible false (suc used) later
  unfolding visible
  shown_first none = rw none

  pub opened_first : comments false used byte ≡ true → visible false used (byte ∷ later) ≡ visible true (suc used) later
  unfolding visible
  opened_first opens = rw opens

  -- inside of one no byte is seen, and one stands outside behind a line end
  pub hidden_first : line_end byte ≡ false → visible true used (byte ∷ later) ≡ visible true (suc used) later
  unfolding visible comments
  hidden_first inside = rw inside

  pub ended_first : line_end byte ≡ true → visible true used (byte ∷ later) ≡ visible false (suc used) later
  unfolding visible comments
  ended_first last = rw last
