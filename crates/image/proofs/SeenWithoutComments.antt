-- The header bytes of any slice of two bytes or more, said with `Without`: its first two bytes, and what is left behind them without comments. So every header
-- fault that specs/FirstFault.antt says of the bytes that are seen is one of the bytes without comments.
-- Assumes nothing.
use Prim.Native.Nat.{ℕ}
use mathlib.Core.Bool.{false}
use mathlib.Core.List.{List, ◌∷◌}
use mathlib.Core.Path.{◌≡◌, ap, ◌∙◌}
use native.Mathlib.Omega.{arith}
use lib.ListN.{take}
use Rattle.image.specs.Seen.{limit, visible, bytes_of}
use Rattle.image.specs.FirstFault.{seen_in}
use Rattle.image.specs.Promised.{CommentParts, SeenParts}
use Rattle.image.proofs.CommentsHidden.{first_two_seen}
use Rattle.image.proofs.CommentsParted.{comment_parts, parts_seen}

module _ (s : List ℕ) (first second : ℕ) (behind : List ℕ) (there : take limit s ≡ first ∷ second ∷ behind) where
  -- however the bytes behind the first two are parted
  pub slice_seen : (p : CommentParts behind) → seen_in s ≡ first ∷ second ∷ p.left
  slice_seen p =
      ap (λ (l : List ℕ). bytes_of (visible false 0 l)) there
      ∙ ap bytes_of (first_two_seen first second behind)
      ∙ ap (λ (l : List ℕ). first ∷ second ∷ l) (parts_seen 2 behind (omega arith) p)

  pub seen_parts : SeenParts s first second behind
  seen_parts = record { parts = comment_parts behind; seen = slice_seen (comment_parts behind) }
