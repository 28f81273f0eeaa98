-- What a reader sees ahead, by the byte that stands there: that byte, or what comes behind a comment, or nothing; and the refusal for a
-- byte that is not there.
-- Assumes nothing.
use Prim.Native.Nat.{ℕ, suc, ◌+◌, ◌≤◌, ◌<◌, min}
use mathlib.Core.Bool.{Bool, true, false, cond}
use mathlib.Core.List.{List, [], ◌∷◌}
use mathlib.Core.Path.{◌≡◌, ap, ◌∙◌}
use native.Mathlib.Omega.{arith}
use native.Mathlib.Numerals.{add-one}
use borrow.Author.Tests.{le-leb, lt-leb}
use lib.Dec.{leb}
use lib.ListN.{length, take, drop, get_or, length-take, drop_of_length-le}
use lib.Seq.{drop-cons, get_or-take}
use Rattle.refusals.specs.Numbers.{image_too_large, ends_too_early}
use Rattle.image.specs.Bytes.{line_end}
use Rattle.image.specs.Seen.{limit, comments, visible, ahead, end_of}
use Rattle.image.specs.Told.{ahead_in_comment}
use Rattle.image.proofs.FirstByteSeen.{shown_first, opened_first, hidden_first, ended_first}

-- the byte that stands there
module _ (s : List ℕ) (used : ℕ) (here : used < min limit (length s)) where
  from_here : drop used (take limit s) ≡ get_or s used 0 ∷ drop (suc used) (take limit s)
  from_here =
      let within : used < length (take limit s) = rw (length-take limit s) (omega arith) in
      drop-cons (take limit s) used 0 within ∙ ap (λ (byte : ℕ). byte ∷ drop (suc used) (take limit s)) (get_or-take limit s used 0 (omega arith))

  abbrev later : List ℕ
  later = drop (suc used) (take limit s)

  -- it is seen where it opens no comment
  pub ahead_next : comments false used (get_or s used 0) ≡ false
      → ahead s used ≡ record { byte = get_or s used 0; upto = used + 1 } ∷ ahead s (used + 1)
  unfolding ahead
  ahead_next none = rw add-one (ap (visible false used) from_here ∙ shown_first used (get_or s used 0) later none)

  -- where it opens one, what is seen comes behind that
  pub ahead_opens : comments false used (get_or s used 0) ≡ true → ahead s used ≡ ahead_in_comment s (used + 1)
  unfolding ahead ahead_in_comment
  ahead_opens opens = rw add-one (ap (visible false used) from_here ∙ opened_first used (get_or s used 0) later opens)

  -- inside of a comment it is passed over, and with a line end the comment is over
  pub comment_goes_on : line_end (get_or s used 0) ≡ false → ahead_in_comment s used ≡ ahead_in_comment s (used + 1)
  unfolding ahead_in_comment
  comment_goes_on inside = rw add-one (ap (visible true used) from_here ∙ hidden_first used (get_or s used 0) later inside)

  pub comment_ends : line_end (get_or s used 0) ≡ true → ahead_in_comment s used ≡ ahead s (used + 1)
  unfolding ahead ahead_in_comment
  comment_ends last = rw add-one (ap (visible true used) from_here ∙ ended_first used (get_or s used 0) later last)

-- none: the slice or the limit ends here
pub ahead_none : (s : List ℕ) (used : ℕ) → min limit (length s) ≤ used → ahead s used ≡ []
unfolding ahead visible
ahead_none s used over =
    let past : length (take limit s) ≤ used = rw (length-take limit s) over in
    rw (drop_of_length-le (take limit s) past)

pub comment_none : (s : List ℕ) (used : ℕ) → min limit (length s) ≤ used → ahead_in_comment s used ≡ []
unfolding ahead_in_comment visible
comment_none s used over =
    let past : length (take limit s) ≤ used = rw (length-take limit s) over in
    rw (drop_of_length-le (take limit s) past)

-- which refusal a missing byte gives
pub end_over : (s : List ℕ) → limit ≤ length s → end_of s ≡ image_too_large
unfolding end_of
end_over s h = rw (le-leb limit (length s) h)

pub end_short : (s : List ℕ) → length s < limit → end_of s ≡ ends_too_early
unfolding end_of
end_short s h = rw (lt-leb limit (length s) h)

-- a refusal for a missing byte is a refusal
pub end_refuses : (s : List ℕ) → end_of s ≡ 0 → ⊥
unfolding end_of
end_refuses s = by (leb limit (length s))
  where
    by : (b : Bool) → ◌≡◌ {A = ℕ} (cond b image_too_large ends_too_early) 0 → ⊥
    by true e = omega arith
    by false e = omega arith
