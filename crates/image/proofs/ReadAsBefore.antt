-- A slice with no `#` behind the sign, among the bytes up to the delimiter or the first fault, is read as if there were no comments.
-- Assumes nothing.
use Prim.Native.Nat.{ℕ, ◌+◌, ◌≤◌, ◌<◌, min}
use mathlib.Core.Bool.{Bool, true, false}
use mathlib.Core.List.{List, ◌++◌}
use mathlib.Core.Logic.{◌⊎◌, inl, inr}
use mathlib.Core.Path.{◌≡◌, refl, sym, ap, ◌∙◌}
use native.Mathlib.Omega.{arith}
use borrow.Author.Tests.{leb-true, leb-false}
use lib.Dec.{leb}
use lib.ListN.{length, take, drop, take-append-drop, length-take}
use lib.Seq.{take_all, take-take}
use Rattle.refusals.specs.Numbers.{ends_too_early}
use Rattle.image.specs.Seen.{limit, Seen, visible, ahead, end_of}
use Rattle.image.specs.Step.{Step, stopped, found, and_then}
use Rattle.image.specs.Fields.{header_fields}
use Rattle.image.specs.Kinds.{Kind, pgm}
use Rattle.image.specs.Reading.{Reading, refused_reading, with_raster, header_of, reading_of, named, numbers_of}
use Rattle.image.specs.Before.{every_byte, header_before, reading_before, PlainUpTo}
use Rattle.image.proofs.NextSeen.{end_short}
use Rattle.image.proofs.PlainBytes.{NoComment, plain_visible, plain_behind_sign, no_comment_take, every_byte_append}
use Rattle.image.proofs.VisibleBytes.{inside_after, visible_append}
use Rattle.image.proofs.HeaderExact.{on_rest, header_longer}

-- where no more may be taken than the first bytes, they are all there are
all_of_them : (s : List ℕ) (taken : ℕ) → min limit (length s) ≤ taken → take limit (take taken s) ≡ take limit s
all_of_them s taken over = by (leb limit taken) refl
  where
    by : (b : Bool) → leb limit taken ≡ b → take limit (take taken s) ≡ take limit s
    by true e = take-take limit taken s (leb-true limit taken e)
    by false e =
        let few : taken < limit = leb-false limit taken e in
        ap (take limit) (take_all taken s (omega arith))

module _ (kind : Kind) (s : List ℕ) where
  -- what a reading makes of a header: the bytes that are seen behind it count for nothing
  abbrev reading_by : Step (List ℕ) → Reading
  reading_by step = and_then refused_reading step λ numbers start rest. with_raster kind s numbers start

  rest_unread : (change : List Seen → List Seen) (step : Step (List ℕ)) → reading_by (on_rest change step) ≡ reading_by step
  rest_unread change (stopped refusal) = refl
  rest_unread change (found numbers start rest) = refl

  module _ (taken : ℕ) (plain : NoComment 0 (take taken s)) where
    -- NO MORE MAY BE TAKEN: both readers see the same
    header_as_before : min limit (length s) ≤ taken → header_of kind s ≡ header_before kind s
    unfolding header_of ahead header_before
    header_as_before over =
        let none : NoComment 0 (take limit s) = rw (← all_of_them s taken over) (no_comment_take limit 0 (take taken s) plain) in
        ap (header_fields (end_of s) kind.sign kind.tests) (plain_visible 0 (take limit s) none)

    all_as_before : min limit (length s) ≤ taken → reading_of kind s ≡ reading_before kind s
    unfolding reading_of reading_before
    all_as_before over = ap reading_by (header_as_before over)

    -- ELSE both see these bytes first, and the header comes to its end, or to a fault, with them
    module _ (few : taken < min limit (length s)) (goes : header_before kind (take taken s) ≡ stopped ends_too_early → ⊥) where
      abbrev front : List Seen
      front = every_byte 0 (take taken s)

      abbrev behind : List ℕ
      behind = drop taken (take limit s)

      split : take limit s ≡ take taken s ++ behind
      split =
          sym (take-append-drop taken (take limit s))
          ∙ ap (λ (first : List ℕ). first ++ behind) (take-take taken limit s (omega arith))

      alone : header_before kind (take taken s) ≡ header_fields ends_too_early kind.sign kind.tests front
      unfolding header_before
      alone =
          let short : length (take taken s) < limit = rw (length-take taken s) (omega arith) in
          let whole : take limit (take taken s) ≡ take taken s = take_all limit (take taken s) (omega arith) in
          λ i. header_fields (end_short (take taken s) short i) kind.sign kind.tests (every_byte 0 (whole i))

      -- whatever is seen behind them
      with_more_lem : (seen later : List Seen) → seen ≡ front ++ later
          → reading_by (header_fields (end_of s) kind.sign kind.tests seen)
          ≡ reading_by (header_fields ends_too_early kind.sign kind.tests front)
      with_more_lem seen later e =
          ap reading_by
          (ap (header_fields (end_of s) kind.sign kind.tests) e
          ∙ header_longer (end_of s) kind.sign kind.tests front later (λ waits. goes (alone ∙ waits)))
          ∙ rest_unread (λ rest. rest ++ later) (header_fields ends_too_early kind.sign kind.tests front)

      decided_as_before : reading_of kind s ≡ reading_before kind s
      unfolding reading_of header_of ahead reading_before header_before
      decided_as_before =
          let used = 0 + length (take taken s) in
          let later = visible (inside_after false 0 (take taken s)) used behind in
          with_more_lem (visible false 0 (take limit s)) later
          (ap (visible false 0) split ∙ visible_append false 0 (take taken s) behind
          ∙ ap (λ (first : List Seen). first ++ later) (plain_visible 0 (take taken s) plain))
          ∙ sym (with_more_lem (every_byte 0 (take limit s)) (every_byte used behind)
          (ap (every_byte 0) split ∙ every_byte_append 0 (take taken s) behind))

-- THE LAW
pub read_as_before : (kind : Kind) (s : List ℕ) (taken : ℕ) → PlainUpTo kind s taken → reading_of kind s ≡ reading_before kind s
read_as_before kind s taken p = by p.stops (leb (min limit (length s)) taken) refl
  where
    plain : NoComment 0 (take taken s)
    plain = plain_behind_sign (take taken s) p.no_hash

    by : (header_before kind (take taken s) ≡ stopped ends_too_early → ⊥) ⊎ (min limit (length s) ≤ taken)
        → (b : Bool) → leb (min limit (length s)) taken ≡ b → reading_of kind s ≡ reading_before kind s
    by stops true e = all_as_before kind s taken plain (leb-true (min limit (length s)) taken e)
    by (inr over) false e = all_as_before kind s taken plain over
    by (inl goes) false e = decided_as_before kind s taken plain (leb-false (min limit (length s)) taken e) goes

-- the same of a PGM
pub numbers_as_before : (s : List ℕ) (taken : ℕ) → PlainUpTo pgm s taken → numbers_of s ≡ named (reading_before pgm s)
unfolding numbers_of
numbers_as_before s taken p = ap named (read_as_before pgm s taken p)
