-- The prefix law, for every kind of image: an answer other than 14 does not change however the slice goes on.
-- Assumes nothing.
use Prim.Native.Nat.{ℕ, ◌+◌, ◌-◌, ◌≤◌, ◌<◌}
use mathlib.Core.Bool.{Bool, true, false}
use mathlib.Core.List.{List, ◌++◌}
use mathlib.Core.Path.{◌≡◌, refl, sym, ap, ◌∙◌}
use native.Mathlib.Omega.{arith}
use borrow.Author.Tests.{leb-true, leb-false}
use lib.Dec.{leb}
use lib.ListN.{length, take, drop, length-append, length-drop}
use lib.Seq.{take_all, take-append-le, drop-append-le, take-append-add}
use Rattle.refusals.specs.Numbers.{ends_too_early}
use Rattle.image.specs.Seen.{limit, Seen, visible, ahead, end_of}
use Rattle.image.specs.Step.{Step, stopped, found}
use Rattle.image.specs.Fields.{header_fields}
use Rattle.image.specs.Pixels.{at_some}
use Rattle.image.specs.Kinds.{Kind, pgm}
use Rattle.image.specs.Reading.{Reading, used_with, raster_at, with_raster, header_of, reading_of, named, numbers_of}
use Rattle.image.proofs.NextSeen.{end_over, end_short}
use Rattle.image.proofs.HeaderExact.{on_rest, header_longer}
use Rattle.image.proofs.VisibleBytes.{inside_after, visible_append}
use Rattle.image.proofs.RasterFaults.{some_faulty, raster_over, raster_faulty, raster_taken, raster_cases}
use Rattle.image.proofs.ReadingCases.{reading_stopped, reading_found}

-- THE HEADER of a longer slice is the same but for what is seen behind it
record Longer (kind : Kind) (s more : List ℕ) : Type 0 where
  change : List Seen → List Seen
  same : header_of kind (s ++ more) ≡ on_rest change (header_of kind s)

-- the slice has the limit's bytes: nothing more is seen
header_full : (kind : Kind) (s more : List ℕ) → limit ≤ length s → Longer kind s more
unfolding header_of ahead
header_full kind s more full =
    let fuller : limit ≤ length (s ++ more) = rw (length-append s more) (omega arith) in
    let same_end : end_of (s ++ more) ≡ end_of s = end_over (s ++ more) fuller ∙ sym (end_over s full) in
    let same_front : take limit (s ++ more) ≡ take limit s = take-append-le limit s more full in
    record {
      change = λ rest. rest;
      same = (λ i. header_fields (same_end i) kind.sign kind.tests (visible false 0 (same_front i))) ∙ stays (header_of kind s);
    }
  where
    stays : (step : Step (List ℕ)) → step ≡ on_rest (λ rest. rest) step
    stays (stopped refusal) = refl
    stays (found value used rest) = refl

-- it has fewer: what is seen of it is seen first
header_more : (kind : Kind) (s more : List ℕ) → length s < limit → (header_of kind s ≡ stopped ends_too_early → ⊥) → Longer kind s more
unfolding header_of ahead
header_more kind s more short goes =
    let room : limit ≡ length s + (limit - length s) = omega arith in
    let later = visible (inside_after false 0 s) (0 + length s) (take (limit - length s) more) in
    let front : take limit s ≡ s = take_all limit s (omega arith) in
    let header : header_of kind s ≡ header_fields ends_too_early kind.sign kind.tests (visible false 0 s) =
    (λ i. header_fields (end_short s short i) kind.sign kind.tests (visible false 0 (front i))) in
    let seen : visible false 0 (take limit (s ++ more)) ≡ visible false 0 s ++ later =
    ap (visible false 0) (ap (λ (k : ℕ). take k (s ++ more)) room ∙ take-append-add s more (limit - length s))
    ∙ visible_append false 0 s (take (limit - length s) more) in
    record {
      change = λ rest. rest ++ later;
      same =
          ap (header_fields (end_of (s ++ more)) kind.sign kind.tests) seen
          ∙ header_longer (end_of (s ++ more)) kind.sign kind.tests (visible false 0 s) later (λ e. goes (header ∙ e))
          ∙ ap (on_rest (λ rest. rest ++ later)) (sym header);
    }

header_longer_slice : (kind : Kind) (s more : List ℕ) → (header_of kind s ≡ stopped ends_too_early → ⊥) → Longer kind s more
header_longer_slice kind s more goes = by (leb limit (length s)) refl
  where
    by : (b : Bool) → leb limit (length s) ≡ b → Longer kind s more
    by true e = header_full kind s more (leb-true limit (length s) e)
    by false e = header_more kind s more (leb-false limit (length s) e) goes

-- THE RASTER of a longer slice, where the shorter one is not too short
raster_longer : (kind : Kind) (s more numbers : List ℕ) (start : ℕ) → ((with_raster kind s numbers start).refusal ≡ ends_too_early → ⊥)
    → with_raster kind (s ++ more) numbers start ≡ with_raster kind s numbers start
raster_longer kind s more numbers start =
    raster_cases kind s numbers start (λ r. (r.refusal ≡ ends_too_early → ⊥) → with_raster kind (s ++ more) numbers start ≡ r)
    (λ over goes. raster_over kind (s ++ more) numbers start over)
    (λ within short goes. absurd (goes refl))
    (λ within there e goes. raster_faulty kind (s ++ more) numbers start within (still there) (same_test there ∙ e))
    (λ within there e goes. raster_taken kind (s ++ more) numbers start within (still there) (same_test there ∙ e))
  where
    still : used_with kind numbers start ≤ length s → used_with kind numbers start ≤ length (s ++ more)
    still there = rw (length-append s more) (omega arith)

    same_raster : used_with kind numbers start ≤ length s → raster_at kind (s ++ more) numbers start ≡ raster_at kind s numbers start
    same_raster there =
        let fits : kind.size numbers ≤ length (drop start s) = rw (length-drop start s) (omega arith) in
        ap (take (kind.size numbers)) (drop-append-le start s more (omega arith)) ∙ take-append-le (kind.size numbers) (drop start s) more fits

    same_test : used_with kind numbers start ≤ length s → some_faulty kind (s ++ more) numbers start ≡ some_faulty kind s numbers start
    same_test there = ap (λ (l : List ℕ). at_some (kind.faulty numbers l) (kind.positions numbers)) (same_raster there)

-- THE LAW
pub prefix_law_of : (kind : Kind) (s more : List ℕ) → ((reading_of kind s).refusal ≡ ends_too_early → ⊥)
    → reading_of kind (s ++ more) ≡ reading_of kind s
prefix_law_of kind s more goes = by (header_of kind s) refl
  where
    refusal_in_lem : Reading → ℕ
    refusal_in_lem reading = reading.refusal

    longer : Longer kind s more
    longer = header_longer_slice kind s more (λ e. goes (ap refusal_in_lem (reading_stopped kind s e)))

    by : (step : Step (List ℕ)) → header_of kind s ≡ step → reading_of kind (s ++ more) ≡ reading_of kind s
    by (stopped refusal) e =
        reading_stopped kind (s ++ more) (longer.same ∙ ap (on_rest longer.change) e) ∙ sym (reading_stopped kind s e)
    by (found numbers start rest) e =
        let own = reading_found kind s e in
        reading_found kind (s ++ more) (longer.same ∙ ap (on_rest longer.change) e)
        ∙ raster_longer kind s more numbers start (λ f. goes (ap refusal_in_lem own ∙ f)) ∙ sym own

-- an accepted image stays accepted, with the same numbers
pub accepted_stays_of : (kind : Kind) (s more : List ℕ) → (reading_of kind s).refusal ≡ 0 → reading_of kind (s ++ more) ≡ reading_of kind s
accepted_stays_of kind s more e = prefix_law_of kind s more (λ f. omega arith)

-- the same of a PGM
pub prefix_law : (s more : List ℕ) → ((numbers_of s).refusal ≡ ends_too_early → ⊥) → numbers_of (s ++ more) ≡ numbers_of s
unfolding numbers_of
prefix_law s more goes = ap named (prefix_law_of pgm s more goes)

pub accepted_stays : (s more : List ℕ) → (numbers_of s).refusal ≡ 0 → numbers_of (s ++ more) ≡ numbers_of s
accepted_stays s more e = prefix_law s more (λ f. omega arith)
