-- The faults of a score: they are numbered, and what is known where none holds.
-- Assumes nothing.
use Prim.Native.Nat.{ℕ, zero, suc}
use mathlib.Core.Bool.{Bool, true, false, not, cond}
use mathlib.Core.List.{List, [], ◌∷◌, ◌++◌}
use mathlib.Core.Path.{◌≡◌, refl, sym, ap}
use native.Mathlib.Omega.{arith}
use lib.Dec.{eqb, lit<}
use borrow.Author.Tests.{eqb-true}
use Rattle.refusals.specs.First.{Fault, ◌gives◌, or_else, first_of}
use Rattle.refusals.specs.Demand1.{NoneHolds, Numbered}
use Rattle.refusals.proofs.Calls.{passed_on_numbered, passed_on_none, written_out}
use Rattle.image.specs.declared.told.Numbers.{Numbers}
use Rattle.score.specs.Calls.{side_faults, differ_faults, score_faults, Alike}
use Rattle.score.specs.Masked.{masked_faults, Fits}

-- a list with another behind it: its own refusal decides, and without one the other's
pub first_own : {n : ℕ} (own later : List Fault) → n ≡ first_of own → (n ≡ 0 → ⊥) → n ≡ first_of (own ++ later)
first_own [] later e some = absurd (some e)
first_own ((true gives zero) ∷ own) later e some = first_own own later e some
first_own ((true gives suc number) ∷ own) later e some = e
first_own ((false gives number) ∷ own) later e some = first_own own later e some

pub first_later : (own later : List Fault) → first_of own ≡ 0 → first_of (own ++ later) ≡ first_of later
first_later [] later e = refl
first_later ((true gives zero) ∷ own) later e = first_later own later e
first_later ((true gives suc number) ∷ own) later e = absurd (omega arith)
first_later ((false gives number) ∷ own) later e = first_later own later e

-- what stands behind a list matters by its refusal alone
pub first_behind : (own later other : List Fault) → first_of later ≡ first_of other → first_of (own ++ later) ≡ first_of (own ++ other)
first_behind [] later other e = e
first_behind ((holds gives number) ∷ own) later other e = ap (or_else (cond holds number 0)) (first_behind own later other e)

pub first_none : (own later : List Fault) → first_of later ≡ 0 → first_of (own ++ later) ≡ first_of own
first_none [] later e = e
first_none ((holds gives number) ∷ own) later e = ap (or_else (cond holds number 0)) (first_none own later e)

pub score_numbered : (bound : ℕ) (one two : Numbers) → Numbered (score_faults bound one two)
score_numbered bound one two =
    (λ e. lit< tt, (passed_on_numbered _, (passed_on_numbered _, written_out (differ_faults one two) tt)))

pub masked_numbered : (bound : ℕ) (one two mask : Numbers) → Numbered (masked_faults bound one two mask)
masked_numbered bound one two mask =
    (λ e. lit< tt, (passed_on_numbered _, (passed_on_numbered _, (passed_on_numbered _, written_out (differ_faults one two ++ side_faults one mask) tt))))

-- a test for a difference that does not hold
same : (x y : ℕ) → not (eqb x y) ≡ false → x ≡ y
same x y e = eqb-true x y (not_unlike (eqb x y) e)
  where
    not_unlike : (b : Bool) → not b ≡ false → b ≡ true
    not_unlike true e = refl
    not_unlike false e = sym e

-- where no fault holds, the images may be compared …
pub none_alike : (bound : ℕ) (one two : Numbers) → NoneHolds (score_faults bound one two) → Alike one two
none_alike bound one two none =
    let differ = none.1.1.1 in
    record {
      one_taken = passed_on_none one.refusal none.1.0;
      two_taken = passed_on_none two.refusal none.1.1.0;
      width = same one.width two.width differ.0;
      height = same one.height two.height differ.1.0;
      maxval = same one.maxval two.maxval differ.1.1.0;
    }

-- … and under a mask, which then fits
pub none_fits : (bound : ℕ) (one two mask : Numbers) → NoneHolds (masked_faults bound one two mask) → Alike one two × Fits one mask
none_fits bound one two mask none =
    let behind = none.1.1.1 in
    let differ = behind.1 in
    let sides = differ.1.1.1 in (
      none_alike bound one two (none.0, (none.1.0, (none.1.1.0, (differ.0, (differ.1.0, (differ.1.1.0, tt)))))),
      record {
        taken = passed_on_none mask.refusal behind.0;
        width = same one.width mask.width sides.0;
        height = same one.height mask.height sides.1.0;
      },
    )
