-- A number's range, and that a number above every range may stand for any other such number.
-- Assumes nothing.
use Prim.Native.Nat.{ℕ, ◌+◌, ◌*◌, ◌-◌, ◌≤◌, ◌<◌, min}
use mathlib.Core.Bool.{Bool, true, false, ◌&&◌}
use mathlib.Core.List.{List, [], ◌∷◌}
use mathlib.Core.Path.{◌≡◌, refl, ap}
use native.Mathlib.Omega.{arith}
use borrow.Author.Tests.{lt-leb, leb-true, leb-false}
use lib.Dec.{leb}
use Rattle.decimals.specs.Decimal.{zero_byte, with_digit}
use Rattle.decimals.proofs.WritesAndReads.{between}
use Rattle.image.specs.Tests.{up_to}
use Rattle.image.specs.Seen.{Seen}
use Rattle.image.specs.Told.{above_ranges}
use Rattle.image.specs.Fields.{judged, more_digits}

-- a number that passes its test is in its range …
pub up_to_range : (top value : ℕ) → up_to top value ≡ true → (1 ≤ value) × (value ≤ top)
unfolding up_to
up_to_range top value e = between 1 top value e

-- … and one above it does not
pub up_to_above : (top value : ℕ) → top < value → up_to top value ≡ false
unfolding up_to
up_to_above top value h = rw (lt-leb value top h) (by (leb 1 value))
  where
    by : (b : Bool) → (b && false) ≡ false
    by true = refl
    by false = refl

-- a number above every range may stand for any other such number
judged_same : (top u v used : ℕ) (rest : List Seen) → top < above_ranges → min above_ranges u ≡ min above_ranges v
    → judged (up_to top) u used rest ≡ judged (up_to top) v used rest
unfolding judged
judged_same top u v used rest t e = by (leb above_ranges u) refl
  where
    by : (b : Bool) → leb above_ranges u ≡ b → judged (up_to top) u used rest ≡ judged (up_to top) v used rest
    by true h =
        let hu : above_ranges ≤ u = leb-true above_ranges u h in
        rw (up_to_above top u (omega arith), up_to_above top v (omega arith))
    by false h =
        let hu : u < above_ranges = leb-false above_ranges u h in
        let same : u ≡ v = omega arith in
        ap (λ (n : ℕ). judged (up_to top) n used rest) same

pub digits_same : (end top u v : ℕ) (l : List Seen) → top < above_ranges → min above_ranges u ≡ min above_ranges v
    → more_digits end (up_to top) u l ≡ more_digits end (up_to top) v l
unfolding more_digits
digits_same end top u v [] t e = refl
digits_same end top u v (seen ∷ rest) t e =
    rw (
      judged_same top u v seen.upto rest t e,
      digits_same end top (with_digit u seen.byte) (with_digit v seen.byte) rest t (grow (seen.byte - zero_byte)),
    )
  where
    grow : (d : ℕ) → min above_ranges (10 * u + d) ≡ min above_ranges (10 * v + d)
    grow d = omega arith

pub saturates : (end top v : ℕ) (l : List Seen) → top < above_ranges → more_digits end (up_to top) (min above_ranges v) l ≡ more_digits end (up_to top) v l
saturates end top v l t = digits_same end top (min above_ranges v) v l t (omega arith)
