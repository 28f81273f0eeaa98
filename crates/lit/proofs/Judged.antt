-- The faults of a row of frames, and those that a call has beside them: what is known where none holds, and that none holds where all is in range.
-- Assumes nothing.
use Prim.Native.Nat.{ℕ, ◌*◌, ◌<◌, ◌≤◌}
use native.Mathlib.Omega.{arith}
use mathlib.Core.Bool.{Bool, false}
use mathlib.Core.List.{List, [], ◌∷◌, ◌++◌}
use mathlib.Core.Path.{◌≡◌}
use borrow.Author.Tests.{ltb-false, eqb-false, le-ltb, ne_eqb}
use lib.Dec.{ltb, eqb}
use Rattle.refusals.specs.Numbers.{bad_lit_call}
use Rattle.refusals.specs.First.{Fault, first_of, ◌gives◌}
use Rattle.refusals.proofs.Laws.{first_both, first_passed, first_goes_on}
use Rattle.refusals.proofs.Calls.{none_refuses}
use Rattle.lit.specs.Limits.{most_frames}
use Rattle.lit.specs.Held.{Held}
use Rattle.lit.specs.Calls.{row_faults, beyond_fault, no_such_one}

-- a fault of this room that stands first in a list which gives no number: it does not hold, and the rest gives none (the law takes the number less 1)
pub passes : (holds : Bool) (later : List Fault) → first_of ((holds gives bad_lit_call) ∷ later) ≡ 0 → (holds ≡ false) × (first_of later ≡ 0)
passes holds later e = first_passed holds 21 later e

-- the same of one alone
alone : (holds : Bool) → first_of ((holds gives bad_lit_call) ∷ []) ≡ 0 → holds ≡ false
alone holds e = (passes holds [] e).0

module _ (bytes count : ℕ) where
  -- where no fault holds the row is good, and none of the later ones holds
  pub held : (later : List Fault) → first_of (row_faults bytes count ++ later) ≡ 0 → Held bytes count × (first_of later ≡ 0)
  held later e =
      let both = first_both (row_faults bytes count) later e in
      let rest = passes (ltb most_frames count) ((ltb (bytes * 8) count gives bad_lit_call) ∷ []) both.0 in
      (record { few = ltb-false most_frames count rest.0; there = ltb-false (bytes * 8) count (alone (ltb (bytes * 8) count) rest.1) }, both.1)

  -- and where it is good the later ones decide
  pub row_passes : Held bytes count → (later : List Fault) → first_of (row_faults bytes count ++ later) ≡ first_of later
  row_passes h later =
      first_goes_on (row_faults bytes count) later
      (none_refuses (row_faults bytes count) (le-ltb most_frames count h.few, (le-ltb (bytes * 8) count h.there, tt)))

-- i frames are there
pub within : (count i : ℕ) → first_of (beyond_fault count i ∷ []) ≡ 0 → i ≤ count
within count i e = ltb-false count i (alone (ltb count i) e)

pub within_passes : (count i : ℕ) → i ≤ count → first_of (beyond_fault count i ∷ []) ≡ 0
within_passes count i h = none_refuses (beyond_fault count i ∷ []) (le-ltb count i h, tt)

-- k is not 0
pub not_0 : (k : ℕ) → first_of ((eqb k 0 gives bad_lit_call) ∷ []) ≡ 0 → 0 < k
not_0 k e = let some = eqb-false k 0 (alone (eqb k 0) e) in omega (arith, some)

-- and there is a k-th one
pub such_one : (ones k : ℕ) → first_of (no_such_one ones k) ≡ 0 → (0 < k) × (k ≤ ones)
such_one ones k e =
    let both = first_both ((eqb k 0 gives bad_lit_call) ∷ []) ((ltb ones k gives bad_lit_call) ∷ []) e in
    (not_0 k both.0, ltb-false ones k (alone (ltb ones k) both.1))

pub such_one_passes : (ones k : ℕ) → 0 < k → k ≤ ones → first_of (no_such_one ones k) ≡ 0
such_one_passes ones k some there = none_refuses (no_such_one ones k) (ne_eqb k 0 (λ none. omega arith), (le-ltb ones k there, tt))
