-- Laws of the first fault: a list judged in two parts, what is known where none holds, and what a refusal leaves.
-- Assumes nothing.
use Prim.Native.Nat.{ℕ, zero, suc, ◌≤◌}
use native.Mathlib.Omega.{arith}
use mathlib.Core.Bool.{Bool, true, false, not, cond, ◌&&◌, ◌||◌}
use mathlib.Core.List.{List, [], ◌∷◌, ◌++◌}
use mathlib.Core.Path.{◌≡◌, refl, sym, ap, ◌∙◌}
use borrow.Author.Tests.{le-ltb, ltb-false, eqb-false, eqb-true}
use lib.Dec.{T, ltb, eqb}
use Rattle.refusals.specs.First.{Fault, ◌gives◌, or_else, first_of, unless_refused, outside}

or_else_assoc : (a b c : ℕ) → or_else (or_else a b) c ≡ or_else a (or_else b c)
or_else_assoc zero b c = refl
or_else_assoc (suc a) b c = refl

-- a list may be judged in two parts, the earlier part first
pub first_append : (earlier later : List Fault) → first_of (earlier ++ later) ≡ or_else (first_of earlier) (first_of later)
first_append [] later = refl
first_append ((holds gives number) ∷ earlier) later =
    rw (first_append earlier later, or_else_assoc (cond holds number 0) (first_of earlier) (first_of later))

-- a refusal stands before the other one
pub or_else_stops : (n m : ℕ) → (n ≡ 0 → ⊥) → n ≡ or_else n m
or_else_stops zero m ne = absurd (ne refl)
or_else_stops (suc n) m ne = refl

-- where the earlier part gives a number, that is the number
pub first_stops : (earlier later : List Fault) (n : ℕ) → n ≡ first_of earlier → (n ≡ 0 → ⊥) → n ≡ first_of (earlier ++ later)
first_stops earlier later n e ne =
    or_else_stops n (first_of later) ne ∙ ap (λ (k : ℕ). or_else k (first_of later)) e ∙ sym (first_append earlier later)

-- where it gives none, the later part decides
pub first_goes_on : (earlier later : List Fault) → first_of earlier ≡ 0 → first_of (earlier ++ later) ≡ first_of later
first_goes_on earlier later e = first_append earlier later ∙ ap (λ (k : ℕ). or_else k (first_of later)) e

-- a fault that holds gives its number, alone in a list
pub first_alone : (number : ℕ) → first_of ((true gives number) ∷ []) ≡ number
first_alone zero = refl
first_alone (suc number) = refl

-- where a list gives no number, its first fault does not hold and the rest gives none
pub first_passed : (holds : Bool) (number : ℕ) (later : List Fault)
    → first_of ((holds gives suc number) ∷ later) ≡ 0 → (holds ≡ false) × (first_of later ≡ 0)
first_passed true number later e = absurd (omega arith)
first_passed false number later e = (refl, e)

pub first_both : (earlier later : List Fault) → first_of (earlier ++ later) ≡ 0 → (first_of earlier ≡ 0) × (first_of later ≡ 0)
first_both earlier later e = by (first_of earlier) refl (sym (first_append earlier later) ∙ e)
  where
    by : (n : ℕ) → first_of earlier ≡ n → or_else (first_of earlier) (first_of later) ≡ 0 → (first_of earlier ≡ 0) × (first_of later ≡ 0)
    by zero en eo = (en, sym (ap (λ (k : ℕ). or_else k (first_of later)) en) ∙ eo)
    by (suc n) en eo = absurd (let z : suc n ≡ 0 = sym (ap (λ (k : ℕ). or_else k (first_of later)) en) ∙ eo in omega arith)

-- a number that is not outside a range lies in it
pub in_range : (low high x : ℕ) → outside low high x ≡ false → (low ≤ x) × (x ≤ high)
in_range low high x = by (ltb x low) (ltb high x) refl refl
  where
    by : (under over : Bool) → ltb x low ≡ under → ltb high x ≡ over → (under || over) ≡ false → (low ≤ x) × (x ≤ high)
    by true over eu eo e = absurd (let z : ◌≡◌ {A = ℕ} 0 1 = cc in omega arith)
    by false true eu eo e = absurd (let z : ◌≡◌ {A = ℕ} 0 1 = cc in omega arith)
    by false false eu eo e = (ltb-false x low eu, ltb-false high x eo)

pub not_outside : (low high x : ℕ) → low ≤ x → x ≤ high → outside low high x ≡ false
not_outside low high x l h = rw (le-ltb x low l, le-ltb high x h)

-- a refusal n, which is the number m of the definition, leaves what was there
pub refused_keeps : {A : Type 0} {n : ℕ} (m : ℕ) (new old : A) → n ≡ m → (n ≡ 0 → ⊥) → unless_refused m new old ≡ old
refused_keeps zero new old e ne = absurd (ne e)
refused_keeps (suc m) new old e ne = refl

-- and without one the new thing is there
pub taken_gives : {A : Type 0} {n : ℕ} (m : ℕ) (new old : A) → n ≡ m → n ≡ 0 → unless_refused m new old ≡ new
taken_gives {A} {n} m new old e e0 = rw (sym e ∙ e0)

-- no fault of the list has the number k: a test that computes, since the numbers are written out
abbrev pub avoids : ℕ → List Fault → Bool
avoids k [] = true
avoids k ((holds gives number) ∷ later) = not (eqb number k) && avoids k later

-- then the refusal is not k
pub first_avoids : (k : ℕ) (faults : List Fault) → T (avoids (suc k) faults) → first_of faults ≡ suc k → ⊥
first_avoids k [] t e = omega arith
first_avoids k ((holds gives number) ∷ later) t e = by holds number (eqb number (suc k)) refl t e (first_avoids k later)
  where
    by : (h : Bool) (n : ℕ) (b : Bool) → eqb n (suc k) ≡ b → T (not b && avoids (suc k) later)
        → first_of ((h gives n) ∷ later) ≡ suc k → (T (avoids (suc k) later) → first_of later ≡ suc k → ⊥) → ⊥
    by h n true q s r rest = s
    by false n false q s r rest = rest s r
    by true zero false q s r rest = rest s r
    by true (suc n) false q s r rest = eqb-false (suc n) (suc k) q r

-- every fault of the list has the number k: a test that computes too
abbrev pub only : ℕ → List Fault → Bool
only k [] = true
only k ((holds gives number) ∷ later) = eqb number k && only k later

-- then the refusal is k, if there is one
pub first_only : (k : ℕ) (faults : List Fault) → T (only k faults) → (first_of faults ≡ 0 → ⊥) → first_of faults ≡ k
first_only k [] t some = absurd (some refl)
first_only k ((holds gives number) ∷ later) t some = by holds number (eqb number k) refl t some (first_only k later)
  where
    by : (h : Bool) (n : ℕ) (b : Bool) → eqb n k ≡ b → T (b && only k later) → (first_of ((h gives n) ∷ later) ≡ 0 → ⊥)
        → (T (only k later) → (first_of later ≡ 0 → ⊥) → first_of later ≡ k) → first_of ((h gives n) ∷ later) ≡ k
    by h n false q s r rest = absurd s
    by false n true q s r rest = rest s r
    by true zero true q s r rest = rest s r
    by true (suc n) true q s r rest = eqb-true (suc n) k q
