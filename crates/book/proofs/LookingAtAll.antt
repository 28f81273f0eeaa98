-- The look at all counts of a run: none is above L, in parts and for a larger L, and the place of the first one that is (promise C-11.2).
-- Assumes nothing.
use Rattle.std.proofs.Common.{◌≡◌, ℕ, zero, suc, ◌+◌, ◌-◌, ◌<◌, ◌≤◌, Bool, true, false, cond, ◌||◌, ltb, nat_lt, Some, List, [], ◌∷◌, ◌++◌, get_or, take, drop, replicate, sym, refl, ap, ◌∙◌, true≢false, add-one, arith, take-append-drop, ltb-false, ltb-true, le-ltb, lt-ltb}
use mathlib.Core.Bool.{false≢true}
use Rattle.std.specs.List.{position, position_from}
use Rattle.std.specs.Option.{option_map}
use Rattle.std.proofs.lemmas.Iterator.Adapters.{position_from-zero}
use Rattle.book.specs.OrNone.{unless_0}
use Rattle.book.specs.RunOfCounts.{any_above, place_from, place_above, FirstAbove}

-- NONE ABOVE L: of the first count and of the later ones
module _ (bound count : ℕ) (later : List ℕ) where
  pub above_cons : any_above bound (count ∷ later) ≡ false → (count ≤ bound) × (any_above bound later ≡ false)
  unfolding any_above
  above_cons = by (ltb bound count) refl
    where
      by : (b : Bool) → ltb bound count ≡ b → (b || any_above bound later) ≡ false → (count ≤ bound) × (any_above bound later ≡ false)
      by true e h = absurd (true≢false h)
      by false e h = (ltb-false bound count e, h)

  pub above_join : count ≤ bound → any_above bound later ≡ false → any_above bound (count ∷ later) ≡ false
  unfolding any_above
  above_join fits none = rw (le-ltb bound count fits) none

-- of the empty run
pub above_empty : (bound : ℕ) → any_above bound [] ≡ false
unfolding any_above
above_empty bound = refl

-- for a larger L
pub above_mono : (bound top : ℕ) (counts : List ℕ) → bound ≤ top → any_above bound counts ≡ false → any_above top counts ≡ false
above_mono bound top [] le h = above_empty top
above_mono bound top (count ∷ later) le h =
    let k = above_cons bound count later h in
    above_join top count later (omega (arith, k.0)) (above_mono bound top later le k.1)

-- of both parts
pub above_parts : (bound : ℕ) (one two : List ℕ) → any_above bound (one ++ two) ≡ false → (any_above bound one ≡ false) × (any_above bound two ≡ false)
above_parts bound [] two h = (above_empty bound, h)
above_parts bound (count ∷ later) two h =
    let k = above_cons bound count (later ++ two) h in
    let parts = above_parts bound later two k.1 in
    (above_join bound count later k.0 parts.0, parts.1)

-- and the other way; and of one item that is repeated
pub above_append : (bound : ℕ) (one two : List ℕ) → any_above bound one ≡ false → any_above bound two ≡ false → any_above bound (one ++ two) ≡ false
above_append bound [] two h k = k
above_append bound (count ∷ later) two h k =
    let parts = above_cons bound count later h in
    above_join bound count (later ++ two) parts.0 (above_append bound later two parts.1 k)

pub above_replicate : (bound n item : ℕ) → item ≤ bound → any_above bound (replicate n item) ≡ false
above_replicate bound zero item h = above_empty bound
above_replicate bound (suc n) item h = above_join bound item (replicate n item) h (above_replicate bound n item h)

module _ (bound i : ℕ) (counts : List ℕ) (none : any_above bound counts ≡ false) where
  cut_there : (any_above bound (take i counts) ≡ false) × (any_above bound (drop i counts) ≡ false)
  cut_there = above_parts bound (take i counts) (drop i counts) (ap (any_above bound) (take-append-drop i counts) ∙ none)

  pub above_take : any_above bound (take i counts) ≡ false
  above_take = cut_there.0

  pub above_drop : any_above bound (drop i counts) ≡ false
  above_drop = cut_there.1

-- that is: no count is above L. Past the end `get_or` gives 0
pub none_above : (bound : ℕ) (counts : List ℕ) → any_above bound counts ≡ false → (k : ℕ) → get_or counts k 0 ≤ bound
none_above bound [] h k = omega arith
none_above bound (count ∷ later) h zero = (above_cons bound count later h).0
none_above bound (count ∷ later) h (suc k) = none_above bound later (above_cons bound count later h).1 k

-- … and the other way
pub all_below : (bound : ℕ) (counts : List ℕ) → ((k : ℕ) → get_or counts k 0 ≤ bound) → any_above bound counts ≡ false
all_below bound [] h = above_empty bound
all_below bound (count ∷ later) h = above_join bound count later (h 0) (all_below bound later (λ k. h (suc k)))

-- THE PLACE is 0 where none is above L
pub place_none : (here bound : ℕ) (counts : List ℕ) → any_above bound counts ≡ false → place_from here bound counts ≡ 0
unfolding place_from
place_none here bound [] h = refl
place_none here bound (count ∷ later) h =
    let k = above_cons bound count later h in
    rw (le-ltb bound count k.0) (place_none (suc here) bound later k.1)

-- one of them is: the first, or one of the later ones
above_split : {A : Type 0} (bound count : ℕ) (later : List ℕ) → any_above bound (count ∷ later) ≡ true → (bound < count → A)
    → (count ≤ bound → any_above bound later ≡ true → A) → A
unfolding any_above
above_split {A} bound count later some first rest = by (ltb bound count) refl some
  where
    by : (b : Bool) → ltb bound count ≡ b → (b || any_above bound later) ≡ true → A
    by true e h = first (ltb-true bound count e)
    by false e h = rest (ltb-false bound count e) h

-- counted from one place further on, it is one more
place_shift : (here bound : ℕ) (counts : List ℕ) → any_above bound counts ≡ true
    → place_from (suc here) bound counts ≡ suc (place_from here bound counts)
unfolding place_from
place_shift here bound [] h = absurd (false≢true (sym (above_empty bound) ∙ h))
place_shift here bound (count ∷ later) h =
    above_split bound count later h
    (λ large. (rw (lt-ltb bound count large)))
    (λ fits more. (rw (le-ltb bound count fits) (place_shift (suc here) bound later more)))

-- the first one above L is the first of all
first_here : (bound count : ℕ) (later : List ℕ) → bound < count → FirstAbove bound (count ∷ later) 1
first_here bound count later large =
    record { low = omega arith; high = omega arith; above = large; earlier = λ k low high. absurd (omega (arith, low, high)) }

-- or it is one place further on than among the later ones
first_later : (bound count : ℕ) (later : List ℕ) (place : ℕ) → count ≤ bound → FirstAbove bound later place
    → FirstAbove bound (count ∷ later) (suc place)
first_later bound count later zero fits first = absurd (omega (arith, first.low))
first_later bound count later (suc place) fits first =
    record {
      low = omega arith;
      high = omega (arith, first.high);
      above = rw (one_less (suc place)) (rw (one_less place) at first.above);
      earlier = by;
    }
  where
    one_less : (k : ℕ) → suc k - 1 ≡ k
    one_less k = omega arith

    by : (k : ℕ) → 1 ≤ k → k < suc (suc place) → get_or (count ∷ later) (k - 1) 0 ≤ bound
    by zero low high = absurd (omega (arith, low))
    by (suc zero) low high = fits
    by (suc (suc k)) low high = rw (one_less (suc k)) (rw (one_less k) at (first.earlier (suc k) (omega arith) (omega (arith, high))))

-- THE PLACE THEOREM: where one is above L, it is the place of the first (promise C-11.2)
pub place_first : (bound : ℕ) (counts : List ℕ) → any_above bound counts ≡ true → FirstAbove bound counts (place_above bound counts)
unfolding place_from
place_first bound [] h = absurd (false≢true (sym (above_empty bound) ∙ h))
place_first bound (count ∷ later) h =
    above_split bound count later h
    (λ large. (rw (lt-ltb bound count large) (first_here bound count later large)))
    (λ fits more. (rw (le-ltb bound count fits, place_shift 1 bound later more)
    (first_later bound count later (place_above bound later) fits (place_first bound later more))))

-- so 0 tells that none is, and any other place that one is
module _ (bound : ℕ) (counts : List ℕ) where
  pub place_0 : place_above bound counts ≡ 0 → any_above bound counts ≡ false
  place_0 none = by (any_above bound counts) refl
    where
      by : (b : Bool) → any_above bound counts ≡ b → b ≡ false
      by true e = absurd (omega (arith, none, (place_first bound counts e).low))
      by false e = refl

  pub place_some : (place_above bound counts ≡ 0 → ⊥) → any_above bound counts ≡ true
  place_some some = by (any_above bound counts) refl
    where
      by : (b : Bool) → any_above bound counts ≡ b → b ≡ true
      by true e = refl
      by false e = absurd (some (place_none 1 bound counts e))

-- LOOKED FOR ONE BY ONE: the place is one more than how many counts stand before the first one above L, where the places begin behind `here`
from_here : (here bound : ℕ) (counts : List ℕ)
    → option_map suc (position_from (nat_lt bound) here counts) ≡ unless_0 (place_from (suc here) bound counts)
unfolding place_from
from_here here bound [] = refl
from_here here bound (count ∷ later) = by (nat_lt bound count) (rw (add-one here) (from_here (suc here) bound later))
  where
    by : (b : Bool) → option_map suc (position_from (nat_lt bound) (here + 1) later) ≡ unless_0 (place_from (suc (suc here)) bound later)
        → option_map suc (cond b (Some here) (position_from (nat_lt bound) (here + 1) later))
        ≡ unless_0 (cond b (suc here) (place_from (suc (suc here)) bound later))
    by true further = refl
    by false further = further

pub place_behind : (bound : ℕ) (counts : List ℕ) → option_map suc (position (nat_lt bound) counts) ≡ unless_0 (place_above bound counts)
place_behind bound counts = ap (option_map suc) (position_from-zero (nat_lt bound) counts) ∙ from_here 0 bound counts
