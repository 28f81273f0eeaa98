-- How often a number stands in a list, and the zones in turn: each of them stands there once.
-- Assumes nothing.
use Prim.Native.Nat.{ℕ, zero, suc, ◌+◌, ◌≤◌, ◌<◌}
use native.Mathlib.Omega.{arith}
use mathlib.Core.Bool.{cond}
use mathlib.Core.List.{List, [], ◌∷◌}
use mathlib.Core.Logic.{◌⊎◌, inl, inr, ⊎_elim}
use mathlib.Core.Path.{◌≡◌, refl, sym, ap, ◌∙◌}
use borrow.Author.Tests.{lt-ltb, le-ltb, eq-eqb, ne_eqb}
use Rattle.book.proofs.Promises.{le_or_lt}
use Rattle.zones.specs.AnyOrder.{occurrences, EachOnce}

-- nowhere in the empty list
pub not_in_none : (number : ℕ) → occurrences number [] ≡ 0
unfolding occurrences
not_in_none number = refl

-- once more where it stands first …
pub once_more : (number first : ℕ) (later : List ℕ) → number ≡ first → occurrences number (first ∷ later) ≡ suc (occurrences number later)
unfolding occurrences
once_more number first later same = rw (eq-eqb number first same) (omega arith)

-- … and as often where another does
pub as_often : (number first : ℕ) (later : List ℕ) → (number ≡ first → ⊥) → occurrences number (first ∷ later) ≡ occurrences number later
unfolding occurrences
as_often number first later other = rw (ne_eqb number first other) (omega arith)

-- two numbers are the same or not
pub same_or_other : (a b : ℕ) → (a ≡ b) ⊎ (a ≡ b → ⊥)
same_or_other a b =
    ⊎_elim (λ le. ⊎_elim (λ ge. inl (omega (arith, le, ge))) (λ lt. inr (λ e. omega (arith, lt, e))) (le_or_lt b a))
    (λ lt. inr (λ e. omega (arith, lt, e))) (le_or_lt a b)

-- IN TURN: so many zones from `low` on
abbrev pub in_turn : ℕ → ℕ → List ℕ
in_turn low zero = []
in_turn low (suc many) = low ∷ in_turn (suc low) many

-- none before the first of them
pub turn_before : (many low zone : ℕ) → zone < low → occurrences zone (in_turn low many) ≡ 0
turn_before zero low zone before = not_in_none zone
turn_before (suc many) low zone before =
    as_often zone low (in_turn (suc low) many) (λ e. omega (arith, e, before)) ∙ turn_before many (suc low) zone (omega (arith, before))

-- each of them once
pub turn_within : (many low zone : ℕ) → low ≤ zone → zone < low + many → occurrences zone (in_turn low many) ≡ 1
turn_within zero low zone from within = absurd (omega arith)
turn_within (suc many) low zone from within =
    ⊎_elim (λ e. once_more zone low (in_turn (suc low) many) e ∙ ap suc (turn_before many (suc low) zone (omega (arith, e))))
    (λ other. as_often zone low (in_turn (suc low) many) other
    ∙ turn_within many (suc low) zone (omega (arith, other, from)) (omega (arith, within)))
    (same_or_other zone low)

-- none behind the last
pub turn_past : (many low zone : ℕ) → low + many ≤ zone → occurrences zone (in_turn low many) ≡ 0
turn_past zero low zone past = not_in_none zone
turn_past (suc many) low zone past =
    as_often zone low (in_turn (suc low) many) (λ e. omega (arith, e, past)) ∙ turn_past many (suc low) zone (omega (arith, past))

-- EACH ONCE. A zone of such an order is below n, and one below n stands in it once
module _ (n : ℕ) (order : List ℕ) (each : EachOnce n order) (zone : ℕ) where
  pub stands_once : zone < n → occurrences zone order ≡ 1
  stands_once below = each zone ∙ ap (λ b. cond b 1 0) (lt-ltb zone n below)

  pub is_below : 0 < occurrences zone order → zone < n
  is_below stands = ⊎_elim
      (λ above. absurd (let none : occurrences zone order ≡ 0 = each zone ∙ ap (λ b. cond b 1 0) (le-ltb zone n above) in omega (arith, none)))
      (λ below. below)
      (le_or_lt n zone)

-- the zones in turn from 0 on are such an order
pub each_in_turn : (n : ℕ) → EachOnce n (in_turn 0 n)
each_in_turn n zone =
    ⊎_elim (λ above. turn_past n 0 zone (omega arith) ∙ sym (ap (λ b. cond b 1 0) (le-ltb zone n above)))
    (λ below. turn_within n 0 zone (omega arith) (omega arith) ∙ sym (ap (λ b. cond b 1 0) (lt-ltb zone n below)))
    (le_or_lt n zone)
