-- How a call finds its refusal: it has a list of faults in its own order (SCOPE, Refusals), and the first that holds gives its number.
use Rattle.std.specs.Prelude.{ℕ, zero, suc, Bool, true, false, cond, ◌||◌, List, [], ◌∷◌, ltb}

infix 10 ◌gives◌
-- one row of a call's list: a condition, and the number that it gives when it holds
pub data Fault : Type 0 where
  ◌gives◌ : Bool → ℕ → Fault

-- a number that is a refusal: any but 0
abbrev pub is_refusal : ℕ → Bool
is_refusal zero = false
is_refusal (suc number) = true

-- the refusal of another call, passed on under its own number
abbrev pub passed_on : ℕ → Fault
passed_on number = is_refusal number gives number

-- a refusal number, or where it is 0, the other one
abbrev pub or_else : ℕ → ℕ → ℕ
or_else zero other = other
or_else (suc number) other = suc number

-- the number of the first fault that holds, and 0 where none does
abbrev pub first_of : List Fault → ℕ
first_of [] = 0
first_of ((holds gives number) ∷ later) = or_else (cond holds number 0) (first_of later)

-- what a call leaves or answers: the new thing where nothing is refused, and what was there before where something is
abbrev pub unless_refused : {A : Type 0} → ℕ → A → A → A
unless_refused zero new old = new
unless_refused (suc number) new old = old

-- x does not lie in low … high
abbrev pub outside : ℕ → ℕ → ℕ → Bool
outside low high x = ltb x low || ltb high x
