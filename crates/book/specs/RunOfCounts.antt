-- A run of counts in one call: SCOPE, Run of counts.
use Rattle.std.specs.Prelude.{ℕ, suc, ◌-◌, ◌<◌, ◌≤◌, Bool, false, cond, ◌||◌, List, [], ◌∷◌, length, ◌==◌, nat_lt, slice_index}
use Rattle.refusals.specs.Numbers.{item_too_large}
use Rattle.book.specs.declared.Book.{Book}
use Rattle.book.specs.Adding.{added, added_ring}

-- LOOKING at all counts first: whether any of them is above L
unfoldable pub any_above : ℕ → List ℕ → Bool
any_above bound [] = false
any_above bound (count ∷ later) = nat_lt bound count || any_above bound later

-- the place of the first one above L, where the places begin with `here`; 0 where there is none
unfoldable pub place_from : ℕ → ℕ → List ℕ → ℕ
place_from here bound [] = 0
place_from here bound (count ∷ later) = cond (nat_lt bound count) here (place_from (suc here) bound later)

-- places are counted from 1
abbrev pub place_above : ℕ → List ℕ → ℕ
place_above bound counts = place_from 1 bound counts

-- the place that comes with a refusal: with 7 that of the first count above L, with any other number 0
abbrev pub place_with : ℕ → List ℕ → ℕ → ℕ
place_with bound counts refusal = cond (refusal == item_too_large) (place_above bound counts) 0

-- Said without a search: at this place, from 1, stands a count above L, and at none before it
pub record FirstAbove (bound : ℕ) (counts : List ℕ) (place : ℕ) : Type 0 where
  pub low : 1 ≤ place
  pub high : place ≤ length counts
  pub above : bound < slice_index counts (place - 1)
  pub earlier : (k : ℕ) → 1 ≤ k → k < place → slice_index counts (k - 1) ≤ bound

-- ADDING them, one after the other: the record …
unfoldable pub added_all : Book → List ℕ → Book
added_all book [] = book
added_all book (count ∷ later) = added_all (added book count) later

-- … and the ring
unfoldable pub added_all_ring : Book → List ℕ → List ℕ → List ℕ
added_all_ring book ring [] = ring
added_all_ring book ring (count ∷ later) = added_all_ring (added book count) (added_ring book ring count) later
