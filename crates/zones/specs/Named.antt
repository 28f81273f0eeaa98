-- The zone that a refusal names (SCOPE, Zones).
use Rattle.std.specs.Prelude.{ℕ, Bool, ◌||◌, ◌≤◌, ◌<◌, ◌≡◌, eqb}
use Rattle.refusals.specs.Numbers.{item_too_large, no_book, book_rests}

-- of the zones from `low` on and below `past` it is the first with a refusal of its own, and that is this one
pub record LowestWith (refusal_of_zone : ℕ → ℕ) (low past zone refusal : ℕ) : Type 0 where
  pub from_low : low ≤ zone
  pub below_past : zone < past
  pub its_own : refusal_of_zone zone ≡ refusal
  pub none_before : (other : ℕ) → low ≤ other → other < zone → refusal_of_zone other ≡ 0

-- a zone is to blame with 8, 17 and 7 alone
abbrev pub names_zone : ℕ → Bool
names_zone refusal = eqb refusal no_book || (eqb refusal book_rests || eqb refusal item_too_large)
