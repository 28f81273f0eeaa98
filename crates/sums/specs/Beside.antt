-- What it means that a call with a row is the book's own with the row beside it: SCOPE, Running sums.
use Rattle.std.specs.Prelude.{ℕ, ◌≤◌, ◌<◌, List, ◌≡◌, length}
use Rattle.refusals.specs.Numbers.{row_too_short}
use Rattle.refusals.specs.First.{Fault, or_else, first_of}
use Rattle.refusals.specs.Call.{Call, refusal_of, result_of, left_of}
use Rattle.sums.specs.Calls.{RingAndRow}

-- both have the same refusal, give the same and leave the same ring
pub record SameAs {Result : Type 0} (own : Call Result (List ℕ)) (call : Call Result RingAndRow) : Type 0 where
  pub same_refusal : refusal_of call ≡ refusal_of own
  pub same_result : result_of call ≡ result_of own
  pub same_ring : (left_of call).ring ≡ left_of own

-- `earlier` are the faults that come before 18, of the book's own calls those up to 4; `entries` are the groups of slots, `after` is the row as a
-- call that is taken leaves it
pub record BesideTheBook {Result : Type 0} (own : Call Result (List ℕ)) (earlier : List Fault) (entries : ℕ) (row after : List ℕ)
    (call : Call Result RingAndRow) : Type 0 where
  -- with an entry for each group the call is the book's own
  pub with_room : entries ≤ length row → SameAs own call
  -- with fewer it is refused: the earlier faults come first, and then 18
  pub without_room : length row < entries → refusal_of call ≡ or_else (first_of earlier) row_too_short
  -- where it is taken, the row had room, and is left as `after`
  pub had_room : refusal_of call ≡ 0 → entries ≤ length row
  pub row_after : refusal_of call ≡ 0 → (left_of call).row ≡ after
  -- where it is refused, it hands back what the book's own hands back with that number, and ring and row are as they were lent
  pub refused_result : (refusal_of call ≡ 0 → ⊥) → result_of call ≡ own.back (refusal_of call)
  pub refused_ring : (refusal_of call ≡ 0 → ⊥) → (left_of call).ring ≡ own.lent
  pub row_back : (refusal_of call ≡ 0 → ⊥) → (left_of call).row ≡ row
