-- Starting is opening the book of the setting: the result in another form, and the same ring.
-- Assumes nothing.
use Prim.Native.Nat.{ℕ}
use mathlib.Core.List.{List}
use mathlib.Core.Path.{◌≡◌}
use Rattle.refusals.specs.Call.{result_of, left_of}
use Rattle.refusals.proofs.Calls.{seen_result, seen_left}
use Rattle.watch.specs.Calls.{opening, started_by, start_call}

module _ (ring : List ℕ) where
  pub start_gives : started_by (result_of (opening ring)) ≡ result_of (start_call ring)
  unfolding start_call
  start_gives = seen_result started_by (opening ring)

  pub start_leaves : left_of (opening ring) ≡ left_of (start_call ring)
  unfolding start_call
  start_leaves = seen_left started_by (opening ring)
