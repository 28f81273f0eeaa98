-- RESTS KEEP A BOOK GOOD (promise C-15.7): a good book is never refused a rest, nor waking; it stays good, with the ring and the items that it
-- had, so that demands 2 and 3 hold at rest and after it.
-- Assumes nothing.
use Prim.Native.Nat.{ℕ, ◌<◌}
use mathlib.Core.List.{List}
use mathlib.Core.Path.{◌≡◌}
use Rattle.refusals.specs.Call.{refusal_of, result_of}
use Rattle.book.specs.declared.Book.{Book}
use Rattle.book.specs.Resting.{awake, at_rest}
use Rattle.book.specs.Calls.{rest_call, wake_call}
use Rattle.book.proofs.Promises.{mark_taken}
use Rattle.demands.specs.History.{Good, resting, waking}
use Rattle.demands.specs.Demand2.{Demand2}
use Rattle.demands.specs.Demand3.{Demand3}
use Rattle.demands.proofs.GoodUsable.{good_usable}
use Rattle.demands.proofs.Demand2.{demand_2}
use Rattle.demands.proofs.Demand3.{demand_3}

module _ (book : Book) (ring items : List ℕ) (good : Good book ring items) where
  -- it may always rest, and be woken
  pub rest_taken : refusal_of (rest_call book) ≡ 0
  rest_taken = mark_taken book at_rest (good_usable book ring items good).sound

  pub wake_taken : refusal_of (wake_call book) ≡ 0
  wake_taken = mark_taken book awake (good_usable book ring items good).sound

  -- it stays good
  pub rest_keeps_good : Good (result_of (rest_call book)).book ring items
  rest_keeps_good = resting book ring items good rest_taken

  pub wake_keeps_good : Good (result_of (wake_call book)).book ring items
  wake_keeps_good = waking book ring items good wake_taken

  -- so that the demands hold of it, put to rest and woken
  pub rests_demand_2 : Demand2 (result_of (rest_call book)).book ring items × Demand2 (result_of (wake_call book)).book ring items
  rests_demand_2 = (demand_2 _ _ _ rest_keeps_good, demand_2 _ _ _ wake_keeps_good)

  pub rests_demand_3 : (v : ℕ) → 0 < v
      → Demand3 (result_of (rest_call book)).book ring items v × Demand3 (result_of (wake_call book)).book ring items v
  rests_demand_3 v asked = (demand_3 _ _ _ rest_keeps_good v asked, demand_3 _ _ _ wake_keeps_good v asked)
