-- A RUN OF COUNTS KEEPS A BOOK GOOD (promise C-11.5): what every accepted item keeps, a run that is not refused keeps. So a good book stays one,
-- with the counts among its items; demands 2 and 3 hold after the run; and a run from an opening goes on with it.
-- Assumes nothing.
use Prim.Native.Nat.{ℕ, ◌<◌}
use mathlib.Core.Bool.{false}
use mathlib.Core.List.{List, ◌∷◌}
use mathlib.Core.Path.{◌≡◌}
use Rattle.refusals.specs.Call.{refusal_of, result_of, left_of}
use Rattle.book.specs.declared.Book.{Book}
use Rattle.book.specs.Resting.{awake}
use Rattle.book.specs.Calls.{add_call, run_call}
use Rattle.book.specs.OneByOne.{OneByOne, none, first}
use Rattle.book.specs.RunOfCounts.{any_above}
use Rattle.book.proofs.Promises.{run_taken, run_is_adding}
use Rattle.demands.specs.History.{Good, adding, after_run}
use Rattle.demands.specs.Demand2.{Demand2}
use Rattle.demands.specs.Demand3.{Demand3}
use Rattle.demands.specs.RunFromOpening.{FromOpening}
use Rattle.demands.proofs.GoodUsable.{good_usable}
use Rattle.demands.proofs.Demand2.{demand_2}
use Rattle.demands.proofs.Demand3.{demand_3}
use Rattle.demands.proofs.RunFromOpening.{adding_goes_on}

-- what every accepted item keeps …
module _ (P : Book → List ℕ → List ℕ → Type 0)
    (more : (book : Book) (ring items : List ℕ) → P book ring items → (item : ℕ) → refusal_of (add_call book ring item) ≡ 0
    → P (result_of (add_call book ring item)).book (left_of (add_call book ring item)) (item ∷ items)) where
  -- … counts that are added one by one keep …
  pub one_by_one_keeps : (book : Book) (ring counts : List ℕ) (last : Book) (left : List ℕ) → OneByOne book ring counts last left
      → (items : List ℕ) → P book ring items → P last left (after_run counts items)
  unfolding after_run
  one_by_one_keeps book ring counts last left (none b r) items p = p
  one_by_one_keeps book ring counts last left (first b r count later l m taken rest) items p =
      one_by_one_keeps (result_of (add_call b r count)).book (left_of (add_call b r count)) later l m rest (count ∷ items)
      (more b r items p count taken)

  -- … and so does a run of them
  pub run_keeps : (book : Book) (ring items : List ℕ) → P book ring items → (counts : List ℕ) → refusal_of (run_call book ring counts) ≡ 0
      → P (result_of (run_call book ring counts)).book (left_of (run_call book ring counts)) (after_run counts items)
  run_keeps book ring items p counts taken =
      one_by_one_keeps book ring counts (result_of (run_call book ring counts)).book (left_of (run_call book ring counts))
      (run_is_adding book ring counts taken) items p

-- GOOD BOOKS take, while they are awake, every run of which no count is above L …
pub good_takes_run : (book : Book) (ring items : List ℕ) → Good book ring items → (counts : List ℕ) → any_above book.bound counts ≡ false
    → book.resting ≡ awake → refusal_of (run_call book ring counts) ≡ 0
good_takes_run book ring items good counts small up = run_taken book ring counts (good_usable book ring items good) small up

-- … and stay good
pub run_keeps_good : (book : Book) (ring items : List ℕ) → Good book ring items → (counts : List ℕ) → refusal_of (run_call book ring counts) ≡ 0
    → Good (result_of (run_call book ring counts)).book (left_of (run_call book ring counts)) (after_run counts items)
run_keeps_good = run_keeps Good adding

module _ (book : Book) (ring items : List ℕ) (good : Good book ring items) (counts : List ℕ) (taken : refusal_of (run_call book ring counts) ≡ 0) where
  pub after_run_demand_2 : Demand2 (result_of (run_call book ring counts)).book (left_of (run_call book ring counts)) (after_run counts items)
  after_run_demand_2 = demand_2 _ _ _ (run_keeps_good book ring items good counts taken)

  pub after_run_demand_3 : (v : ℕ) → 0 < v
      → Demand3 (result_of (run_call book ring counts)).book (left_of (run_call book ring counts)) (after_run counts items) v
  after_run_demand_3 = demand_3 _ _ _ (run_keeps_good book ring items good counts taken)

-- RUNS FROM AN OPENING, so that what is said of them (specs/RunFromOpening.antt) is said of runs of counts too
pub run_goes_on : (bound n tolerance : ℕ) (lent : List ℕ) (book : Book) (ring items : List ℕ) → FromOpening bound n tolerance lent book ring items
    → (counts : List ℕ) → refusal_of (run_call book ring counts) ≡ 0
    → FromOpening bound n tolerance lent (result_of (run_call book ring counts)).book (left_of (run_call book ring counts)) (after_run counts items)
run_goes_on bound n tolerance lent = run_keeps (FromOpening bound n tolerance lent) (adding_goes_on bound n tolerance lent)
