-- CALLS OF A BOOK KEPT WITH A ROW (promise C-16.7): a run with the row comes to its items; a refused item or run with the row and a total with it
-- change nothing; and so does any call without the row that is refused or only asks.
-- Assumes nothing.
use Prim.Native.Nat.{ℕ, ◌≤◌}
use mathlib.Core.Bool.{false}
use mathlib.Core.List.{List, ◌∷◌}
use mathlib.Core.Logic.{◌⊎◌, inl, inr}
use mathlib.Core.Path.{◌≡◌, refl, ◌∙◌}
use Rattle.refusals.specs.Call.{Call, refusal_of, result_of, left_of, seen_as}
use Rattle.book.specs.declared.Book.{Book}
use Rattle.book.specs.declared.told.Updated.{Updated}
use Rattle.book.specs.declared.told.Ran.{Ran}
use Rattle.book.specs.Resting.{awake}
use Rattle.book.specs.RunOfCounts.{any_above}
use Rattle.book.proofs.Promises.{add_taken, run_taken}
use Rattle.sums.specs.Calls.{RingAndRow, add_row_call, run_row_call, total_row_call}
use Rattle.sums.specs.OneByOne.{OneByOne, none, first}
use Rattle.sums.proofs.Promises.{add_beside, run_beside, run_row_is_adding, add_row_back, run_row_back, total_row_asks}
use Rattle.demands.specs.History.{Upon, OnlyAsks, after_run}
use Rattle.demands.specs.HistoryWithRow.{GoodWithRow, adding, otherwise, row_aside}
use Rattle.demands.proofs.GoodUsable.{good_usable}
use Rattle.demands.proofs.RowsKept.{KeptWithRow, kept_with_row}

-- counts added one by one with the row are items …
one_by_one_keeps : (book : Book) (lent : RingAndRow) (counts : List ℕ) (last : Book) (left : RingAndRow) → OneByOne book lent counts last left
    → (items : List ℕ) → GoodWithRow book lent items → GoodWithRow last left (after_run counts items)
unfolding after_run
one_by_one_keeps book lent counts last left (none b l) items good = good
one_by_one_keeps book lent counts last left (first b l count later m n taken rest) items good =
    one_by_one_keeps (result_of (add_row_call b l.ring l.row count)).book (left_of (add_row_call b l.ring l.row count)) later m n rest (count ∷ items)
    (adding b l items good count taken)

module _ (book : Book) (lent : RingAndRow) (items : List ℕ) (good : GoodWithRow book lent items) where
  abbrev known : KeptWithRow book lent items
  known = kept_with_row book lent items good

  -- … and so are those of a run
  pub run_with_row_keeps : (counts : List ℕ) → refusal_of (run_row_call book lent.ring lent.row counts) ≡ 0
      → GoodWithRow (result_of (run_row_call book lent.ring lent.row counts)).book (left_of (run_row_call book lent.ring lent.row counts))
      (after_run counts items)
  run_with_row_keeps counts taken =
      one_by_one_keeps book lent counts _ _ (run_row_is_adding book lent.ring lent.row counts taken) items good

  -- while it is awake it takes every item up to L, and every run of such
  pub takes_item_with_row : (item : ℕ) → item ≤ book.bound → book.resting ≡ awake → refusal_of (add_row_call book lent.ring lent.row item) ≡ 0
  takes_item_with_row item small up =
      ((add_beside book lent.ring lent.row item).with_room known.room).same_refusal
      ∙ add_taken book lent.ring item (good_usable book lent.ring items known.good) small up

  pub takes_run_with_row : (counts : List ℕ) → any_above book.bound counts ≡ false → book.resting ≡ awake
      → refusal_of (run_row_call book lent.ring lent.row counts) ≡ 0
  takes_run_with_row counts small up =
      ((run_beside book lent.ring lent.row counts).with_room known.room).same_refusal
      ∙ run_taken book lent.ring counts (good_usable book lent.ring items known.good) small up

  -- CALLS THAT CHANGE NOTHING, each seen by the record that its caller goes on with: one that is refused and hands the record back, wherever its
  -- result holds it
  refused : {Result : Type 0} (record_in : Result → Book) (call : Call Result RingAndRow)
      → ((number : ℕ) → record_in (call.back number) ≡ book) × (call.lent ≡ lent) → (refusal_of call ≡ 0 → ⊥)
      → GoodWithRow (result_of (seen_as record_in call)) (left_of (seen_as record_in call)) items
  refused record_in call back some =
      otherwise book lent items good (seen_as record_in call) (record { hands_back = back.0; lent_is = back.1 }) (inl some)

  pub after_refused_row_item : (item : ℕ) → (refusal_of (add_row_call book lent.ring lent.row item) ≡ 0 → ⊥)
      → GoodWithRow (result_of (seen_as (λ (r : Updated). r.book) (add_row_call book lent.ring lent.row item)))
      (left_of (seen_as (λ (r : Updated). r.book) (add_row_call book lent.ring lent.row item))) items
  after_refused_row_item item =
      refused (λ (r : Updated). r.book) (add_row_call book lent.ring lent.row item) (add_row_back book lent.ring lent.row item)

  pub after_refused_row_run : (counts : List ℕ) → (refusal_of (run_row_call book lent.ring lent.row counts) ≡ 0 → ⊥)
      → GoodWithRow (result_of (seen_as (λ (r : Ran). r.book) (run_row_call book lent.ring lent.row counts)))
      (left_of (seen_as (λ (r : Ran). r.book) (run_row_call book lent.ring lent.row counts))) items
  after_refused_row_run counts =
      refused (λ (r : Ran). r.book) (run_row_call book lent.ring lent.row counts) (run_row_back book lent.ring lent.row counts)

  pub after_row_total : (window : ℕ)
      → GoodWithRow (result_of (seen_as (λ r. book) (total_row_call book lent.ring lent.row window)))
      (left_of (seen_as (λ r. book) (total_row_call book lent.ring lent.row window))) items
  after_row_total window =
      let same = total_row_asks book lent.ring lent.row window in
      otherwise book lent items good (seen_as (λ r. book) (total_row_call book lent.ring lent.row window))
      (record { hands_back = λ number. refl; lent_is = same.1 }) (inr (refl, same.0))

  -- a call without the row that is refused or only asks
  pub after_plain_call : (call : Call Book (List ℕ)) → Upon book lent.ring call → (refusal_of call ≡ 0 → ⊥) ⊎ OnlyAsks book lent.ring call
      → GoodWithRow (result_of (row_aside lent.row call)) (left_of (row_aside lent.row call)) items
  after_plain_call call upon idle = otherwise book lent items good (row_aside lent.row call) aside (by idle)
    where
      aside : Upon book lent (row_aside lent.row call)
      aside = record { hands_back = upon.hands_back; lent_is = λ i. record { ring = upon.lent_is i; row = lent.row } }

      by : (refusal_of call ≡ 0 → ⊥) ⊎ OnlyAsks book lent.ring call
          → (refusal_of (row_aside lent.row call) ≡ 0 → ⊥) ⊎ OnlyAsks book lent (row_aside lent.row call)
      by (inl some) = inl some
      by (inr asks) = inr (asks.0, λ i. record { ring = asks.1 i; row = lent.row })
