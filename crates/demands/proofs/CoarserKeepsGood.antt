-- MADE COARSER, A GOOD BOOK STAYS GOOD (promise C-19.3), with the items that it had: its tolerance is m·D, its kept is p + J·c, and demands 2 and 3
-- hold of it from then on. With a row it is kept with that row. A refusal, whatever its number, hands the good book back.
-- Assumes nothing.
use Prim.Native.Nat.{ℕ, ◌≤◌}
use mathlib.Core.List.{List}
use mathlib.Core.Path.{◌≡◌, refl, sym, ap, ◌∙◌}
use lib.ListN.{length}
use Rattle.refusals.specs.Call.{refusal_of}
use Rattle.refusals.proofs.Calls.{result_refused}
use Rattle.book.specs.declared.Book.{Book}
use Rattle.sums.specs.Calls.{RingAndRow}
use Rattle.coarse.specs.declared.told.Coarser.{Coarser}
use Rattle.coarse.specs.Coarsens.{Coarsens}
use Rattle.coarse.specs.Coarser.{coarsened}
use Rattle.coarse.specs.Calls.{coarser_bytes, coarser_entries, coarsen_call, coarsen_row_call}
use Rattle.coarse.proofs.Promises.{coarsen_taken, coarsen_gives, coarsen_back, coarsen_beside, coarsened_is}
use Rattle.demands.specs.History.{Good, coarsening}
use Rattle.demands.specs.HistoryWithRow.{GoodWithRow}
use Rattle.demands.specs.HistoryWithRow as with_row
use Rattle.demands.specs.CoarserBooks.{coarser_book, coarser_row_book, StaysGood, StaysGoodWithRow}
use Rattle.demands.proofs.GoodUsable.{good_usable}
use Rattle.demands.proofs.Demand2.{demand_2}
use Rattle.demands.proofs.Demand3.{demand_3}
use Rattle.demands.proofs.RowsKept.{demand_2_with_row, demand_3_with_row}

-- what the record is where the call is taken
pub coarser_record : (book : Book) (ring : List ℕ) (times : ℕ) (second : List ℕ) → refusal_of (coarsen_call book ring times second) ≡ 0
    → coarser_book book ring times second ≡ coarsened book ring times
coarser_record book ring times second taken = ap (λ (r : Coarser). r.book) (coarsen_gives book ring times second taken).0

-- where it is refused it is the one that came
pub refused_record : (book : Book) (ring : List ℕ) (times : ℕ) (second : List ℕ) → (refusal_of (coarsen_call book ring times second) ≡ 0 → ⊥)
    → coarser_book book ring times second ≡ book
refused_record book ring times second some =
    let call = coarsen_call book ring times second in
    ap (λ (r : Coarser). r.book) (sym (result_refused call refl some) ∙ (coarsen_back book ring times second).0 (refusal_of call))

pub refused_row_record : (book : Book) (ring : List ℕ) (times : ℕ) (second : RingAndRow)
    → (refusal_of (coarsen_row_call book ring times second.ring second.row) ≡ 0 → ⊥) → coarser_row_book book ring times second ≡ book
refused_row_record book ring times second some =
    let call = coarsen_row_call book ring times second.ring second.row in
    ap (λ (r : Coarser). r.book)
    ((coarsen_beside book ring times second.ring second.row).refused_result some
    ∙ (coarsen_back book ring times second.ring).0 (refusal_of call))

module _ (book : Book) (ring items : List ℕ) (good : Good book ring items) (times : ℕ) where
  module _ (second : List ℕ) where
    -- a good book is made coarser wherever D is a multiple of L, m is 2 to 16, m·D is at most n·L and the second ring has room
    pub good_is_coarsened : Coarsens book times → coarser_bytes book times ≤ length second → refusal_of (coarsen_call book ring times second) ≡ 0
    good_is_coarsened can room = coarsen_taken book ring times second (good_usable book ring items good) can room

    -- and stays good
    pub coarsened_stays_good : refusal_of (coarsen_call book ring times second) ≡ 0 → StaysGood book ring times items second
    coarsened_stays_good taken =
        let after = coarsening book ring items good times second taken in
        let is = coarser_record book ring times second taken ∙ coarsened_is book ring times in
        record {
          good = after;
          tolerance_is = ap (λ (b : Book). b.tolerance) is;
          kept_is = ap (λ (b : Book). b.kept) is;
          demand_2 = demand_2 _ _ _ after;
          demand_3 = demand_3 _ _ _ after;
        }

    -- a refusal hands it back, with the ring and the items that it had
    pub refused_stays_good : (refusal_of (coarsen_call book ring times second) ≡ 0 → ⊥) → Good (coarser_book book ring times second) ring items
    refused_stays_good some = rw (refused_record book ring times second some) good

  -- WITH A ROW for the new ring
  module _ (second : RingAndRow) where
    pub good_is_coarsened_with_row : Coarsens book times → coarser_bytes book times ≤ length second.ring
        → coarser_entries book times ≤ length second.row → refusal_of (coarsen_row_call book ring times second.ring second.row) ≡ 0
    good_is_coarsened_with_row can room entries =
        ((coarsen_beside book ring times second.ring second.row).with_room entries).same_refusal ∙ good_is_coarsened second.ring can room

    pub coarsened_stays_good_with_row : refusal_of (coarsen_row_call book ring times second.ring second.row) ≡ 0
        → StaysGoodWithRow book ring times items second
    coarsened_stays_good_with_row taken =
        let after = with_row.coarsening book ring items good times second taken in
        let beside = coarsen_beside book ring times second.ring second.row in
        let same = beside.with_room (beside.had_room taken) in
        let is = ap (λ (r : Coarser). r.book) same.same_result
        ∙ coarser_record book ring times second.ring (sym same.same_refusal ∙ taken) ∙ coarsened_is book ring times in
        record {
          good = after;
          tolerance_is = ap (λ (b : Book). b.tolerance) is;
          kept_is = ap (λ (b : Book). b.kept) is;
          demand_2 = demand_2_with_row _ _ _ after;
          demand_3 = demand_3_with_row _ _ _ after;
        }

    pub refused_stays_good_with_row : (refusal_of (coarsen_row_call book ring times second.ring second.row) ≡ 0 → ⊥)
        → Good (coarser_row_book book ring times second) ring items
    refused_stays_good_with_row some = rw (refused_row_record book ring times second some) good

-- a book that is kept with a row is handed back to be kept with that row: only the second ring and the second row were lent
pub refused_keeps_row : (book : Book) (lent : RingAndRow) (items : List ℕ) → GoodWithRow book lent items → (times : ℕ) (second : RingAndRow)
    → (refusal_of (coarsen_row_call book lent.ring times second.ring second.row) ≡ 0 → ⊥)
    → GoodWithRow (coarser_row_book book lent.ring times second) lent items
refused_keeps_row book lent items good times second some = rw (refused_row_record book lent.ring times second some) good
