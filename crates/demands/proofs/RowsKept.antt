-- A BOOK KEPT WITH A ROW (promises C-16.5, C-16.7) is a good book, has room in its row and a row that is kept: so its total by the row is the plain
-- walk's for every window, demand 2 holds of it, and demand 3 as of any good book.
-- Assumes nothing.
use Prim.Native.Nat.{ℕ, ◌≤◌, ◌<◌}
use native.Mathlib.Decide.{ℕ_discrete}
use native.Mathlib.Omega.{arith}
use mathlib.Core.List.{List, [], ◌∷◌}
use mathlib.Core.Path.{◌≡◌, refl, sym, ap, ◌∙◌}
use lib.ListN.{length}
use Rattle.refusals.specs.Call.{refusal_of, result_of, left_of}
use Rattle.refusals.proofs.Calls.{result_refused}
use Rattle.book.specs.declared.Book.{Book}
use Rattle.book.specs.declared.told.Figure.{Figure}
use Rattle.book.specs.declared.told.Updated.{Updated}
use Rattle.book.specs.Derived.{slot_count}
use Rattle.book.specs.Resting.{awake, at_rest}
use Rattle.book.specs.Record.{slots_of, held_in}
use Rattle.book.specs.Adding.{added}
use Rattle.book.specs.Calls.{mark_call, total_call}
use Rattle.book.proofs.Promises.{open_known, open_gives, add_known, add_gives, added_same, mark_gives, total_known, total_gives, total_number, total_hands_back}
use Rattle.sums.specs.declared.told.Summed.{Summed}
use Rattle.sums.specs.Row.{entries_for, entries_of}
use Rattle.sums.specs.RowKept.{RowKept}
use Rattle.sums.specs.Calls.{RingAndRow, open_row_call, add_row_call, total_row_call}
use Rattle.sums.proofs.Promises.{open_beside, add_beside, open_leaves_rest, add_leaves_rest, kept_by_opening, kept_by_adding, figure_same, total_beside, total_row_gives, total_row_number, total_row_refused}
use Rattle.coarse.specs.declared.told.Coarser.{Coarser}
use Rattle.coarse.specs.Calls.{coarsen_row_call}
use Rattle.coarse.proofs.Promises.{coarsen_known, coarsen_gives, coarsen_beside, coarsened_row_lem}
use Rattle.salvage.specs.declared.told.Salvaged.{Salvaged}
use Rattle.salvage.specs.Salvaged.{salvaged_ring}
use Rattle.salvage.specs.Calls.{RingAndNumbers, RingNumbersAndRow, salvage_row_call}
use Rattle.salvage.specs.After.{book_after, ring_after, book_after_row, both_after}
use Rattle.salvage.proofs.Promises.{salvage_known, salvage_gives, salvage_row_known, salvage_row_gives}
use Rattle.salvage.proofs.Promises.{salvaged_is, rebuilt_rest, rebuilt_kept}
use Rattle.demands.specs.LeftTrue.{LeftTrue}
use Rattle.demands.specs.History.{Good}
use Rattle.demands.specs.History as history
use Rattle.demands.specs.HistoryWithRow.{GoodWithRow, start, adding, resting, waking, coarsening, salvaging, otherwise}
use Rattle.demands.specs.Demand3.{Demand3}
use Rattle.demands.specs.DemandsWithRow.{SameTotal, Demand2WithRow}
use Rattle.demands.proofs.GoodInduction.{nothing_changes}
use Rattle.demands.proofs.Demand2.{demand_2}
use Rattle.demands.proofs.Demand3.{demand_3}

-- a total that is refused gives 0
total_refused : (book : Book) (ring : List ℕ) (window : ℕ) → (refusal_of (total_call book ring window) ≡ 0 → ⊥)
    → (result_of (total_call book ring window)).figure ≡ 0
total_refused book ring window some =
    ap (λ (f : Figure). f.figure)
    (sym (result_refused (total_call book ring window) refl some) ∙ total_hands_back book ring window (refusal_of (total_call book ring window)))

-- a row that has room and is kept, beside the ring of any book
pub record RowWithRoom (book : Book) (lent : RingAndRow) : Type 0 where
  pub room : entries_of book ≤ length lent.row
  pub kept : RowKept book lent.ring lent.row

-- what every book kept with a row has
pub record KeptWithRow (book : Book) (lent : RingAndRow) (items : List ℕ) : Type 0 where
  pub good : Good book lent.ring items
  pub room : entries_of book ≤ length lent.row
  pub kept : RowKept book lent.ring lent.row

-- OPENING with the row
opened_with_row : (bound n tolerance : ℕ) (lent : RingAndRow) → refusal_of (open_row_call bound n tolerance lent.ring lent.row) ≡ 0
    → KeptWithRow (result_of (open_row_call bound n tolerance lent.ring lent.row)).book (left_of (open_row_call bound n tolerance lent.ring lent.row)) []
opened_with_row bound n tolerance lent taken =
    let beside = open_beside bound n tolerance lent.ring lent.row in
    let same = beside.with_room (beside.had_room taken) in
    let own = sym same.same_refusal ∙ taken in
    let known = open_known bound n tolerance lent.ring own in
    let gives = open_gives bound n tolerance lent.ring own in
    let book_is = ap (λ (u : Updated). u.book) same.same_result in
    let ring_is = same.same_ring in
    let long = (open_leaves_rest bound n tolerance lent.ring lent.row).same_length in
    record {
      good = rw (book_is, ring_is) (history.start bound n tolerance lent.ring own);
      room = rw (book_is ∙ ap (λ (u : Updated). u.book) gives.0, long) (beside.had_room taken);
      kept = rw (book_is ∙ ap (λ (u : Updated). u.book) gives.0, ring_is ∙ gives.1, beside.row_after taken)
          (kept_by_opening bound n tolerance lent.ring lent.row known.0 known.1);
    }

-- AN ITEM with the row: of any book, good or not, the row has room and is kept as before
pub item_keeps_row : (book : Book) (lent : RingAndRow) → RowWithRoom book lent → (item : ℕ)
    → refusal_of (add_row_call book lent.ring lent.row item) ≡ 0
    → RowWithRoom (result_of (add_row_call book lent.ring lent.row item)).book (left_of (add_row_call book lent.ring lent.row item))
item_keeps_row book lent before item taken =
    let beside = add_beside book lent.ring lent.row item in
    let same = beside.with_room before.room in
    let own = sym same.same_refusal ∙ taken in
    let known = add_known book lent.ring item own in
    let gives = add_gives book lent.ring item own in
    let numbers = added_same book item in
    let entries : entries_of (added book item) ≡ entries_of book =
    λ i. entries_for (slot_count (numbers.bound_same i) (numbers.length_same i) (numbers.tolerance_same i)) in
    let book_is = ap (λ (u : Updated). u.book) (same.same_result ∙ gives.0) in
    record {
      room = rw (book_is, (add_leaves_rest book lent.ring lent.row item).same_length, entries) before.room;
      kept = rw (book_is, same.same_ring ∙ gives.1, beside.row_after taken)
          (kept_by_adding book lent.ring lent.row item known.0 known.1 before.room before.kept);
    }

added_with_row : (book : Book) (lent : RingAndRow) (items : List ℕ) → KeptWithRow book lent items → (item : ℕ)
    → refusal_of (add_row_call book lent.ring lent.row item) ≡ 0
    → KeptWithRow (result_of (add_row_call book lent.ring lent.row item)).book (left_of (add_row_call book lent.ring lent.row item)) (item ∷ items)
added_with_row book lent items before item taken =
    let same = (add_beside book lent.ring lent.row item).with_room before.room in
    let own = sym same.same_refusal ∙ taken in
    let row = item_keeps_row book lent (record { room = before.room; kept = before.kept }) item taken in
    record {
      good = rw (ap (λ (u : Updated). u.book) same.same_result, same.same_ring)
          (history.adding book lent.ring items before.good item own);
      room = row.room;
      kept = row.kept;
    }

-- ANOTHER MARK: it leaves ring and row
marked_with_row : (book : Book) (lent : RingAndRow) (items : List ℕ) (mark : ℕ) → KeptWithRow book lent items → refusal_of (mark_call book mark) ≡ 0
    → Good (result_of (mark_call book mark)).book lent.ring items → KeptWithRow (result_of (mark_call book mark)).book lent items
marked_with_row book lent items mark before taken good =
    let book_is = ap (λ (u : Updated). u.book) (mark_gives book mark taken) in
    record { good = good; room = rw book_is before.room; kept = rw book_is before.kept }

-- MADE COARSER with a row for the new ring, whatever was kept beside the old one
coarsened_with_row : (book : Book) (ring items : List ℕ) → Good book ring items → (times : ℕ) (second : RingAndRow)
    → refusal_of (coarsen_row_call book ring times second.ring second.row) ≡ 0
    → KeptWithRow (result_of (coarsen_row_call book ring times second.ring second.row)).book
    (left_of (coarsen_row_call book ring times second.ring second.row)) items
coarsened_with_row book ring items good times second taken =
    let beside = coarsen_beside book ring times second.ring second.row in
    let same = beside.with_room (beside.had_room taken) in
    let own = sym same.same_refusal ∙ taken in
    let known = coarsen_known book ring times second.ring own in
    let gives = coarsen_gives book ring times second.ring own in
    let book_is = ap (λ (r : Coarser). r.book) same.same_result in
    let ring_is = same.same_ring in
    let row = coarsened_row_lem book ring times known.0 known.1 second.ring known.2 second.row (beside.had_room taken) in
    record {
      good = rw (book_is, ring_is) (history.coarsening book ring items good times second.ring own);
      room = rw (book_is ∙ ap (λ (r : Coarser). r.book) gives.0, beside.row_after taken) row.1;
      kept = rw (book_is ∙ ap (λ (r : Coarser). r.book) gives.0, ring_is ∙ gives.1, beside.row_after taken) row.0;
    }

-- SALVAGED with a row: of any book, good or not, the row is rebuilt, so that it has room and is kept
pub salvage_keeps_row : (book : Book) (ring numbers row : List ℕ) → refusal_of (salvage_row_call book ring numbers row) ≡ 0
    → RowWithRoom (book_after_row book ring numbers row) (both_after book ring numbers row)
salvage_keeps_row book ring numbers row taken =
    let known = salvage_row_known book ring numbers row taken in
    let gives = salvage_row_gives book ring numbers row taken in
    let head = (salvage_known book ring numbers known.0).0.sound.head_high in
    let held = held_in book (salvaged_ring book ring) in
    let book_is = ap (λ (r : Salvaged). r.book) gives.0 ∙ salvaged_is book ring in
    record {
      room = rw (book_is, gives.1, (rebuilt_rest (slots_of book) held row known.1).same_length) known.1;
      kept = rw (book_is, gives.1) (rebuilt_kept (slots_of book) held row known.1 book.head (omega arith));
    }

-- it is salvaged as without the row
pub salvage_row_same : (book : Book) (ring numbers row : List ℕ) → refusal_of (salvage_row_call book ring numbers row) ≡ 0
    → (book_after_row book ring numbers row ≡ book_after book ring numbers) × ((both_after book ring numbers row).ring ≡ ring_after book ring numbers)
salvage_row_same book ring numbers row taken =
    let own = salvage_gives book ring numbers (salvage_row_known book ring numbers row taken).0 in
    let gives = salvage_row_gives book ring numbers row taken in (
      ap (λ (r : Salvaged). r.book) (gives.0 ∙ sym own.0),
      ap (λ (l : RingNumbersAndRow). l.ring) gives.1 ∙ sym (ap (λ (l : RingAndNumbers). l.ring) own.1),
    )

salvaged_with_row : (book : Book) (ring truth items : List ℕ) → Good book truth items → LeftTrue book ring truth → (numbers row : List ℕ)
    → refusal_of (salvage_row_call book ring numbers row) ≡ 0
    → KeptWithRow (book_after_row book ring numbers row) (both_after book ring numbers row) items
salvaged_with_row book ring truth items good left_true numbers row taken =
    let same = salvage_row_same book ring numbers row taken in
    let rebuilt = salvage_keeps_row book ring numbers row taken in
    record {
      good = rw (same.0, same.1)
          (history.salvaging book ring truth items good left_true numbers (salvage_row_known book ring numbers row taken).0);
      room = rebuilt.room;
      kept = rebuilt.kept;
    }

pub kept_with_row : (book : Book) (lent : RingAndRow) (items : List ℕ) → GoodWithRow book lent items → KeptWithRow book lent items
kept_with_row book lent items (start bound n tolerance both taken) = opened_with_row bound n tolerance both taken
kept_with_row book lent items (adding old both earlier good item taken) = added_with_row old both earlier (kept_with_row old both earlier good) item taken
kept_with_row book lent items (resting old both same good taken) =
    let before = kept_with_row old both same good in
    marked_with_row old both same at_rest before taken (history.resting old both.ring same before.good taken)
kept_with_row book lent items (waking old both same good taken) =
    let before = kept_with_row old both same good in
    marked_with_row old both same awake before taken (history.waking old both.ring same before.good taken)
kept_with_row book lent items (coarsening old ring same good times second taken) = coarsened_with_row old ring same good times second taken
kept_with_row book lent items (salvaging old ring truth same good left_true numbers row taken) =
    salvaged_with_row old ring truth same good left_true numbers row taken
kept_with_row book lent items (otherwise old both same good call upon idle) =
    let unchanged = nothing_changes old both call upon idle in
    rw (unchanged.0, unchanged.1) (kept_with_row old both same good)

-- THE TOTAL BY A KEPT ROW IS THE WALK'S for every window, however the row came to be kept
module _ (book : Book) (lent : RingAndRow) (room : entries_of book ≤ length lent.row) (kept : RowKept book lent.ring lent.row) (window : ℕ) where
  same_number : refusal_of (total_row_call book lent.ring lent.row window) ≡ refusal_of (total_call book lent.ring window)
  same_number = total_beside book lent.ring lent.row window room

  same_told : (result_of (total_row_call book lent.ring lent.row window)).refusal ≡ (result_of (total_call book lent.ring window)).refusal
  same_told = total_row_number book lent.ring lent.row window ∙ same_number ∙ sym (total_number book lent.ring window)

  pub same_total_kept : SameTotal book lent window
  same_total_kept = by (ℕ_discrete (refusal_of (total_call book lent.ring window)) 0)
    where
      by : Dec (refusal_of (total_call book lent.ring window) ≡ 0) → SameTotal book lent window
      by (yes taken) =
          let usable = total_known book lent.ring window taken in
          record {
            same_refusal = same_told;
            same_figure =
                ap (λ (r : Summed). r.figure) (total_row_gives book lent.ring lent.row window (same_number ∙ taken))
                ∙ figure_same book lent.ring lent.row usable.0.sound kept window usable.1
                ∙ sym (ap (λ (r : Figure). r.figure) (total_gives book lent.ring window taken));
          }
      by (no some) =
          record {
            same_refusal = same_told;
            same_figure =
                ap (λ (r : Summed). r.figure) (total_row_refused book lent.ring lent.row window (λ e. some (sym same_number ∙ e)))
                ∙ sym (total_refused book lent.ring window some);
          }

module _ (book : Book) (lent : RingAndRow) (items : List ℕ) (with_row : GoodWithRow book lent items) where
  abbrev known : KeptWithRow book lent items
  known = kept_with_row book lent items with_row

  -- A BOOK KEPT WITH A ROW is a good book, with the same items
  pub good_without_row : Good book lent.ring items
  good_without_row = known.good

  -- and its row is kept
  pub same_total : (window : ℕ) → SameTotal book lent window
  same_total = same_total_kept book lent known.room known.kept

  -- DEMAND 2 of its calls
  pub demand_2_with_row : Demand2WithRow book lent items
  demand_2_with_row window kept =
      let plain = demand_2 book lent.ring items good_without_row window kept in
      let same = same_total window in
      record { not_refused = same.same_refusal ∙ plain.not_refused; bounds = rw same.same_figure plain.bounds }

  -- DEMAND 3, as of any good book
  pub demand_3_with_row : (v : ℕ) → 0 < v → Demand3 book lent.ring items v
  demand_3_with_row = demand_3 book lent.ring items good_without_row
