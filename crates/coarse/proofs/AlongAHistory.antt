-- A coarser book, the old one and the tally, along a whole history: items that the old book takes, while the tally takes the quotients with which its
-- blocks close, leave the coarser book together with the two, and its ring and row are the tally's.
-- Assumes nothing.
use Prim.Native.Nat.{ℕ, ◌+◌, ◌<◌}
use native.Mathlib.Decide.{ℕ_discrete}
use mathlib.Core.List.{List, [], ◌∷◌}
use mathlib.Core.Path.{◌≡◌, refl, subst}
use Rattle.book.specs.declared.Book.{Book}
use Rattle.book.specs.Record.{block_of}
use Rattle.book.specs.Sound.{Ranges}
use Rattle.book.specs.Adding.{quotient_of, added, added_ring}
use Rattle.book.specs.RunOfCounts.{added_all, added_all_ring}
use Rattle.book.proofs.Promises.{added_same, all_none, all_more}
use Rattle.sums.specs.Row.{added_row, added_all_row}
use Rattle.sums.proofs.Promises.{row_none, row_more}
use Rattle.coarse.specs.Coarsens.{Coarsens}
use Rattle.coarse.specs.Histories.{closings}
use Rattle.coarse.proofs.ByTheCount.{still_same, block_same, phase_below}
use Rattle.coarse.proofs.ItemByItem.{closings_none, closings_open, closings_closed}
use Rattle.coarse.proofs.Together.{together, InStep, open_together, open_ring, open_row, closed_together, closed_ring_lem, closed_row}

module _ (book : Book) (times : ℕ) (fine tally : Book) (step : InStep book times fine tally) where
  its_block : block_of fine ≡ block_of book
  its_block = block_same step.fine_numbers

  -- the old book takes an item …
  item_in_step : (item : ℕ) → InStep book times (added fine item) tally
  item_in_step item =
      record {
        fine_numbers = still_same step.fine_numbers (added_same fine item);
        tally_numbers = step.tally_numbers;
        phase_lt = subst (λ (c : ℕ). (added fine item).phase < c) its_block (phase_below fine item (rw its_block step.phase_lt));
      }

  -- … and the tally a quotient
  quotient_in_step : (q : ℕ) → InStep book times fine (added tally q)
  quotient_in_step q =
      record {
        fine_numbers = step.fine_numbers;
        tally_numbers = still_same step.tally_numbers (added_same tally q);
        phase_lt = step.phase_lt;
      }

module _ (book : Book) (ranges : Ranges book.bound book.length book.tolerance) (times : ℕ) (can : Coarsens book times) where
  -- what the three come to with the items
  pub record Along (fine tally : Book) (ring row items : List ℕ) : Type 0 where
    pub record_along : added_all (together book times fine tally) items
        ≡ together book times (added_all fine items) (added_all tally (closings fine items))
    pub ring_along : added_all_ring (together book times fine tally) ring items ≡ added_all_ring tally ring (closings fine items)
    pub row_along : added_all_row (together book times fine tally) ring row items ≡ added_all_row tally ring row (closings fine items)

  -- from any records that are in step, with any items
  pub along : (fine tally : Book) (ring row items : List ℕ) → InStep book times fine tally → Along fine tally ring row items
  along fine tally ring row [] step =
      let coarse = together book times fine tally in
      record {
        record_along =
            rw (closings_none fine, (all_none coarse ring).0, (all_none fine ring).0, (all_none tally ring).0) refl;
        ring_along = rw (closings_none fine, (all_none coarse ring).1, (all_none tally ring).1) refl;
        row_along = rw (closings_none fine, row_none coarse ring row, row_none tally ring row) refl;
      }
  along fine tally ring row (item ∷ later) step =
      by (λ next_tally next_ring next_row on. along (added fine item) next_tally next_ring next_row later on)
      (ℕ_discrete (fine.phase + 1) (block_of fine))
    where
      coarse : Book
      coarse = together book times fine tally

      by : ((next_tally : Book) (next_ring next_row : List ℕ) → InStep book times (added fine item) next_tally
          → Along (added fine item) next_tally next_ring next_row later)
          → Dec (fine.phase + 1 ≡ block_of fine) → Along fine tally ring row (item ∷ later)
      by rest (yes closes) =
          let q : ℕ = quotient_of fine item in
          let on = item_in_step book times fine (added tally q) (quotient_in_step book times fine tally step q) item in
          let next = rest (added tally q) (added_ring tally ring q) (added_row tally ring row q) on in
          let same = closed_together book ranges times can fine tally step ring row item closes in
          let same_ring = closed_ring_lem book ranges times can fine tally step ring row item closes in
          let same_row = closed_row book ranges times can fine tally step ring row item closes in
          record {
            record_along =
                rw (closings_closed fine item later closes, (all_more coarse ring item later).0, (all_more fine ring item later).0)
                (rw ((all_more tally ring q (closings (added fine item) later)).0, same) next.record_along);
            ring_along =
                rw (closings_closed fine item later closes, (all_more coarse ring item later).1)
                (rw ((all_more tally ring q (closings (added fine item) later)).1, same_ring, same) next.ring_along);
            row_along =
                rw (closings_closed fine item later closes, row_more coarse ring row item later)
                (rw (row_more tally ring row q (closings (added fine item) later), same_row, same_ring, same) next.row_along);
          }
      by rest (no more) =
          let next = rest tally ring row (item_in_step book times fine tally step item) in
          let same = open_together book ranges times can fine tally step ring row item more in
          let same_ring = open_ring book ranges times can fine tally step ring row item more in
          let same_row = open_row book ranges times can fine tally step ring row item more in
          record {
            record_along =
                rw (closings_open fine item later more, (all_more coarse ring item later).0, (all_more fine ring item later).0, same)
                next.record_along;
            ring_along =
                rw (closings_open fine item later more, (all_more coarse ring item later).1, same_ring, same) next.ring_along;
            row_along =
                rw (closings_open fine item later more, row_more coarse ring row item later, same_row, same_ring, same) next.row_along;
          }
