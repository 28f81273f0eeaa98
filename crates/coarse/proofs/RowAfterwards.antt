-- The entries of a row that a coarser book does not use stay as they were lent, and so does the row's length, whether the call is taken or refused.
-- Those of groups that are not finished are 0.
-- Assumes nothing.
use Prim.Native.Nat.{ℕ, ◌*◌, ◌≤◌, ◌<◌}
use native.Mathlib.Omega.{arith}
use mathlib.Core.List.{List}
use mathlib.Core.Path.{◌≡◌, ap, sym, ◌∙◌}
use lib.ListN.{length}
use Rattle.refusals.specs.Call.{refusal_of, left_of}
use Rattle.book.specs.declared.Book.{Book}
use Rattle.book.specs.Derived.{slot_count}
use Rattle.book.specs.Record.{slots_of}
use Rattle.sums.specs.Row.{entries_for, entries_of, RestStays}
use Rattle.sums.specs.Rule.{stored_at}
use Rattle.sums.proofs.Promises.{cleared_rest, all_rest, by_refusal_lem, unfinished_fresh, unfinished_all}
use Rattle.coarse.specs.Quotients.{blocks_kept, old_quotients}
use Rattle.coarse.specs.Coarser.{fresh_tally, fresh_ring, fresh_row, coarsened_row}
use Rattle.coarse.specs.Calls.{coarser_entries, coarsen_row_call}
use Rattle.coarse.proofs.WhenTaken.{coarsen_known, coarsen_beside}
use Rattle.coarse.proofs.CoarserNumbers.{new_slots, tally_block}
use Rattle.coarse.proofs.OldQuotients.{length_quotients}
use Rattle.coarse.proofs.CoarserIsABook.{fresh_usable, old_quotients_small}

module _ (book : Book) (ring : List ℕ) (times : ℕ) (second row : List ℕ) where
  rest_taken : refusal_of (coarsen_row_call book ring times second row) ≡ 0
      → RestStays (coarser_entries book times) row (coarsened_row book ring times second row)
  unfolding coarsened_row
  rest_taken taken =
      let beside = coarsen_beside book ring times second row in
      let room = beside.had_room taken in
      let known = coarsen_known book ring times second (sym (beside.with_room room).same_refusal ∙ taken) in
      let usable = known.0 in
      let can = known.1 in
      let same : coarser_entries book times ≡ entries_of (fresh_tally book times) = ap entries_for (new_slots book usable.sound.ranges times can) in
      let enough : entries_of (fresh_tally book times) ≤ length row = rw same at room in
      let first = cleared_rest _ row enough in
      let then =
      all_rest (fresh_tally book times) (fresh_ring book times second) (fresh_row book times row) (old_quotients book ring)
      (fresh_usable book ring times usable can second known.2) (old_quotients_small book ring times usable can) in
      rw same
      (record { same_length = then.same_length ∙ first.same_length; same_rest = then.same_rest ∙ first.same_rest })

  pub coarsen_leaves_rest : RestStays (coarser_entries book times) row (left_of (coarsen_row_call book ring times second row)).row
  coarsen_leaves_rest = by_refusal_lem (coarsen_beside book ring times second row) rest_taken

  -- GROUPS THAT ARE NOT FINISHED: at an end behind the slots of the new blocks stands 0
  pub coarsen_unfinished_0 : refusal_of (coarsen_row_call book ring times second row) ≡ 0
      → (e : ℕ) → 1 ≤ e → e ≤ slot_count book.bound book.length (times * book.tolerance) → blocks_kept book < e * times
      → stored_at (left_of (coarsen_row_call book ring times second row)).row e ≡ 0
  unfolding coarsened_row
  coarsen_unfinished_0 taken e low high behind =
      let beside = coarsen_beside book ring times second row in
      let known = coarsen_known book ring times second (sym (beside.with_room (beside.had_room taken)).same_refusal ∙ taken) in
      let usable = known.0 in
      let can = known.1 in
      let ranges = usable.sound.ranges in
      let after =
      unfinished_all (fresh_tally book times) (fresh_ring book times second) (fresh_row book times row) (old_quotients book ring) 0
      (fresh_usable book ring times usable can second known.2) (old_quotients_small book ring times usable can)
      (unfinished_fresh 1 (slots_of book) times row) in
      ap (λ (r : List ℕ). stored_at r e) (beside.row_after taken)
      ∙ after.empty e low (rw (new_slots book ranges times can) at high)
      (omega (
        arith,
        behind,
        length_quotients book ring (blocks_kept book),
        ap (λ (c : ℕ). e * c) (tally_block book ranges times can),
      ))
