-- THE PROMISES OF THE CALLS WITH A ROW: all that crates above may cite beside the names of specs/. They look into no definition.
-- Assumes nothing.

-- CALLS. Opening, adding and a run are the book's own with the row beside them (specs/Beside.antt); a total has the book's refusals where the row has
-- room, and otherwise those up to 4 and then 18
pub use Rattle.sums.proofs.Taken.{open_beside, add_beside, run_beside, run_row_place_0}
pub use Rattle.sums.proofs.TotalWithRow.{total_beside, total_short, total_row_known}
-- of a book with its ring whose row is too short they are refused with 18, at rest too
pub use Rattle.sums.proofs.RowFirst.{item_18, run_18, total_18}
-- what a total that is taken gives, and that a refused one gives its number and zeros
pub use Rattle.sums.proofs.TotalWithRow.{total_row_gives, total_row_number, total_row_refused}
-- a refused item or run hands the record back as it came, and a total leaves ring and row
pub use Rattle.sums.proofs.ComesBack.{add_row_back, run_row_back, total_row_asks}
-- demand 1 and uniqueness of each, and of the results themselves
pub use Rattle.sums.proofs.OneOutcome.{open_row_settled, add_row_settled, run_row_settled, total_row_settled}
pub use Rattle.sums.proofs.Demand1.{open_row_promised, add_row_promised, run_row_promised, total_row_promised, open_row_tells, add_row_tells, run_row_tells, total_row_tells, total_row_leaves}
-- THE ROW. Which slots end a group, for all slots and of 65. Where an item closes a block the row is as storing leaves it, and otherwise it stays;
-- storing puts the sum into the entry of the group that ends, if one does, and leaves every other entry. An opening's
-- cleared row holds no sum; no call changes the row's length or an entry that is not used, whatever it is called with
pub use Rattle.sums.proofs.Ends.{ends_where, ends_of_65}
pub use Rattle.sums.proofs.ItemWithRow.{row_stored, row_stays}
pub use Rattle.sums.proofs.RowOfABook.{cleared_holds_0}
pub use Rattle.sums.proofs.RowStays.{stored_there, stored_nothing, stored_others, open_leaves_rest, add_leaves_rest, run_leaves_rest}
-- a run with a row is adding its counts one by one with the row
pub use Rattle.sums.proofs.RunIsAdding.{add_row_gives, run_row_is_adding}
-- THE RULE reads at most 64 fields and 3 stored sums, whatever it is asked, and the counts given are its own
pub use Rattle.sums.proofs.FewRead.{few_read, counts_by_rule}
-- A KEPT ROW, over what the slots hold: a row filled from the present fields is one, a write of slot head keeps it, and by it the rule makes the sum
-- of the newest slots
pub use Rattle.sums.proofs.KeptRow.{kept_filled, kept_written, sum_by_row_lem}
-- of a book: opening begins it and every item that is taken keeps it; by it the figure is the book's own
pub use Rattle.sums.proofs.RowOfABook.{kept_by_opening, kept_by_adding, figure_same}
-- and so do counts that are added one after the other, with its room
pub use Rattle.sums.proofs.KeptByRun.{kept_by_run}
-- clearing a row that has room, and adding counts, leave its length and what is not used; so does a call with a row, refused or not, if it does so taken
pub use Rattle.sums.proofs.RowStays.{cleared_rest, all_rest, by_refusal_lem}
-- THE SUM AT AN END: nothing at 0, and otherwise its entry; and the end of a slot's group is the first end behind the slot
pub use Rattle.sums.proofs.KeptRow.{stored_0, stored_entry}
pub use Rattle.sums.proofs.Ends.{group_end_lem}
-- SUMS OF FIELDS: of none, of a run between two sums from slot 0, and that they see nothing but their own fields; those of a ring stay small,
-- and are what the ring's own call sums, and so what `row::fields` tells of some slots of a judged book's ring
pub use Rattle.sums.proofs.SumsOfFields.{from_none, between, to_same}
pub use Rattle.sums.proofs.FieldsInRange.{sum_small, ring_sums, ring_answers, fields_sum}
-- THE OLDEST of the newest slots, where the ring has so many
pub use Rattle.sums.proofs.SumsOfFields.{oldest_newest}
-- FOR CALLS ABOVE with a row beside a call of their own: what it then is, and what it tells
pub use Rattle.sums.proofs.BesideTheBook.{beside_the_book, with_row_tells}
-- the numbers that were derived of a book's L, n and D are its own
pub use Rattle.sums.proofs.Judging.{shape_of_book}
-- adding counts one after the other with a row: none, one before others, and in parts; and that a book stays one, with its numbers and its mark
pub use Rattle.sums.proofs.PartByPart.{row_none, row_more, row_apart, Stays, still_a_book}
-- a group that no block has finished has the entry 0, of a book that was opened with its row
pub use Rattle.sums.proofs.UnfinishedGroups.{Unfinished, unfinished_fresh, unfinished_all}
-- what a call of the ring, an opening or a run has returned where its row says that it is taken
pub use Rattle.sums.proofs.Answered.{ring_ok, oldest_read, done_ok, updated_ok, run_ok, same_ok}
-- asking 18 with a book's numbers at hand: it comes behind the earlier faults, and where it is not given the row has room
pub use Rattle.sums.proofs.Judging.{row_next, entries_are, row_has_room}
