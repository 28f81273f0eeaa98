-- THE PROMISES OF MAKING A BOOK COARSER: all that crates above may cite beside the names of specs/. They look into no definition.
-- Assumes nothing.

-- CALLS. It is taken exactly where the record is a book with its ring, D is a multiple of L, m is 2 to 16, m·D is at most n·L and the second ring has
-- room; what it then gives and leaves
pub use Rattle.coarse.proofs.WhenTaken.{coarsen_refusal, coarsen_known, coarsen_taken, coarsen_gives}
-- once 8 and 4 are passed, 19 comes next, whatever the second ring has
pub use Rattle.coarse.proofs.WhenTaken.{not_whole_19, few_times_19, many_times_19}
-- a refusal hands the record back as it came, with 0 bytes, and the second ring as it was lent
pub use Rattle.coarse.proofs.WhenTaken.{coarsen_back}
-- with a row it is the same call with the row beside it
pub use Rattle.coarse.proofs.WhenTaken.{coarsen_beside}
-- WHAT THE DEFINITIONS SAY, as laws. The old quotients: of no block, of one before the newer ones; there are as many as blocks, and none is above 1
pub use Rattle.coarse.proofs.CoarserAsWritten.{quotients_none, quotients_more}
pub use Rattle.coarse.proofs.OldQuotients.{length_quotients, quotients_small}
-- the tally, the coarser record, its ring and its row
pub use Rattle.coarse.proofs.CoarserAsWritten.{tally_is, coarsened_is, coarsened_ring_is, coarsened_row_is}
-- NUMBERS of a book that can be made coarser: the wholly kept blocks lie within what is kept, and there are no more of them than slots
pub use Rattle.coarse.proofs.CoarserIsABook.{whole_blocks_kept, blocks_have_slots}
-- m of its blocks make one of the coarser book
pub use Rattle.coarse.proofs.CoarserIsABook.{block_of_coarser}
-- THE TALLY: fresh it is a book with the cleared ring, and takes every old quotient; it is one with the new ring then
pub use Rattle.coarse.proofs.CoarserIsABook.{fresh_ranges, fresh_room, fresh_usable, old_quotients_small, tally_stays}
-- it has taken, and kept, an item for each block; its phase is below m and at most J, and its closed blocks are no more than its slots
pub use Rattle.coarse.proofs.CoarserIsABook.{tally_counted, tally_kept, tally_phase, tally_blocks}
-- its blocks have m items; slots, width and what is seen in a slot are those of the coarser book
pub use Rattle.coarse.proofs.CoarserIsABook.{tally_block, tally_slots, tally_width, tally_held}
-- THE COARSER BOOK is a book with its ring; and its row is kept and has room
pub use Rattle.coarse.proofs.CoarserIsABook.{coarsened_usable, coarsened_row_lem}
-- AS FRESH: what is given and left is what a fresh book of tolerance m·D comes to with every history that gives the old quotients and R; such histories
-- agree; and there always is one
pub use Rattle.coarse.proofs.AsFresh.{as_fresh, histories_agree, rows_agree}
pub use Rattle.coarse.proofs.AsFreshWithRow.{as_fresh_with_row}
pub use Rattle.coarse.proofs.SomeHistory.{some_history, history_there}
-- its slots, width and bytes are those of the fresh tally; it takes at most 64 entries of a row and 256 bytes; entries that it does not use stay,
-- and those of groups that are not finished are 0
pub use Rattle.coarse.proofs.CoarserNumbers.{new_slots, new_width, new_bytes}
pub use Rattle.coarse.proofs.CoarserSizes.{entries_top, bytes_top}
pub use Rattle.coarse.proofs.RowAfterwards.{coarsen_leaves_rest, coarsen_unfinished_0}
-- demand 1 and uniqueness of both calls
pub use Rattle.coarse.proofs.Demand1.{coarsen_promised, coarsen_row_promised, coarsen_settled, coarsen_row_settled, coarsen_tells, coarsen_row_tells}
