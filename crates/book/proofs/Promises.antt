-- THE BOOK'S PROMISES: all that crates above may cite beside the names of specs/. They look into no definition of the book.
-- Assumes nothing.

-- CALLS. Opening is taken exactly where L, n and D are in their ranges and the ring has room; what it then gives and leaves
pub use Rattle.book.proofs.WhenTaken.{open_known, open_taken, open_gives}
-- an item exactly where the record is a book with its ring, is awake, and the item is at most L; what it then gives and leaves
pub use Rattle.book.proofs.WhenTaken.{add_known, add_taken, add_gives}
-- a run exactly where the record is a book with its ring, is awake, and no count is above L; what it then gives and leaves
pub use Rattle.book.proofs.WhenTaken.{run_known, run_taken, run_gives}
-- resting and waking exactly where the record is a book; what it then gives; otherwise 8
pub use Rattle.book.proofs.WhenTaken.{mark_known, mark_taken, mark_gives}
pub use Rattle.book.proofs.DarkHours.{mark_done, mark_8}
-- a total exactly where the window is at most kept; what it then gives
pub use Rattle.book.proofs.WhenTaken.{total_known, total_taken, total_gives}
-- two totals at once exactly where the longer one is; they are the two totals one by one; a refusal gives zeros, and the ring stays
pub use Rattle.book.proofs.TwoTotals.{two_totals_refusal, two_totals_given, two_totals_back, two_totals_asks, two_totals_one_by_one}
-- a verdict exactly where amount and window are not 0 and the window is at most kept; what it then gives; with a longer window it is 5
pub use Rattle.book.proofs.WhenTaken.{verdict_known, verdict_taken, verdict_gives, verdict_long}
-- a refused item or run hands the record back as it came, and a call that only asks leaves the ring
pub use Rattle.book.proofs.ComesBack.{add_back, run_back, total_asks, far_asks, verdict_asks}
-- a run of a book with its ring that is awake, with a count above L, is refused with 7; with 7 comes the place of the first such count,
-- otherwise the place is 0; an empty run of such a book is not refused and changes nothing
pub use Rattle.book.proofs.RunRefused.{run_above, run_7, run_place_0, empty_run}
-- that place says where the first count above L stands; the look finds none exactly where no count is above L
pub use Rattle.book.proofs.LookingAtAll.{place_first, none_above, all_below}
-- DARK HOURS. Opening clears the mark; of two marks the last one counts, so that resting or waking twice is the same as once, and a record
-- whose mark is 0 comes back when it has rested and is woken; adding and runs leave the mark
pub use Rattle.book.proofs.DarkHours.{opening_awake, last_mark, mark_it_has, rest_twice, wake_twice, rest_then_wake, add_leaves_mark, run_leaves_mark}
-- at rest every item and every run is refused with 17, and the verdict is resting with its figure; its own refusals, figures, totals and how far
-- back do not look at the mark
pub use Rattle.book.proofs.DarkHours.{add_at_rest, run_at_rest, verdict_at_rest, verdict_awake, told_in_numbers}
pub use Rattle.book.proofs.NotByTheMark.{figure_unmarked, total_unmarked, two_totals_unmarked, far_unmarked, verdict_refusal_unmarked}
-- a window of 0 answers 0
pub use Rattle.book.proofs.Window0.{window_0, total_of_none}
-- demand 1 and uniqueness of every public call
pub use Rattle.book.proofs.Demand1.{derive_promised, open_promised, add_promised, run_promised, rest_promised, wake_promised, total_promised, two_totals_promised, far_promised, verdict_promised}
-- … of the results themselves; each form in which results are seen is that of one, of a run where with 7 comes a place, as it does
pub use Rattle.book.proofs.OneOutcome.{derive_settled, open_settled, add_settled, run_settled, rest_settled, wake_settled, total_settled, two_totals_settled, far_settled, verdict_settled}
pub use Rattle.book.proofs.OneOutcome.{updated_apart, ran_apart, run_placed}
-- a verdict leaves the ring, and tells its number whatever reads it off the answer
pub use Rattle.book.proofs.Demand1.{derive_tells, open_tells, mark_tells, add_tells, run_tells, total_tells, two_totals_tells, far_tells, verdict_tells}
pub use Rattle.book.proofs.Demand1.{shape_leaves, mark_leaves, total_leaves, two_totals_leaves, far_leaves, verdict_leaves}
-- HOW FAR BACK. There is a smallest window whose figure reaches v, or none; it is named, or 9 is given; there is one at the most
pub use Rattle.book.proofs.HowFarNames.{smallest_or_none, smallest_is_named, none_is_9, smallest_unique}
-- NUMBERS of a book in range: c is 1 to n, a block holds at most D or is one item, the slots cover n, by less than a block too much
pub use Rattle.book.proofs.NumbersInRange.{block_low, block_high, block_holds, slots_low, slots_cover, slots_tight}
-- a slot holds every quotient up to z; where D is at least L, z is 1 and a slot has one bit
pub use Rattle.book.proofs.NumbersInRange.{quotient_fits}
pub use Rattle.book.proofs.ShapeInTwoCases.{one_bit}
-- the ring of a book takes B bytes, and is lent whole
pub use Rattle.book.proofs.StepsInRange.{bytes_needed_lem, book_lent}
-- the slots that a window needs: 1 to s, covering it by less than a block too much
pub use Rattle.book.proofs.StepsInRange.{for_low, for_high, for_covers, for_tight}
-- BLOCKS THAT D FILLS, where it is a multiple of L: a block holds D and a slot has one bit. What the numbers are of a book that counts in units (L is
-- 1), and of one with m times the tolerance: m blocks make one, and slots and bytes are those of a book in units with a place for each old slot
pub use Rattle.book.proofs.WholeBlocks.{whole_block, whole_width, unit_block, unit_width, coarser_ranges, coarser_block, coarser_width, coarser_slots, coarser_bytes_lem, tally_ranges}
-- the box's own setting takes 30 bytes
pub use Rattle.book.proofs.BoxSetting.{box_shape}
-- ADDING in its two cases: the block closes, or it stays open
pub use Rattle.book.proofs.AddingInTwoCases.{adding_cases}
-- a closed block's quotient is at most z and fits its slot
pub use Rattle.book.proofs.StepsInRange.{quotient_le, quotient_in}
-- opening makes a book, and adding keeps it one; what a closed block leaves of the carry is its remainder by D
pub use Rattle.book.proofs.StaysABook.{opened_sound, open_sound, closed_sound, closed_carry}
-- it leaves L, n, D and the mark, and the record passes refusals 8 and 4 with the ring again; and so does one with another mark
pub use Rattle.book.proofs.StaysABook.{SameNumbers, added_same, added_mark, added_usable, marked_sound, marked_usable}
-- HOW MANY ITEMS a book has taken, in closed blocks and the phase, which are quotient and remainder: none, one more, and counts
pub use Rattle.book.proofs.CountedBlocks.{in_blocks, Counted, counted_fresh, counted_more, counted_all}
-- A RUN OF COUNTS that is taken is adding them one by one …
pub use Rattle.book.proofs.RunIsAdding.{run_is_adding}
-- … which comes to one record and one ring alone
pub use Rattle.book.proofs.RunIsAdding.{one_end}
-- … and what a book takes one by one it takes as a run
pub use Rattle.book.proofs.RunIsAdding.{adding_is_run}
-- the slot before the next one is the old one, and the t-th block's slot is t modulo the slots
pub use Rattle.book.proofs.NextSlot.{before_after, slot_after_mod}
-- THE FIGURE by the formula of SCOPE, Total, within the open block and beyond it
pub use Rattle.book.proofs.FigureInTwoCases.{figure_in_open_lem, figure_in_slots_lem}
-- THE VERDICT by its rule: resting is told only of a book that rests, any other verdict goes by the figure, and each carries it
pub use Rattle.book.proofs.VerdictRule.{live_by, frozen_by, resting_by, by_figure, carries_figure}
-- of two numbers one is not above the other
pub use Rattle.book.proofs.RoundedUp.{le_or_lt}
-- FOR CALLS ABOVE that ask a fault more, or sum the slots in another way: what the definitions say, as laws
pub use Rattle.book.proofs.AsWritten.{open_refusal, add_refusal, run_refusal, mark_refusal, total_refusal, open_number, add_number, run_number, mark_number, total_number, shape_cases, open_back, add_hands_back, run_hands_back, total_hands_back, by_open, by_slots, reckoned_is, for_is, rounded_up, all_none, all_more}
-- what the call that derives the numbers tells: its refusal is that of L, n and D, and without one these are in their ranges and the numbers theirs
pub use Rattle.book.proofs.WhenTaken.{shape_refusal, shape_known}
-- a record is a book with its ring exactly where 8 and 4 are passed, and L, n and D are in their ranges where 1, 2 and 3 are; 8 and 4 one by one
pub use Rattle.book.proofs.WhenTaken.{usable_known, usable_passes, ranges_known, ranges_pass, no_record, no_room, book_passes}
-- how large the numbers of a book get
pub use Rattle.book.proofs.StepsInRange.{held_le, sum_top, slots_top, times_top, span_top, carry_top}
-- head moving on, in its two cases
pub use Rattle.book.proofs.NextSlot.{slot_after_cases}
-- counts in parts: adding all is adding those of one part and then those of the other; where none is above L none of a part is, and the other way;
-- and none is where one item is repeated that is not
pub use Rattle.book.proofs.RunInParts.{added_all_apart, added_ring_apart}
pub use Rattle.book.proofs.LookingAtAll.{above_empty, above_cons, above_join, above_append, above_replicate, above_take, above_drop}
-- A BOOK THAT WAS JUDGED, where a ring with its bytes is lent: it is in use, with its numbers. What the judge gives where a refusal is found, and
-- where none is
pub use Rattle.book.proofs.Ready.{ready, judged_number, judged_ready}
-- its ring is lent whole, and its head is a slot
pub use Rattle.book.proofs.StepsInRange.{ready_lent, ready_head}
