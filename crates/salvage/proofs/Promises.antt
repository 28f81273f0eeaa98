-- THE PROMISES OF SALVAGE: all that crates above may cite beside the names of specs/. They look into no definition.
-- Assumes nothing.

-- CALLS. Salvage is taken exactly where the record is a book with its ring and the row of slot numbers has room; what it then gives and leaves; 21
-- comes next once 8 and 4 are passed
pub use Rattle.salvage.proofs.WhenTaken.{salvage_known, salvage_taken, salvage_gives, numbers_21}
-- with a row of running sums the same, where that row has room too; 18 comes last
pub use Rattle.salvage.proofs.WhenTaken.{salvage_row_known, salvage_row_taken, salvage_row_gives, row_18}
-- a refusal hands the record back as it came, and leaves the ring, and with a row ring and row
pub use Rattle.salvage.proofs.TheCalls.{salvage_refused, salvage_row_refused}
-- THE ALTERED SLOTS are no more than there are slots; u is the place of the newest, 0 for none, and the last number in the list is that slot's
pub use Rattle.salvage.proofs.AlteredSlots.{altered_few, how_new_high, how_new_is, how_new_none, none_is_none, last_is_newest}
-- each altered slot stands in the list once, and no other slot does
pub use Rattle.salvage.proofs.AlteredSlots.{listed_once}
-- WHAT CANNOT BE SEEN: no slot is altered where a slot can hold no more than z, as where D is at least L
pub use Rattle.salvage.proofs.AlteredSlots.{nothing_above, nothing_seen}
-- THE RING AND THE RECORD that salvage leaves: no slot of it would be altered, and they are a book with its ring; where no slot is altered, the
-- record stays, and the ring but for the bits after the last slot
pub use Rattle.salvage.proofs.EachField.{salvaged_is, kept_whole, kept_short, ring_mended, none_then, salvaged_usable, none_altered_leaves}
-- THE ROW that it rebuilds is kept, wherever head stands; each entry; and what is not used of it stays
pub use Rattle.salvage.proofs.RowFromFields.{entry_is, rebuilt_rest, rebuilt_kept}
-- A SECOND RUN alters nothing
pub use Rattle.salvage.proofs.SecondRun.{second_run, second_run_row}
-- demand 1 and uniqueness of both calls
pub use Rattle.salvage.proofs.Demand1.{salvage_promised, salvage_row_promised, salvage_settled, salvage_row_settled, salvage_tells, salvage_row_tells}
