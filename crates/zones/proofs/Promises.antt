-- THE PROMISES OF ZONES: what crates above may cite beside the names of specs/.
-- Assumes nothing.

-- CALLS. Each is taken exactly where the zones are sound, the counts or the zone's number fit, and each zone with a count takes it; what it then
-- gives and leaves; otherwise all is as it came
pub use Rattle.zones.proofs.WhenTaken.{one_known, one_taken, one_gives, one_cases, all_known, all_taken, all_gives, all_cases}
-- the zone that comes with 8, 17 and 7 is the lowest that has it, with 17 and 7 of those that have a count; with every other number it is 0
pub use Rattle.zones.proofs.LowestZone.{all_8, all_17_or_7, all_none, one_8, one_17_or_7, one_none}
-- ONE ZONE: every other zone has the record and the stretch that it had, nothing comes or goes, all behind the stretches stays; its own is what the
-- book's own call makes of it
pub use Rattle.zones.proofs.OneZoneAlone.{others_stay, as_many, starts_stay, rest_stays, own_zone}
-- where the last stretch is whole, all are lent; a book takes a byte at least
pub use Rattle.zones.proofs.OneZone.{all_lent}
pub use Rattle.zones.proofs.BytesOfABook.{some_bytes}
-- ALL ZONES: each is what its book's own call makes of it …
pub use Rattle.zones.proofs.EachZone.{each_zone, as_many_in_all, rest_stays_in_all}
-- … and it is adding to one zone after the other, in any order, there and back
pub use Rattle.zones.proofs.AnyOrder.{in_any_order, one_end, any_order_back}
-- demand 1 and uniqueness of both calls, for the statements that the functions have
pub use Rattle.zones.proofs.Demand1.{all_says, one_says, all_tells, one_tells, add_all_promised, add_one_promised, add_all_settled, add_one_settled}
