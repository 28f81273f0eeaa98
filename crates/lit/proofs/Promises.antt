-- THE PROMISES OF LIT FRAMES: all that crates above may cite beside the names of specs/. They look into no definition.
-- Assumes nothing.

-- THE CALLS. Rank is taken exactly where the row is good and i is within it, select where the row is good and there is a k-th lit frame; what they
-- then answer
pub use Rattle.lit.proofs.CallsUndo.{rank_known, rank_answers, select_known, select_answers}
-- rank undoes select, and select undoes rank at a lit frame
pub use Rattle.lit.proofs.CallsUndo.{rank_undoes_select, select_undoes_rank}
-- a coarse call with a step of 0 is refused, and with another one as the fine call is
pub use Rattle.lit.proofs.Asked.{coarse_rank_0, coarse_select_0, coarse_rank_refusal, coarse_select_refusal}
-- the coarse pair keeps to 004's rules …
pub use Rattle.lit.proofs.CoarseCalls.{coarse_rank_in_rule, coarse_select_in_rule}
-- … and with a step of 1 it is the fine pair
pub use Rattle.lit.proofs.CoarseCalls.{coarse_rank_by_1, coarse_select_by_1}
-- bits behind the length do not count
pub use Rattle.lit.proofs.OnlyFramesCount.{rank_by_frames, select_by_frames, coarse_rank_by_frames, coarse_select_by_frames}
-- demand 1 and uniqueness of the calls
pub use Rattle.lit.proofs.Demand1.{rank_promised, select_promised, rank_coarse_promised, select_coarse_promised, in_byte_settled}
pub use Rattle.lit.proofs.Demand1.{rank_settled, select_settled, rank_coarse_settled, select_coarse_settled}
-- RANK AND SELECT over any row of bits: rank goes part by part, grows, and is no more than the place
pub use Rattle.lit.proofs.Ranks.{rank_join, rank_grows, rank_le}
-- each undoes the other on ones
pub use Rattle.lit.proofs.RankAndSelect.{rank_of_select, select_of_rank}
-- at the place of the k-th one a one stands, before it the rank is below k, and a later one has a later place
pub use Rattle.lit.proofs.RankAndSelect.{select_is_lit, select_least, select_grows}
-- where there is no k-th one select is 0, and otherwise a place of the row
pub use Rattle.lit.proofs.Selects.{select_none, select_place}
