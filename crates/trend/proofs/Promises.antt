-- THE PROMISES OF THE TREND: all that crates above may cite beside the names of specs/. They look into no definition.
-- Assumes nothing.

-- THE CALL is refused as the total of twice the window is, by 8, 4 and then 5
pub use Rattle.trend.proofs.Trends.{trend_refusal, trend_as_total}
-- it is taken exactly where the record is a book with its ring and twice the window is kept; what it then gives
pub use Rattle.trend.proofs.Trends.{trend_taken, trend_known, trend_gives}
-- a refused one gives its number and 0, and refused or not it leaves the ring
pub use Rattle.trend.proofs.Trends.{trend_hands_back, trend_asks}
-- a window of 0 gives 0, and it does not look at the mark
pub use Rattle.trend.proofs.Trends.{trend_of_none, trend_unmarked}
-- demand 1 and uniqueness of the call
pub use Rattle.trend.proofs.Demand1.{trend_promised, trend_settled, trend_tells, trend_leaves}
-- DIFFERENCES of natural numbers, which compare as the sums across do: below another one, and the same
pub use Rattle.trend.proofs.Differences.{difference_lt, difference_same}
-- said of them in natural numbers: no more above another one than by e; above k; below −k
pub use Rattle.trend.proofs.Differences.{difference_within, difference_above, difference_below}
