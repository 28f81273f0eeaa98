-- `sums::totals::reckon`: no step wraps, whatever numbers the row holds.
-- Assumes nothing.
use Rattle.std.proofs.Common.{arith}
use Rattle.book.proofs.Promises.{reckoned_is}
use Rattle.sums.proofs.totals.reckon.Goals as goal

pub returns : goal.returns
returns c =
    omega (arith, reckoned_is c.args.known.book c.args.sum c.args.e c.args.g, c.saturating_sub.ensures, c.args.known.sound.ranges.tolerance_low)
