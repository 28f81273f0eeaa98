-- `sums::running::items_left`: head's group ends behind head, by 32 blocks at the most, and the open block lies within them.
-- Assumes nothing.
use Rattle.std.proofs.Common.{arith}
use Rattle.sums.proofs.RunTurns.{end_ahead, span_top, span_low, span_left}
use Rattle.sums.proofs.running.items_left.Goals as goal

pub overflow_sub-result : goal.overflow_sub-result
overflow_sub-result c = omega (arith, end_ahead c.args.known.sound c.args.known.derived c.group_end.ensures)

pub overflow_mul-result : goal.overflow_mul-result
overflow_mul-result c = omega (arith, span_top c.args.known.sound c.args.known.derived c.group_end.ensures)

pub overflow_sub-result-2 : goal.overflow_sub-result-2
overflow_sub-result-2 c = span_low c.args.known.sound c.args.known.derived c.group_end.ensures

pub returns : goal.returns
returns c = span_left c.args.known.sound c.args.known.derived c.group_end.ensures
