-- `sums::rule::read_newest`: the two runs are those of the rule, whatever the row holds.
-- Assumes nothing.
use Rattle.std.proofs.Common.{rules}
use Rattle.sums.specs.Rule.{fields_read, sums_read, sum_by_row}
use Rattle.sums.proofs.rule.read_newest.Goals as goal

pub returns-clause-value : goal.returns-clause-value
unfolding sum_by_row
returns-clause-value c = search rules

pub returns-clause-counts : goal.returns-clause-counts
unfolding fields_read sums_read
returns-clause-counts c = search rules
