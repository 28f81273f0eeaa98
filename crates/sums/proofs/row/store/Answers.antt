-- `sums::row::store`: where the group's end is right behind the slot the sum is put, and otherwise the row stays.
-- Assumes nothing.
use Rattle.std.proofs.Common.{◌+◌, sym, ◌∙◌, eq-eqb, ne_eqb, rules}
use Rattle.sums.specs.Row.{group_end, sum_from, stored}
use Rattle.sums.specs.Rule.{stored_at}
use Rattle.sums.proofs.row.store.Goals as goal

pub put-requires : goal.put-requires
unfolding sum_from stored_at
put-requires c = search rules

pub returns-then-slot-group_end : goal.returns-then-slot-group_end
unfolding stored
returns-then-slot-group_end c =
    rw (eq-eqb (c.args.slot + 1) (group_end c.args.known.shape.slots c.args.slot) (c.if-slot-group_end.true ∙ c.group_end.ensures)) c.put.ensures

pub returns-else-slot-group_end : goal.returns-else-slot-group_end
unfolding stored
returns-else-slot-group_end c =
    rw (ne_eqb (c.args.slot + 1) (group_end c.args.known.shape.slots c.args.slot) (λ e. c.if-slot-group_end.false (e ∙ sym c.group_end.ensures)))
