-- After each turn one block more is behind, and none of them reached the amount at its end.
use Rattle.std.proofs.Common.{arith}
use Rattle.book.proofs.Ready.{ready}
use Rattle.book.proofs.WalkTurns.{walking_start, behind_top, slot_in, next_in, total_top, walking_step}
use Rattle.book.proofs.known.Known.walk.Goals as goal

pub loop-behind-init : goal.loop-behind-init
loop-behind-init c = walking_start c.args.ring.now c.args.amount (ready c.args.self c.requires) c.open_quotient-quotient.ensures

pub before-slot-requires : goal.before-slot-requires
before-slot-requires c = slot_in c.loop-behind.invariant

pub get-quotient-requires : goal.get-quotient-requires
get-quotient-requires c = (c.requires, next_in c.loop-behind.invariant c.before-slot.ensures)

pub overflow_mul-total : goal.overflow_mul-total
overflow_mul-total c = omega (arith, total_top c.loop-behind.invariant c.before-slot.ensures c.get-quotient.ensures)

pub overflow_add-total : goal.overflow_add-total
overflow_add-total c = omega (arith, total_top c.loop-behind.invariant c.before-slot.ensures c.get-quotient.ensures)

pub overflow_add-behind : goal.overflow_add-behind
overflow_add-behind c = omega (arith, behind_top c.loop-behind.invariant c.loop-behind-test.true)

pub loop-behind-preserved : goal.loop-behind-preserved
loop-behind-preserved c =
    walking_step c.loop-behind.invariant c.before-slot.ensures c.get-quotient.ensures c.loop-behind-test.true c.end_figure.ensures
    c.if-end_figure-amount.true
