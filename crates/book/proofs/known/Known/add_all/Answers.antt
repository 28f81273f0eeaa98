-- After each turn one block more is closed, and the counts that are left come to the rest.
use Rattle.std.proofs.Common.{refl}
use Rattle.book.proofs.StepsInRange.{ready_head}
use Rattle.book.proofs.RunTurns.{room_still, block_fits, quotient_fits, going_step, rest_fits, going_end}
use Rattle.book.proofs.known.Known.add_all.Goals as goal

pub gather-whole-requires : goal.gather-whole-requires
gather-whole-requires c = block_fits c.loop-room.invariant c.loop-room-test.true c.split_at.ensures.front

pub close-closed-requires : goal.close-closed-requires
close-closed-requires c =
    let g = c.loop-room.invariant in
    (room_still g, ready_head g.ready, quotient_fits g c.loop-room-test.true c.split_at.ensures.front c.gather-whole.ensures)

pub loop-room-preserved : goal.loop-room-preserved
loop-room-preserved c =
    going_step c.loop-room.invariant c.loop-room-test.true c.split_at.ensures.front c.gather-whole.ensures c.split_at.ensures.back refl
    c.close-closed.ensures.1 c.close-closed.ensures.0

pub gather-requires : goal.gather-requires
gather-requires c = rest_fits c.loop-room.invariant c.loop-room-test.false

pub returns : goal.returns
returns c = going_end c.loop-room.invariant c.loop-room-test.false c.gather.ensures refl c.min.ensures
