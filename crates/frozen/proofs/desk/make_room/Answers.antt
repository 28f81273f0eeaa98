-- `frozen::desk::make_room` moves the bytes, or nothing where there is room.
-- Assumes nothing.
use Rattle.std.proofs.Common.{refl}
use borrow.Author.Tests.{lt-ltb, le-ltb}
use Rattle.frozen.specs.Desk.{roomed_desk, roomed_bytes}
use Rattle.frozen.proofs.desk.make_room.Goals as goal

pub returns-then-desk-lt-MOVE_AT : goal.returns-then-desk-lt-MOVE_AT
unfolding roomed_desk roomed_bytes
returns-then-desk-lt-MOVE_AT c = rw (lt-ltb c.args.desk.end 200000 c.if-desk-lt-MOVE_AT.true) (refl, refl)

pub returns : goal.returns
unfolding roomed_desk roomed_bytes
returns c = rw (le-ltb c.args.desk.end 200000 c.if-desk-lt-MOVE_AT.false) (refl, c.copy_within.ensures.after)
