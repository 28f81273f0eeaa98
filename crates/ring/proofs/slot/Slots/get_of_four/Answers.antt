-- `ring::slot::Slots::get_of_four` meets its contract: the slot ends within 32 bits from its first byte on.
-- Assumes nothing.
use Rattle.std.proofs.Common.{◌-◌, ◌*◌, ◌/◌, ◌%◌, sym, arith}
use Rattle.bits.proofs.Promises.{read_word}
use Rattle.ring.specs.Slot.{field}
use Rattle.ring.proofs.slot.Slots.get_of_four.Goals as goal

pub returns : goal.returns
unfolding field
returns c =
    let a = c.args in
    let from = a.slot * a.self.width in
    rw (c.power.ensures, c.load_four.ensures)
    (sym
    (read_word from a.self.width (from / 8) 4 (32 - a.self.width - from % 8) (record { ends = omega arith; starts = omega arith }) a.ring.now
    (omega arith)))
