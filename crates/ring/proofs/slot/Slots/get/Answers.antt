-- `ring::slot::Slots::get` meets its contract: the slot is read from four bytes, or from the word of the bytes in which it lies.
-- Assumes nothing.
use Rattle.std.proofs.Common.{◌*◌, sym, arith}
use Rattle.bits.proofs.Promises.{read_word}
use Rattle.ring.specs.Slot.{field}
use Rattle.ring.proofs.slot.Slots.get.Goals as goal

pub returns : goal.returns
unfolding field
returns c =
    let a = c.args in
    let at = c.locate-at.result in
    rw (c.power.ensures, c.load.ensures.word)
    (sym
    (read_word (a.slot * a.self.width) a.self.width at.first at.count at.after
    (record { ends = c.locate-at.ensures.lies.0; starts = c.locate-at.ensures.lies.1 }) a.ring.now (omega arith)))
