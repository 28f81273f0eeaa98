-- `ring::slot::Slots::put` meets its contract: the slot is written through the word of the bytes in which it lies.
-- Assumes nothing.
use Rattle.std.proofs.Common.{ℕ, ◌*◌, sym, ap, ◌∙◌, arith}
use Rattle.bits.proofs.Promises.{patched, stored, word_lt, write_word}
use Rattle.ring.specs.Slot.{written}
use Rattle.ring.proofs.slot.Slots.put.Goals as goal

pub patch-new-requires : goal.patch-new-requires
patch-new-requires c =
    let at = c.locate-at.result in
    (rw c.load-old.ensures.word (word_lt c.args.ring.now at.first at.count (omega arith)), omega arith, omega arith)

pub returns : goal.returns
unfolding written
returns c =
    let a = c.args in
    let at = c.locate-at.result in
    let word = c.patch-new.ensures ∙ ap (λ (old : ℕ). patched old a.self.width at.after a.value) c.load-old.ensures.word in
    c.store.ensures
    ∙ ap (λ (new : ℕ). stored a.ring.now at.first new at.count) word
    ∙ sym
    (write_word (a.slot * a.self.width) a.self.width at.first at.count at.after
    (record { ends = c.locate-at.ensures.lies.0; starts = c.locate-at.ensures.lies.1 }) a.ring.now (omega arith) c.load-old.ensures.bytes a.value
    (omega arith))
