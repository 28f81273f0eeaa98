-- `ring::word::Place::load` meets its contract: a word grows byte by byte.
-- Assumes nothing.
use Rattle.std.proofs.Common.{◌≡◌, sym, arith}
use Rattle.bits.proofs.Promises.{word_one, word_two, word_three}
use Rattle.ring.proofs.word.Place.load.Goals as goal

pub returns-then-self-eq1-clause-word : goal.returns-then-self-eq1-clause-word
returns-then-self-eq1-clause-word c =
    let a = c.args in
    rw (c.if-self-eq1.true, c.from-one.ensures) (sym (word_one a.ring.now (λ i. (c.type_inv.ring i).fits) a.self.first (omega arith)))

pub returns-then-self-eq2-clause-word : goal.returns-then-self-eq2-clause-word
returns-then-self-eq2-clause-word c =
    let a = c.args in
    rw (c.if-self-eq2.true, c.from-one.ensures, c.from.ensures) (sym (word_two a.ring.now (λ i. (c.type_inv.ring i).fits) a.self.first (omega arith)))

pub returns-clause-word : goal.returns-clause-word
returns-clause-word c =
    let a = c.args in
    let three : a.self.count ≡ 3 = omega arith in
    rw (three, c.from-one.ensures, c.from.ensures, c.from-2.ensures) (sym (word_three a.ring.now (λ i. (c.type_inv.ring i).fits) a.self.first (omega arith)))
