-- `ring::word::Place::store` meets its contract: the stores put the bytes of the word in their places.
-- Assumes nothing.
use Rattle.std.proofs.Common.{◌≡◌, arith}
use Rattle.bits.proofs.Promises.{store_one, store_two, store_three}
use Rattle.ring.proofs.word.Place.store.Goals as goal

pub returns-then-self-eq1 : goal.returns-then-self-eq1
returns-then-self-eq1 c = let a = c.args in rw c.if-self-eq1.true (store_one a.ring.now a.self.first a.word (omega arith))

pub returns-then-self-eq2 : goal.returns-then-self-eq2
returns-then-self-eq2 c = let a = c.args in rw c.if-self-eq2.true (store_two a.ring.now a.self.first a.word (omega arith))

pub returns : goal.returns
returns c =
    let a = c.args in
    let three : a.self.count ≡ 3 = omega arith in
    rw three (store_three a.ring.now a.self.first a.word (omega arith))
