-- `bits::ones::of_singles`: the law of one byte more.
use Rattle.std.proofs.Common.{suc, take, [], arith, length-take, add-one}
use Rattle.bits.proofs.CountingOnes.{bytes_le, byte_more}
use Rattle.bits.proofs.ones.of_singles.Goals as goal

pub loop-byte-init : goal.loop-byte-init
loop-byte-init c = omega (arith, bytes_le [])

pub overflow_add-sum : goal.overflow_add-sum
overflow_add-sum c = let row = c.args.bytes.now in
    let i = c.loop-byte.byte-index in
    omega (arith, byte_more row (λ k. (c.type_inv.bytes k).fits) i c.loop-byte-test.true, bytes_le (take (suc i) row), length-take (suc i) row, c.requires)

pub loop-byte-preserved : goal.loop-byte-preserved
loop-byte-preserved c = let row = c.args.bytes.now in
    let i = c.loop-byte.byte-index in
    rw (add-one i) (omega (arith, byte_more row (λ k. (c.type_inv.bytes k).fits) i c.loop-byte-test.true, c.loop-byte.invariant))
