-- `score::compare::far_under_eight`: a turn counts one bit more.
-- Assumes nothing.
use Rattle.std.proofs.Common.{◌≡◌, ◌+◌, ◌≤◌, sym, ap, ◌∙◌, arith}
use native.Mathlib.Nat.{le_trans, mul-le-mul_right}
use Rattle.score.specs.Changed.{counted}
use Rattle.score.proofs.Counts.{one_at_most, counted_none, counted_next, counted_le}
use Rattle.score.proofs.Near.{test}
use Rattle.score.proofs.compare.far_under_eight.Goals as goal

pub loop-bit-init : goal.loop-bit-init
loop-bit-init g c = let a = c.args in
    sym (counted_none (test g.P.Pixel.bytes (g.P.Pixel.number a.threshold) a.first.now a.second.now a.byte a.at))

pub far_at_bit-far-requires : goal.far_at_bit-far-requires
far_at_bit-far-requires g c =
    let next : c.args.at + c.loop-bit.bit + 1 ≤ c.args.at + 8 = omega arith in
    record {
      table = c.requires.table;
      in_byte = omega arith;
      first_has = le_trans (mul-le-mul_right g.P.Pixel.bytes next) c.requires.first_has;
      second_has = le_trans (mul-le-mul_right g.P.Pixel.bytes next) c.requires.second_has;
      few = c.requires.few;
    }

pub overflow_add-count : goal.overflow_add-count
overflow_add-count g c = let a = c.args in
    let tests = test g.P.Pixel.bytes (g.P.Pixel.number a.threshold) a.first.now a.second.now a.byte a.at in
    let l = c.loop-bit in
    omega (arith, c.far_at_bit-far.ensures, one_at_most (tests l.bit), l.invariant, counted_le tests l.bit)

pub loop-bit-preserved : goal.loop-bit-preserved
loop-bit-preserved g c = let a = c.args in
    let tests = test g.P.Pixel.bytes (g.P.Pixel.number a.threshold) a.first.now a.second.now a.byte a.at in
    counted_next tests c.loop-bit.bit c.loop-bit.invariant c.far_at_bit-far.ensures

pub returns : goal.returns
returns g c = let a = c.args in
    let all : c.loop-bit.bit ≡ 8 = omega arith in
    c.loop-bit.invariant ∙ ap (counted (test g.P.Pixel.bytes (g.P.Pixel.number a.threshold) a.first.now a.second.now a.byte a.at)) all
