-- `score::compare::far_under_byte`: of eight it is told at once, and of fewer a turn counts one bit more.
-- Assumes nothing.
use Rattle.std.proofs.Common.{◌≡◌, ◌+◌, ◌≤◌, sym, ap, ◌∙◌, arith}
use native.Mathlib.Nat.{le_trans, mul-le-mul_right}
use Rattle.score.specs.Changed.{counted}
use Rattle.score.proofs.Counts.{one_at_most, counted_none, counted_next, counted_le}
use Rattle.score.proofs.Near.{test}
use Rattle.score.proofs.compare.far_under_byte.Goals as goal

pub returns-then-columns-eq8 : goal.returns-then-columns-eq8
returns-then-columns-eq8 g c = let a = c.args in
    c.far_under_eight.ensures
    ∙ ap (counted (test g.P.Pixel.bytes (g.P.Pixel.number a.threshold) a.first.now a.second.now a.byte a.at)) (sym c.if-columns-eq8.true)

pub loop-bit-init : goal.loop-bit-init
loop-bit-init g c = let a = c.args in
    sym (counted_none (test g.P.Pixel.bytes (g.P.Pixel.number a.threshold) a.first.now a.second.now a.byte a.at))

pub far_at_bit-far-requires : goal.far_at_bit-far-requires
far_at_bit-far-requires g c =
    let next : c.args.at + c.loop-bit.bit + 1 ≤ c.args.at + c.args.columns = omega arith in
    record {
      table = c.requires.table;
      in_byte = omega (arith, c.requires.in_byte);
      first_has = le_trans (mul-le-mul_right g.P.Pixel.bytes next) c.requires.first_has;
      second_has = le_trans (mul-le-mul_right g.P.Pixel.bytes next) c.requires.second_has;
      few = c.requires.few;
    }

pub overflow_add-count : goal.overflow_add-count
overflow_add-count g c = let a = c.args in
    let tests = test g.P.Pixel.bytes (g.P.Pixel.number a.threshold) a.first.now a.second.now a.byte a.at in
    let l = c.loop-bit in
    omega (arith, c.far_at_bit-far.ensures, one_at_most (tests l.bit), l.invariant, counted_le tests l.bit)

pub loop-bit-preserved : goal.loop-bit-preserved
loop-bit-preserved g c = let a = c.args in
    let tests = test g.P.Pixel.bytes (g.P.Pixel.number a.threshold) a.first.now a.second.now a.byte a.at in
    counted_next tests c.loop-bit.bit c.loop-bit.invariant c.far_at_bit-far.ensures

pub returns : goal.returns
returns g c = let a = c.args in
    let all : c.loop-bit.bit ≡ c.args.columns = omega arith in
    c.loop-bit.invariant ∙ ap (counted (test g.P.Pixel.bytes (g.P.Pixel.number a.threshold) a.first.now a.second.now a.byte a.at)) all
