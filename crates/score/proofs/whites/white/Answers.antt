-- `score::whites::white`: the place that is read is the bit's own in its half.
-- Assumes nothing.
use Rattle.std.proofs.Common.{◌+◌, ◌*◌, ◌-◌, length, ap, ◌∙◌, arith}
use lib.ListN.{get_or}
use Rattle.score.proofs.BlackBits.{whites_size, white_first, white_second}
use Rattle.score.proofs.whites.white.Goals as goal

pub bounds-whites-half : goal.bounds-whites-half
bounds-whites-half c = omega (arith, c.from-half.ensures, ap length c.requires.0, whites_size)

pub returns-then-bit-lt4 : goal.returns-then-bit-lt4
returns-then-bit-lt4 c = let a = c.args in
    (λ i. get_or (c.requires.0 i) (c.from-half.ensures i * 4 + a.bit) 0) ∙ white_first a.byte a.bit (omega arith) c.if-bit-lt4.true

pub bounds-whites-half-2 : goal.bounds-whites-half-2
bounds-whites-half-2 c = omega (arith, c.from-half-2.ensures, ap length c.requires.0, whites_size)

pub returns : goal.returns
returns c = let a = c.args in
    (λ i. get_or (c.requires.0 i) (c.from-half-2.ensures i * 4 + a.bit - 4) 0)
    ∙ white_second a.byte a.bit (omega arith) c.if-bit-lt4.false c.requires.1
