-- `ring::judge::too_large` meets its contract: no value of 64 bits is too large for 64 bits or more.
-- Assumes nothing.
use Rattle.std.proofs.Common.{◌^◌, ◌<◌, arith}
use Rattle.std.proofs.Math.Pow.{pow_mono}
use borrow.Author.Tests.{lt-leb, le-ltb}
use Rattle.ring.proofs.judge.too_large.Goals as goal

pub returns-else-width-lt64 : goal.returns-else-width-lt64
returns-else-width-lt64 c =
    let a = c.args in
    let fits : a.value < 2 ^ a.width = omega (arith, pow_mono {i = 64} {j = a.width} (omega arith)) in
    rw (lt-leb (2 ^ a.width) a.value fits, le-ltb a.width 64 c.if-width-lt64.false)
