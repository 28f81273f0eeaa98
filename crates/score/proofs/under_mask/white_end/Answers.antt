-- `score::under_mask::white_end`: a turn passes one white byte more.
-- Assumes nothing.
use Rattle.std.proofs.Common.{◌≡◌, length, arith}
use mathlib.Core.Path.{subst}
use Rattle.score.specs.Rows.{WhiteBytes}
use Rattle.score.proofs.BlackBits.{white_more}
use Rattle.score.proofs.under_mask.white_end.Goals as goal

pub loop-at-init : goal.loop-at-init
loop-at-init c = λ byte low high. absurd (omega arith)

pub loop-at-preserved : goal.loop-at-preserved
loop-at-preserved c = white_more c.args.row.now c.args.from c.loop-at.at c.loop-at.invariant c.if-row-at-ne-WHITE.false

pub returns-then-row-at-ne-WHITE : goal.returns-then-row-at-ne-WHITE
returns-then-row-at-ne-WHITE c = (omega arith, omega arith, c.loop-at.invariant)

pub returns : goal.returns
returns c =
    let all : c.loop-at.at ≡ length c.args.row.now = omega arith in
    (c.requires, omega arith, subst (WhiteBytes c.args.row.now c.args.from) all c.loop-at.invariant)
