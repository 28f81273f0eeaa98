-- The mark is asked first, and then the figure.
use Rattle.std.proofs.Common.{arith}
use Rattle.book.specs.Verdict.{verdict_now}
use Rattle.book.proofs.AwakeOrAtRest.{awake_passes}
use Rattle.book.proofs.VerdictRule.{tells_resting}
use Rattle.book.proofs.known.Known.verdict.Goals as goal

pub returns-then-self-ne-AWAKE : goal.returns-then-self-ne-AWAKE
returns-then-self-ne-AWAKE c = tells_resting c.args.self.book c.args.amount c.args.figure c.if-self-ne-AWAKE.true (omega arith)

pub returns : goal.returns
unfolding verdict_now
returns c = rw (awake_passes c.args.self.book (omega arith)) c.rule.ensures
