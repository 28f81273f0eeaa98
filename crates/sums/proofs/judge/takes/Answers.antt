-- `sums::judge::takes`: where no count is found above L, none is.
-- Assumes nothing.
use Rattle.std.proofs.Common.{length, sym, arith}
use Rattle.sums.proofs.RunTurns.{none_passed}
use Rattle.sums.proofs.judge.takes.Goals as goal

pub returns : goal.returns
returns c =
    (c.if-book-ne0.false, sym (none_passed c.args.book.bound c.args.counts.now (length c.args.counts.now) (omega arith) c.in_default.ensures))
