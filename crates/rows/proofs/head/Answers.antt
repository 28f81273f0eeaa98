-- `rows::head`: too short a buffer stays as it is, and any other takes the line at its start.
-- Assumes nothing.
use Rattle.std.proofs.Common.{refl, arith, rules}
use Rattle.rows.specs.Row.{head_text}
use Rattle.rows.proofs.Writing.{line_refused, line_written}
use Rattle.rows.proofs.head.Goals as goal

pub returns-then-out-lt-LINE_MOST-clause-told : goal.returns-then-out-lt-LINE_MOST-clause-told
returns-then-out-lt-LINE_MOST-clause-told c = line_refused c.args.out.now head_text (omega arith)

pub returns-clause-told : goal.returns-clause-told
unfolding head_text
returns-clause-told c = line_written c.args.out.now head_text c.if-out-lt-LINE_MOST.false refl refl c.text.ensures (search rules)
