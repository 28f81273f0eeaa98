-- `watch::step`: too short a buffer is refused first; then it decides, and says what it decided.
-- Assumes nothing.
use Rattle.std.proofs.Common.{sym, arith, rules}
use Rattle.watch.proofs.Stepping.{step_refused, step_taken}
use Rattle.watch.proofs.step.Goals as goal

pub returns-then-out-lt-LINE_MOST-clause-told : goal.returns-then-out-lt-LINE_MOST-clause-told
returns-then-out-lt-LINE_MOST-clause-told c = let a = c.args in
    let refused = step_refused a.state a.ring.now a.last.now a.rest.now a.over a.out.now (omega arith) in
    (sym refused.0, sym refused.1)

pub returns-clause-told : goal.returns-clause-told
returns-clause-told c = let a = c.args in
    step_taken a.state a.ring.now a.last.now a.rest.now a.over a.out.now c.if-out-lt-LINE_MOST.false c.decide-turn.ensures (search rules) c.turn-wrote.ensures.told
