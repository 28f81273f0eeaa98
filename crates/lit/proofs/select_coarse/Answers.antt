-- `lit::select_coarse`: where there is a k-th lit frame, it is that one or the one behind which the step leads.
use Rattle.lit.proofs.Returned.{coarse_select_exact, coarse_select_behind}
use Rattle.lit.proofs.select_coarse.Goals as goal

pub returns-then-t-k : goal.returns-then-t-k
returns-then-t-k c = let a = c.args in
    coarse_select_exact a.row.now a.count a.step c.if-step-eq0.false a.k c.in_ok-place.place
    (rw (c.in_ok-good.ensures.row, c.in_ok-good.ensures.count) at c.in_ok-place.ensures) c.if-t-k.true

pub returns : goal.returns
returns c = let a = c.args in
    coarse_select_behind a.row.now a.count a.step c.if-step-eq0.false a.k c.in_ok-place.place
    (rw (c.in_ok-good.ensures.row, c.in_ok-good.ensures.count) at c.in_ok-place.ensures) c.if-t-k.false c.behind.result
    (rw (c.in_ok-good.ensures.row, c.in_ok-good.ensures.count) at c.behind.ensures)
