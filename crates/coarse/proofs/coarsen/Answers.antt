-- `coarse::coarsen`: it is the call with a row, of which nothing is seen.
-- Assumes nothing.
use Rattle.std.proofs.Common.{ℕ, replicate, ◌∙◌}
use Rattle.std.proofs.Math.ListN.{length-replicate}
use Rattle.coarse.proofs.RowLetGo.{row_let_go}
use Rattle.coarse.proofs.coarsen.Goals as goal

pub returns : goal.returns
returns c =
    let a = c.args in
    let same = row_let_go a.book a.ring.now a.times a.second.now (replicate 64 0) (length-replicate {A = ℕ} 64 0) in
    (c.coarsen_row.ensures.0 ∙ same.0, c.coarsen_row.ensures.1 ∙ same.1)
