-- `score::under_mask::white_end`: every byte that was passed is 0.
-- Assumes nothing.
use Rattle.score.specs.Rows.{WhiteBytes}
use Rattle.score.proofs.under_mask.white_end.Given as goal

abbrev pub invariant-loop-at : goal.invariant-loop-at
invariant-loop-at l = WhiteBytes l.row l.from l.at
