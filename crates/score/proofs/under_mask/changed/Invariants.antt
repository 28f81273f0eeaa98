-- `score::under_mask::changed`: before each row the count is that of the positions before it.
-- Assumes nothing.
use Rattle.std.proofs.Common.{◌≡◌, ◌*◌}
use Rattle.score.specs.Changed.{counted}
use Rattle.score.specs.Near.{moved_in}
use Rattle.score.specs.Black.{black_at}
use Rattle.score.specs.Masked.{unmasked}
use Rattle.score.proofs.under_mask.changed.Given as goal

abbrev pub invariant-loop-row : goal.invariant-loop-row
invariant-loop-row l =
    l.count ≡ counted (unmasked (black_at l.width l.mask) (moved_in l.allowance l.maxval l.first l.second)) (l.row * l.width)
