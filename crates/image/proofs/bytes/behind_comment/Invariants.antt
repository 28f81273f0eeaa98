-- `image::bytes::behind_comment`: what is seen behind the comment stays the same from byte to byte.
-- Assumes nothing.
use Rattle.std.proofs.Common.{◌≡◌}
use Rattle.image.specs.Told.{ahead_in_comment}
use Rattle.image.proofs.bytes.behind_comment.Given as goal

abbrev pub invariant-loop-at : goal.invariant-loop-at
invariant-loop-at l = ahead_in_comment l.s l.at ≡ ahead_in_comment l.s l.used
