-- `image::bytes::next`: behind a comment the same bytes are ahead.
-- Assumes nothing.
use Rattle.std.proofs.Common.{◌-◌, ◌≡◌}
use Rattle.image.specs.Seen.{ahead}
use Rattle.image.proofs.bytes.next.Given as goal

abbrev pub invariant-loop-at : goal.invariant-loop-at
invariant-loop-at l = ahead l.s l.at ≡ ahead l.s l.used

abbrev pub decreases-loop-at : goal.decreases-loop-at
decreases-loop-at l = l.end - l.at
