-- `image::fields::first_digit`: what is ahead, white bytes passed over, stays the same from turn to turn.
-- Assumes nothing.
use Rattle.std.proofs.Common.{◌≡◌, length}
use Rattle.image.specs.Seen.{ahead}
use Rattle.image.specs.Fields.{after_white}
use Rattle.image.proofs.fields.first_digit.Given as goal

abbrev pub invariant-loop-took : goal.invariant-loop-took
invariant-loop-took l = after_white (ahead l.s l.at) ≡ after_white (ahead l.s l.used)

abbrev pub decreases-loop-took : goal.decreases-loop-took
decreases-loop-took l = length (ahead l.s l.at)
