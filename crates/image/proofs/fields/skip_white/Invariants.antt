-- `image::fields::skip_white`: what is ahead, white bytes passed over, stays the same from byte to byte.
-- Assumes nothing.
use Rattle.std.proofs.Common.{◌≡◌, ◌≤◌, length}
use Rattle.image.specs.Seen.{ahead}
use Rattle.image.specs.Fields.{after_white}
use Rattle.image.proofs.fields.skip_white.Given as goal

abbrev pub invariant-loop-at : goal.invariant-loop-at
invariant-loop-at l =
    record {
      run : after_white (ahead l.s l.at) ≡ after_white (ahead l.s l.used);
      fewer : length (ahead l.s l.at) ≤ length (ahead l.s l.used);
    }
