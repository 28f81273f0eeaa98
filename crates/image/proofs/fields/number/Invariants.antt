-- `image::fields::number`: what the digits ahead make of the number stays the same from turn to turn.
-- Assumes nothing.
use Rattle.std.proofs.Common.{◌≡◌, ◌≤◌, length}
use Rattle.image.specs.Tests.{up_to}
use Rattle.image.specs.Seen.{ahead, end_of}
use Rattle.image.specs.Fields.{more_digits, number_field}
use Rattle.image.specs.Told.{above_ranges}
use Rattle.image.proofs.fields.number.Given as goal

abbrev pub invariant-loop-took : goal.invariant-loop-took
invariant-loop-took l =
    record {
      small : l.value ≤ above_ranges;
      same : more_digits (end_of l.s) (up_to l.top) l.value (ahead l.s l.at) ≡ number_field (end_of l.s) (up_to l.top) (ahead l.s l.used);
    }

abbrev pub decreases-loop-took : goal.decreases-loop-took
decreases-loop-took l = length (ahead l.s l.at)
