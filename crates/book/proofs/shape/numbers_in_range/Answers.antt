-- L and n are passed, and D decides.
use Rattle.std.proofs.Common.{◌≡◌, ◌*◌, true, false, rules}
use Rattle.refusals.specs.First.{outside}
use Rattle.book.specs.Limits.{largest_bound, largest_length}
use Rattle.book.proofs.shape.numbers_in_range.Goals as goal

pub returns-then-not-contains-3 : goal.returns-then-not-contains-3
returns-then-not-contains-3 c =
    let bound : outside 1 largest_bound c.args.bound ≡ false = search rules in
    let length : outside 1 largest_length c.args.length ≡ false = search rules in
    let tolerance : outside 1 (c.args.length * c.args.bound) c.args.tolerance ≡ true = search rules in
    rw (bound, length, tolerance)

pub returns : goal.returns
returns c =
    let bound : outside 1 largest_bound c.args.bound ≡ false = search rules in
    let length : outside 1 largest_length c.args.length ≡ false = search rules in
    let tolerance : outside 1 (c.args.length * c.args.bound) c.args.tolerance ≡ false = search rules in
    rw (bound, length, tolerance)
