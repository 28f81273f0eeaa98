-- The carry of a sound book is less than twice D.
use native.Mathlib.Nat.{div-eq_of_lt-le}
use Rattle.std.proofs.Common.{sym, arith}
use Rattle.book.proofs.StepsInRange.{carry_low}
use Rattle.book.proofs.known.Known.open_quotient.Goals as goal

pub returns-else-self : goal.returns-else-self
returns-else-self c =
    sym (div-eq_of_lt-le {k = 1} c.args.self.book.tolerance (omega arith) (omega (arith, carry_low c.args.self.book c.args.self.sound)))
