-- A number that is 0 where there is none, as an option. A device of the code: the contracts of private functions cite it, and no reader needs it.
use Rattle.std.specs.Prelude.{ℕ, zero, suc, Option, Some, None}

abbrev pub unless_0 : ℕ → Option ℕ
unless_0 zero = None
unless_0 (suc number) = Some (suc number)
