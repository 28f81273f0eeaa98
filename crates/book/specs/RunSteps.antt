-- What the steps of a run come to. A device of the code: the contracts of private functions cite it, and no reader needs it.
use Rattle.std.specs.Prelude.{◌≡◌, ℕ, ◌^◌, ◌<◌, false, ◌↔◌, List}
use Rattle.book.specs.RunOfCounts.{any_above}

-- the look at all counts: the top bit is clear exactly where none is above L
abbrev pub Looked : ℕ → List ℕ → ℕ → Type 0
Looked bound counts seen = (seen < 2 ^ 63) ↔ (any_above bound counts ≡ false)
