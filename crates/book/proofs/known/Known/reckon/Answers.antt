-- No step wraps, and where less is taken off than there is the difference is exact.
use Rattle.std.proofs.Common.{ℕ, ◌+◌, ◌*◌, ◌≤◌, mul-le-mul, arith}
use Rattle.book.specs.declared.Book.{Book}
use Rattle.book.specs.Figure.{reckoned}
use Rattle.book.specs.Sound.{Sound}
use Rattle.book.proofs.StepsInRange.{carry_top, times_top}
use Rattle.book.proofs.known.Known.reckon.Goals as goal

-- R + D·sum and (D − 1) + e·L·g are far from 2^64
module _ (book : Book) (sound : Sound book) where
  whole_top : {sum : ℕ} → sum ≤ 536870912 → book.carry + book.tolerance * sum ≤ 536862720 + 268431360 * 536870912
  whole_top {sum} h = omega (arith, carry_top book sound, times_top book sound sum 536870912 h)

  less_top : (e : ℕ) {g : ℕ} → e * book.bound ≤ 268435456 → g ≤ 1073741824
      → book.tolerance + e * book.bound * g ≤ 268431360 + 268435456 * 1073741824
  less_top e h k = omega (arith, times_top book sound 1 1 (omega arith), mul-le-mul {n₂ = 268435456} {m₂ = 1073741824} h k)

pub returns : goal.returns
unfolding reckoned
returns c = omega (arith, c.saturating_sub.ensures)
