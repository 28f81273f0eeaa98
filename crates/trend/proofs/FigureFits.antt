-- How large a figure gets: below 2^56 for every record and ring that pass 8 and 4 and every window up to kept, so that twice a figure is far
-- from 2^63.
-- Assumes nothing.
use Prim.Native.Nat.{ℕ, ◌^◌, ◌≤◌, ◌<◌}
use native.Mathlib.Omega.{arith}
use mathlib.Core.List.{List}
use mathlib.Core.Logic.{◌⊎◌, inl, inr}
use lib.ListN.{length}
use Rattle.book.specs.declared.Book.{Book}
use Rattle.book.specs.Sound.{Usable}
use Rattle.book.specs.Figure.{reckoned, figure}
use Rattle.book.proofs.Promises.{by_open, by_slots, reckoned_is, for_high, sum_top, times_top, carry_top, le_or_lt}

module _ (book : Book) (ring : List ℕ) (usable : Usable book (length ring)) where
  -- R is below 2^29, D below 2^28, and so is the sum of all slots
  reckoned_small : (sum e g : ℕ) → sum ≤ 268431360 → reckoned book sum e g < 2 ^ 56
  reckoned_small sum e g h =
      rw (reckoned_is book sum e g) (omega (arith, carry_top book usable.sound, times_top book usable.sound sum 268431360 h))

  pub figure_small : (window : ℕ) → window ≤ book.kept → figure book ring window < 2 ^ 56
  figure_small window kept = by (le_or_lt window book.phase)
    where
      by : (window ≤ book.phase) ⊎ (book.phase < window) → figure book ring window < 2 ^ 56
      by (inl inside) = rw (by_open book _ _ window inside) (reckoned_small _ _ _ (omega arith))
      by (inr beyond) =
          rw (by_slots book _ _ window beyond) (reckoned_small _ _ _ (sum_top book ring usable.sound _ (for_high book usable.sound window beyond kept)))
