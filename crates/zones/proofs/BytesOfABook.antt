-- The bytes of a record that is a book: at least one, and not many, since the largest ring has 4,096 slots of 16 bits.
-- Assumes nothing.
use Prim.Native.Nat.{ℕ, suc, ◌*◌, ◌≤◌, ◌<◌}
use native.Mathlib.Nat.{mul-le-mul, le_refl}
use native.Mathlib.Omega.{arith}
use mathlib.Core.List.{List, [], ◌∷◌}
use lib.ListN.{length}
use Rattle.ring.proofs.Promises.{bytes_are}
use Rattle.book.specs.declared.Book.{Book}
use Rattle.book.specs.Record.{slots_of, width_of, bytes_of}
use Rattle.book.specs.Sound.{Sound}
use Rattle.book.proofs.Promises.{bytes_needed_lem, book_lent}
use Rattle.zones.specs.Stretches.{zone_at, stretch_start, all_bytes}
use Rattle.zones.proofs.StartsInOrder.{start_within}

module _ (book : Book) (sound : Sound book) where
  -- they are few
  pub few_bytes : bytes_of book ≤ 8192
  few_bytes =
      let lent = book_lent book.bound book.length book.tolerance (bytes_of book) sound.ranges (le_refl (bytes_of book)) in
      let most : slots_of book * width_of book ≤ 4096 * 16 = mul-le-mul lent.slots_high lent.width_high in
      omega (arith, most, bytes_needed_lem book.bound book.length book.tolerance, bytes_are (width_of book) (slots_of book))

  -- and not none: one slot of one bit at the least
  pub some_bytes : 1 ≤ bytes_of book
  some_bytes =
      let lent = book_lent book.bound book.length book.tolerance (bytes_of book) sound.ranges (le_refl (bytes_of book)) in
      let least : 1 * 1 ≤ slots_of book * width_of book = mul-le-mul {n₁ = 1} {m₁ = 1} lent.slots_low lent.width_low in
      omega (arith, least, bytes_needed_lem book.bound book.length book.tolerance, bytes_are (width_of book) (slots_of book))

-- so all zones take few bytes for each
all_small : (zones : List Book) → ((k : ℕ) → k < length zones → Sound (zone_at zones k)) → all_bytes zones ≤ length zones * 8192
unfolding stretch_start
all_small [] sound = omega arith
all_small (book ∷ zones) sound =
    omega (arith, few_bytes book (sound 0 (omega arith)), all_small zones (λ k there. sound (suc k) (omega arith)))

-- and every stretch starts among the first of them
pub start_small : (zones : List Book) → ((k : ℕ) → k < length zones → Sound (zone_at zones k)) → (k : ℕ) → stretch_start zones k ≤ length zones * 8192
start_small zones sound k = omega (arith, start_within zones k, all_small zones sound)
