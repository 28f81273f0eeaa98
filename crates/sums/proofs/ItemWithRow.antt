-- An item with a row, as the code adds it: the block has closed exactly where the new phase is 0, and then slot head was written.
-- Assumes nothing.
use Prim.Native.Nat.{ℕ, ◌+◌, ◌≤◌}
use native.Mathlib.Omega.{arith}
use mathlib.Core.List.{List, []}
use mathlib.Core.Path.{◌≡◌, refl}
use borrow.Author.Tests.{eq-eqb, ne_eqb}
use lib.ListN.{length}
use Rattle.book.specs.declared.Book.{Book}
use Rattle.book.specs.Record.{block_of, slots_of, held_in}
use Rattle.book.specs.Sound.{Usable}
use Rattle.book.specs.Adding.{added, added_ring}
use Rattle.book.proofs.Promises.{adding_cases, added_same, added_usable}
use Rattle.sums.specs.Row.{stored, added_row}

module _ (book : Book) (item : ℕ) where
  pub closed_by_phase : (added book item).phase ≡ 0 → book.phase + 1 ≡ block_of book
  closed_by_phase =
      adding_cases (λ b r. b.phase ≡ 0 → book.phase + 1 ≡ block_of book) book [] item (λ closes e. closes) (λ more e. absurd (omega arith))

  pub open_by_phase : ((added book item).phase ≡ 0 → ⊥) → book.phase + 1 ≡ block_of book → ⊥
  open_by_phase =
      adding_cases (λ b r. (b.phase ≡ 0 → ⊥) → book.phase + 1 ≡ block_of book → ⊥) book [] item (λ closes ne e. ne refl) (λ more ne e. more e)

  module _ (ring row : List ℕ) where
    -- where it has, the row is as storing leaves it, and otherwise as it was
    pub row_stored : book.phase + 1 ≡ block_of book
        → stored (slots_of book) (held_in book (added_ring book ring item)) row book.head ≡ added_row book ring row item
    unfolding added_row
    row_stored closes = rw (eq-eqb (book.phase + 1) (block_of book) closes)

    pub row_stays : (book.phase + 1 ≡ block_of book → ⊥) → row ≡ added_row book ring row item
    unfolding added_row
    row_stays more = rw (ne_eqb (book.phase + 1) (block_of book) more)

  -- the ring is lent whole still
  pub usable_after : (ring : List ℕ) → Usable book (length ring) → item ≤ book.bound → Usable book (length (added_ring book ring item))
  usable_after ring usable small =
      let same = added_same book item in
      record {
        sound = usable.sound;
        room = rw (same.bound_same, same.length_same, same.tolerance_same) at (added_usable book ring item usable small).room;
      }
