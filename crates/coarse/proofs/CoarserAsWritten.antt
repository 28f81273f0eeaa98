-- What the definitions of a coarser book say, as laws: for crates above, which look into no definition.
-- Assumes nothing.
use Prim.Native.Nat.{ℕ, suc, ◌+◌, ◌*◌}
use mathlib.Core.List.{List, [], ◌∷◌}
use mathlib.Core.Path.{◌≡◌, refl}
use Rattle.ring.specs.Newest.{newest}
use Rattle.book.specs.declared.Book.{Book}
use Rattle.book.specs.Record.{block_of, slots_of, held_in}
use Rattle.book.specs.RunOfCounts.{added_all, added_all_ring}
use Rattle.sums.specs.Row.{added_all_row}
use Rattle.coarse.specs.Quotients.{blocks_kept, quotients, old_quotients}
use Rattle.coarse.specs.Coarser.{fresh_tally, fresh_ring, fresh_row, tally, coarsened, coarsened_ring, coarsened_row}

module _ (book : Book) (ring : List ℕ) where
  -- THE OLD QUOTIENTS: of no block, and of one before the newer ones
  pub quotients_none : quotients book ring 0 ≡ []
  unfolding quotients
  quotients_none = refl

  pub quotients_more : (j : ℕ)
      → quotients book ring (suc j) ≡ held_in book ring (newest (slots_of book) book.head (suc j)) ∷ quotients book ring j
  unfolding quotients
  quotients_more j = refl

  -- THE TALLY, and the record of the coarser book, whose ring and row are the tally's
  module _ (times : ℕ) where
    pub tally_is : tally book ring times ≡ added_all (fresh_tally book times) (old_quotients book ring)
    unfolding tally
    tally_is = refl

    pub coarsened_is : coarsened book ring times
        ≡ record {
          bound = book.bound;
          length = book.length;
          tolerance = times * book.tolerance;
          carry = book.carry + book.tolerance * (tally book ring times).carry;
          phase = book.phase + (tally book ring times).phase * block_of book;
          kept = book.phase + blocks_kept book * block_of book;
          head = (tally book ring times).head;
          resting = book.resting;
        }
    unfolding coarsened
    coarsened_is = refl

    pub coarsened_ring_is : (second : List ℕ)
        → coarsened_ring book ring times second ≡ added_all_ring (fresh_tally book times) (fresh_ring book times second) (old_quotients book ring)
    unfolding coarsened_ring
    coarsened_ring_is second = refl

    pub coarsened_row_is : (second row : List ℕ)
        → coarsened_row book ring times second row
        ≡ added_all_row (fresh_tally book times) (fresh_ring book times second) (fresh_row book times row) (old_quotients book ring)
    unfolding coarsened_row
    coarsened_row_is second row = refl
