-- There always is a history that gives the old quotients and R: whole blocks of L·q for each old quotient q, and then an open block that brings the
-- carry from a remainder below D to R.
-- Assumes nothing.
use Prim.Native.Nat.{ℕ, ◌+◌, ◌-◌, ◌*◌, ◌%◌, ◌<◌, min}
use native.Mathlib.Omega.{arith}
use mathlib.Core.Bool.{false}
use mathlib.Core.List.{List, [], ◌++◌, append-nil}
use mathlib.Core.Path.{◌≡◌, refl, ap, ap₂, ◌∙◌}
use lib.ListN.{length, length-append}
use Rattle.refusals.specs.Call.{refusal_of}
use Rattle.book.specs.declared.Book.{Book}
use Rattle.book.specs.Record.{block_of}
use Rattle.book.specs.Sound.{Ranges, Usable}
use Rattle.book.specs.RunOfCounts.{any_above, added_all}
use Rattle.book.proofs.Promises.{whole_block, whole_width, above_append}
use Rattle.coarse.specs.Quotients.{blocks_kept, old_quotients}
use Rattle.coarse.specs.Calls.{coarsen_call}
use Rattle.coarse.specs.Histories.{begun, SomeHistory}
use Rattle.coarse.proofs.WhenTaken.{coarsen_known}
use Rattle.coarse.proofs.OldQuotients.{length_quotients, quotients_small}
use Rattle.coarse.proofs.ItemByItem.{Standing, Comes, comes_on}
use Rattle.coarse.proofs.WholeBlocksOfItems.{blocks_of, length_blocks, above_blocks, blocks_come}
use Rattle.coarse.proofs.OpenItems.{up_to, length_up_to, above_up_to, open_items_come}

-- THE HISTORY. The remainder that it starts with: R itself, or D − 1 where R is more
abbrev start : Book → ℕ
start book = min book.carry (book.tolerance - 1)

-- its whole blocks, and its open one
abbrev blocks : Book → List ℕ → List ℕ
blocks book ring = blocks_of (block_of book) book.bound (old_quotients book ring)

abbrev open_block : Book → List ℕ
open_block book = up_to book.bound (book.carry - start book) book.phase

-- they have J·c + p items
count : (book : Book) (ring : List ℕ) → length (blocks book ring ++ open_block book) ≡ blocks_kept book * block_of book + book.phase
count book ring =
    length-append (blocks book ring) (open_block book)
    ∙ ap₂ (λ (x y : ℕ). x + y)
    (length_blocks (block_of book) book.bound (old_quotients book ring)
    ∙ ap (λ (j : ℕ). j * block_of book) (length_quotients book ring (blocks_kept book)))
    (length_up_to book.bound (book.carry - start book) book.phase)

module _ (book : Book) (ring : List ℕ) (usable : Usable book (length ring)) (whole : book.tolerance % book.bound ≡ 0) where
  ranges : Ranges book.bound book.length book.tolerance
  ranges = usable.sound.ranges

  start_below : start book < book.tolerance
  start_below = omega (arith, ranges.tolerance_low)

  none_above_bound : any_above book.bound (blocks book ring ++ open_block book) ≡ false
  none_above_bound =
      let thin = whole_width book.bound book.length book.tolerance ranges whole in
      above_append book.bound (blocks book ring) (open_block book)
      (above_blocks (block_of book) book.bound (old_quotients book ring) (quotients_small book ring thin (blocks_kept book)))
      (above_up_to book.bound (book.carry - start book) book.phase)

  -- with the blocks come the old quotients, and with the open block R
  comes_there : Comes book.bound book.tolerance (begun book (start book)) (blocks book ring ++ open_block book)
      (old_quotients book ring ++ []) (start book + (book.carry - start book)) (0 + book.phase)
  comes_there =
      let filled = whole_block book.bound book.length book.tolerance ranges whole in
      let begins : Standing book.bound book.tolerance (start book) 0 (begun book (start book)) =
      record { bound_is = refl; tolerance_is = refl; carry_is = refl; phase_is = refl } in
      let first =
      blocks_come book.bound book.tolerance filled (start book) start_below (old_quotients book ring) (begun book (start book)) begins in
      comes_on (blocks book ring) (open_block book) (old_quotients book ring) [] first
      (open_items_come book.bound book.tolerance book.phase (book.carry - start book) (start book) 0
      (added_all (begun book (start book)) (blocks book ring)) first.stands
      (omega (arith, usable.sound.phase_high)) (omega (arith, usable.sound.carry_high)))

  -- THERE IS ONE, for every book with its ring where D is a multiple of L
  pub some_history : SomeHistory book ring
  some_history =
      record {
        start = start book;
        items = blocks book ring ++ open_block book;
        gives =
            record {
              below = start_below;
              count_is = count book ring;
              items_small = none_above_bound;
              quotients_are = comes_there.closings_are ∙ append-nil (old_quotients book ring);
              carry_is = comes_there.stands.carry_is ∙ omega arith;
            };
      }

-- and so there is one wherever the call is taken
pub history_there : (book : Book) (ring : List ℕ) (times : ℕ) (second : List ℕ) → refusal_of (coarsen_call book ring times second) ≡ 0
    → SomeHistory book ring
history_there book ring times second taken =
    let known = coarsen_known book ring times second taken in
    some_history book ring known.0 known.1.whole
