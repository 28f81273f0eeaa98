-- How many items a book has taken, in blocks: those that are closed and the phase; head and kept follow from it. An item is one more, and counts are
-- as many as there are of them.
-- Assumes nothing.
use Rattle.std.proofs.Common.{◌≡◌, ℕ, suc, ◌+◌, ◌*◌, ◌/◌, ◌%◌, ◌<◌, min, List, [], ◌∷◌, length, sym, ap, ◌∙◌, add-zero, mod-eq_of_lt, zero-add, arith}
use native.Mathlib.Nat.{zero-mod, div-eq_of_lt, mul-add-mod_self_left, mul-add-div}
use Rattle.book.specs.declared.Book.{Book}
use Rattle.book.specs.Derived.{slot_count}
use Rattle.book.specs.Record.{block_of, slots_of, opened}
use Rattle.book.specs.Sound.{Ranges}
use Rattle.book.specs.Adding.{slot_after, added}
use Rattle.book.specs.RunOfCounts.{added_all}
use Rattle.book.proofs.NumbersInRange.{block_low, slots_low}
use Rattle.book.proofs.NextSlot.{slot_after_mod}
use Rattle.book.proofs.AddingInTwoCases.{adding_cases}
use Rattle.book.proofs.StaysABook.{added_same}

-- a number in blocks of c: what is left is its remainder, and the blocks are its quotient
pub in_blocks : {c blocks phase count : ℕ} → count ≡ c * blocks + phase → phase < c → (phase ≡ count % c) × (blocks ≡ count / c)
in_blocks {c} {blocks} {phase} {count} is below =
    let some : 0 < c = omega arith in (
      sym (ap (λ (m : ℕ). m % c) is ∙ mul-add-mod_self_left c blocks phase ∙ mod-eq_of_lt below),
      sym (ap (λ (m : ℕ). m / c) is ∙ mul-add-div {m = c} some blocks phase ∙ ap (λ (m : ℕ). blocks + m) (div-eq_of_lt below) ∙ add-zero blocks),
    )

-- COUNTS, with the number of blocks that are closed
pub record Counted (book : Book) (count : ℕ) : Type 0 where
  pub blocks : ℕ
  pub count_is : count ≡ block_of book * blocks + book.phase
  pub phase_lt : book.phase < block_of book
  pub head_is : book.head ≡ blocks % slots_of book
  pub kept_is : book.kept ≡ min book.length count

-- a fresh book
pub counted_fresh : (bound n tolerance : ℕ) → Counted (opened bound n tolerance) 0
counted_fresh bound n tolerance =
    record {
      blocks = 0;
      count_is = omega arith;
      phase_lt = block_low bound tolerance;
      head_is = sym (zero-mod (slot_count bound n tolerance));
      kept_is = omega arith;
    }

-- an item
pub counted_more : (book : Book) (count item : ℕ) → Ranges book.bound book.length book.tolerance → Counted book count
    → Counted (added book item) (suc count)
counted_more book count item ranges h =
    adding_cases (λ b r. Counted b (suc count)) book [] item
    (λ closes. record {
      blocks = h.blocks + 1;
      count_is = omega (arith, h.count_is);
      phase_lt = block_low book.bound book.tolerance;
      head_is =
          ap (slot_after (slots_of book)) h.head_is
          ∙ slot_after_mod (slots_of book) h.blocks (slots_low book.bound book.length book.tolerance ranges);
      kept_is = kept_more;
    })
    (λ more. record {
      blocks = h.blocks;
      count_is = omega (arith, h.count_is);
      phase_lt = omega (arith, more, h.phase_lt);
      head_is = h.head_is;
      kept_is = kept_more;
    })
  where
    kept_more : min book.length (book.kept + 1) ≡ min book.length (suc count)
    kept_more = omega (arith, h.kept_is)

-- and counts, whatever they are
pub counted_all : (book : Book) (counts : List ℕ) (count : ℕ) → Ranges book.bound book.length book.tolerance → Counted book count
    → Counted (added_all book counts) (length counts + count)
unfolding added_all
counted_all book [] count ranges h = rw (zero-add count) h
counted_all book (item ∷ later) count ranges h =
    let same = added_same book item in
    let next : length later + suc count ≡ suc (length later) + count = omega arith in
    rw next at
    (counted_all (added book item) later (suc count) (rw (same.bound_same, same.length_same, same.tolerance_same) ranges)
    (counted_more book count item ranges h))
