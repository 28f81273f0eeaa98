-- Adding in its two cases, as the code reaches them: the block stays open, or it closes.
-- Assumes nothing.
use Rattle.std.proofs.Common.{◌≡◌, ℕ, ◌+◌, ◌-◌, ◌*◌, ◌^◌, ◌<◌, ◌≤◌, true, eqb, List, length, sym, ◌∙◌, eq-eqb, ne_eqb}
use native.Mathlib.Decide.{ℕ_discrete}
use Rattle.ring.specs.Slot.{written}
use Rattle.book.specs.declared.Book.{Book}
use Rattle.book.specs.declared.shape.Shape.{Shape}
use Rattle.book.specs.Record.{block_of, width_of, record_with}
use Rattle.book.proofs.Ready.{Ready}
use Rattle.book.specs.Adding.{slot_after, kept_more, carry_with, quotient_of, added_open, added_closed, added, added_ring}
use Rattle.book.proofs.StepsInRange.{ready_block, quotient_in}

-- What holds of the record and the ring where the block closes, and where it stays open, holds after adding
pub adding_cases : (P : Book → List ℕ → Type 0) (book : Book) (ring : List ℕ) (item : ℕ)
    → (book.phase + 1 ≡ block_of book → P (added_closed book item) (written (width_of book) ring book.head (quotient_of book item)))
    → ((book.phase + 1 ≡ block_of book → ⊥) → P (added_open book item) ring) → P (added book item) (added_ring book ring item)
unfolding added added_ring
adding_cases P book ring item closed more = by (ℕ_discrete (book.phase + 1) (block_of book))
  where
    by : Dec (book.phase + 1 ≡ block_of book) → P (added book item) (added_ring book ring item)
    by (yes e) = rw (eq-eqb (book.phase + 1) (block_of book) e) (closed e)
    by (no ne) = rw (ne_eqb (book.phase + 1) (block_of book) ne) (more ne)

-- a book that is ready, and an item that it takes
pub record Takes (book : Book) (shape : Shape) (ring : List ℕ) (item : ℕ) : Type 0 where
  pub ready : Ready book shape (length ring)
  pub small : item ≤ book.bound

module _ {book : Book} {shape : Shape} {ring : List ℕ} {item : ℕ} (k : Takes book shape ring item) where
  -- the block stays open: only the record changes
  pub stays_open : (book.phase + 1 ≡ shape.block → ⊥) → {kept : ℕ} → kept ≡ kept_more book
      → (record_with book (carry_with book item) (book.phase + 1) kept book.head ≡ added book item) × (ring ≡ added_ring book ring item)
  unfolding added added_ring
  stays_open more kept_is =
      let still = ne_eqb (book.phase + 1) (block_of book) (λ e. more (e ∙ sym (ready_block k.ready).0)) in
      rw kept_is (rw still, rw still)

  -- it closes: the quotient, which fits its slot, goes into the ring
  module _ (full : book.phase + 1 ≡ shape.block) where
    closes : eqb (book.phase + 1) (block_of book) ≡ true
    closes = eq-eqb (book.phase + 1) (block_of book) (full ∙ (ready_block k.ready).0)

    pub quotient_fits : quotient_of book item < 2 ^ shape.width
    quotient_fits = rw k.ready.shape_is (quotient_in book k.ready.usable.sound item k.small (full ∙ (ready_block k.ready).0))

    pub block_closes : {kept head : ℕ} → kept ≡ kept_more book → head ≡ slot_after shape.slots book.head
        → record_with book (carry_with book item - quotient_of book item * book.tolerance) 0 kept head ≡ added book item
    unfolding added
    block_closes kept_is head_is = rw (kept_is, head_is, k.ready.shape_is, closes)

    pub ring_takes : written shape.width ring book.head (quotient_of book item) ≡ added_ring book ring item
    unfolding added_ring
    ring_takes = rw (k.ready.shape_is, closes)
