-- The figure by the row in its two cases, as the code reaches it: a window within the open block, which reads nothing, and a longer one.
-- Assumes nothing.
use Prim.Native.Nat.{ℕ, ◌+◌, ◌-◌, ◌*◌, ◌≤◌, ◌<◌}
use native.Mathlib.Omega.{arith}
use mathlib.Core.List.{List}
use mathlib.Core.Path.{◌≡◌, sym, ◌∙◌}
use borrow.Author.Tests.{le-leb, lt-leb}
use lib.ListN.{length}
use Rattle.ring.specs.Slot.{field}
use Rattle.ring.specs.Newest.{newest}
use Rattle.book.specs.declared.Book.{Book}
use Rattle.book.specs.declared.shape.Shape.{Shape}
use Rattle.book.specs.Record.{block_of, slots_of, shape_for, held_in}
use Rattle.book.specs.Sound.{Sound, Usable}
use Rattle.book.specs.Figure.{reckoned, slots_for, figure, newest_sum_of}
use Rattle.book.proofs.Promises.{by_open, by_slots, for_high, for_covers, for_tight, span_top}
use Rattle.sums.specs.Rule.{fields_read, sums_read, sum_by_row, fields_for, sums_for, figure_by_row}
use Rattle.sums.proofs.ShapeInUse.{use_block, use_slots}

-- within the open block: the book's own figure, and nothing is read
module _ (book : Book) (ring row : List ℕ) (window : ℕ) (inside : window ≤ book.phase) where
  pub figure_inside : figure_by_row book ring row window ≡ figure book ring window
  figure_inside =
      by_open book (λ j. sum_by_row (slots_of book) book.head j (held_in book ring) row) (held_in book ring) window inside
      ∙ sym (by_open book (newest_sum_of book (held_in book ring)) (held_in book ring) window inside)

  pub fields_inside : fields_for book window ≡ 0
  unfolding fields_for
  fields_inside = rw (le-leb window book.phase inside)

  pub sums_inside : sums_for book window ≡ 0
  unfolding sums_for
  sums_inside = rw (le-leb window book.phase inside)

-- a longer one, of a book in use: j slots are needed
pub record Longer (book : Book) (shape : Shape) (ring : List ℕ) (window j : ℕ) : Type 0 where
  pub usable : Usable book (length ring)
  pub shape_is : shape ≡ shape_for book
  pub longer : book.phase < window
  pub kept : window ≤ book.kept
  pub j_is : j ≡ slots_for book window

module _ {book : Book} {shape : Shape} {ring : List ℕ} {window j : ℕ} (k : Longer book shape ring window j) where
  sound : Sound book
  sound = k.usable.sound

  -- at most s of them
  pub slots_needed : j ≤ shape.slots
  slots_needed =
      let most = for_high book sound window k.longer k.kept in
      omega (arith, k.j_is, most, (use_slots k.shape_is sound).0)

  -- they cover the window, by less than a block too much
  pub slots_cover : (window - book.phase ≤ j * shape.block) × (j * shape.block ≤ 8192)
      × ((j * shape.block - (window - book.phase)) * book.bound ≤ 268431360)
  slots_cover =
      let covers = for_covers book sound window k.longer k.kept in
      let tight = for_tight book sound window k.longer k.kept in
      let block = use_block k.shape_is sound in
      let short : slots_for book window * block_of book - (window - book.phase) ≤ block_of book = omega arith in
      rw (k.j_is, block.0) (
        covers,
        omega (arith, tight, block, sound.kept_high, sound.ranges.length_high, k.kept),
        span_top book sound (slots_for book window * block_of book - (window - book.phase)) short,
      )

  pub figure_longer : (row : List ℕ) {sum g : ℕ} → sum ≡ sum_by_row shape.slots book.head j (field shape.width ring) row
      → g ≡ field shape.width ring (newest shape.slots book.head j)
      → reckoned book sum (j * shape.block - (window - book.phase)) g ≡ figure_by_row book ring row window
  figure_longer row sum_is_lem g_is =
      rw (sum_is_lem, g_is, k.j_is, k.shape_is)
      (sym (by_slots book (λ j. sum_by_row (slots_of book) book.head j (held_in book ring) row) (held_in book ring) window k.longer))

  pub fields_longer : {fields : ℕ} → fields ≡ fields_read shape.slots book.head j → fields + 1 ≡ fields_for book window
  unfolding fields_for
  fields_longer fields-is = rw (fields-is, k.j_is, k.shape_is, lt-leb window book.phase k.longer)

  pub sums_longer : {sums : ℕ} → sums ≡ sums_read shape.slots book.head j → sums ≡ sums_for book window
  unfolding sums_for
  sums_longer sums-is = rw (sums-is, k.j_is, k.shape_is, lt-leb window book.phase k.longer)
