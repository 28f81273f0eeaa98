-- The figure in its two cases, as the code reaches it.
-- Assumes nothing.
use Rattle.std.proofs.Common.{◌≡◌, ℕ, zero, suc, ◌+◌, ◌-◌, ◌*◌, ◌/◌, ◌<◌, ◌≤◌, List, length, sym, ap, ◌∙◌, arith, le-leb}
use borrow.Author.Tests.{lt-leb}
use Rattle.ring.specs.Slot.{field}
use Rattle.ring.specs.Newest.{newest, sum_newest}
use Rattle.ring.proofs.Promises.{sum_more}
use Rattle.book.specs.declared.Book.{Book}
use Rattle.book.specs.declared.shape.Shape.{Shape}
use Rattle.book.specs.Derived.{ceil_div}
use Rattle.book.specs.Record.{block_of, slots_of, held_in}
use Rattle.book.specs.Sound.{Sound}
use Rattle.book.proofs.Ready.{Ready}
use Rattle.book.specs.Figure.{reckoned, slots_for, figure_by, figure_of, figure}
use Rattle.book.proofs.StepsInRange.{ready_block, span_top, for_low, for_high, for_covers, for_tight, sum_top, held_le}

-- a window within the open block
pub figure_open : (book : Book) (held : ℕ → ℕ) (window : ℕ) → window ≤ book.phase
    → reckoned book 0 (book.phase - window) (book.carry / book.tolerance) ≡ figure_of book held window
unfolding figure_by
figure_open book held window h = rw (le-leb window book.phase h)

-- THE FORMULA in its two cases, with all names opened, as it stands in SCOPE, Total
module _ (book : Book) (held : ℕ → ℕ) (window : ℕ) where
  pub figure_in_open_lem : window ≤ book.phase
      → figure_of book held window
      ≡ book.carry + book.tolerance * 0 - (book.tolerance - 1) - (book.phase - window) * book.bound * (book.carry / book.tolerance)
  unfolding reckoned
  figure_in_open_lem h = sym (figure_open book held window h)

  pub figure_in_slots_lem : book.phase < window → {j : ℕ} → slots_for book window ≡ j
      → figure_of book held window
      ≡ book.carry + book.tolerance * sum_newest held (slots_of book) book.head j - (book.tolerance - 1)
      - (j * block_of book - (window - book.phase)) * book.bound * held (newest (slots_of book) book.head j)
  unfolding figure_by reckoned
  figure_in_slots_lem longer j_is = rw (lt-leb window book.phase longer, j_is)

-- the sum of the n newest slots, the oldest of them by itself
pub with_oldest : (held : ℕ → ℕ) (slots next n : ℕ) → 1 ≤ n
    → sum_newest held slots next (n - 1) + held (newest slots next n) ≡ sum_newest held slots next n
with_oldest held slots next zero h = absurd (omega arith)
with_oldest held slots next (suc n) h =
    let e : suc n - 1 ≡ n = omega arith in
    rw e (sym (sum_more held slots next n))

-- a longer one, of a book that is ready: j slots are needed
pub record Longer (book : Book) (shape : Shape) (ring : List ℕ) (window j : ℕ) : Type 0 where
  pub ready : Ready book shape (length ring)
  pub longer : book.phase < window
  pub kept : window ≤ book.kept
  pub j_is : j ≡ ceil_div (window - book.phase) shape.block

module _ {book : Book} {shape : Shape} {ring : List ℕ} {window j : ℕ} (k : Longer book shape ring window j) where
  sound : Sound book
  sound = k.ready.usable.sound

  needed : j ≡ slots_for book window
  unfolding slots_for
  needed = k.j_is ∙ ap (ceil_div (window - book.phase)) (ready_block k.ready).0

  -- 1 to s of them
  pub slots_needed : (1 ≤ j) × (j ≤ shape.slots)
  slots_needed = rw (k.ready.shape_is, needed) (for_low book sound window k.longer k.kept, for_high book sound window k.longer k.kept)

  -- they cover the window, by less than a block too much; and e·L is far from 2^64
  pub slots_cover : (window - book.phase ≤ j * shape.block) × (j * shape.block ≤ 8192)
      × ((j * shape.block - (window - book.phase)) * book.bound ≤ 268431360)
  slots_cover =
      let tight = for_tight book sound window k.longer k.kept in
      let short : slots_for book window * block_of book - (window - book.phase) ≤ block_of book = omega arith in
      let block : block_of book ≤ 4096 = rw k.ready.shape_is at (ready_block k.ready).2 in
      rw (k.ready.shape_is, needed) (
        for_covers book sound window k.longer k.kept,
        omega (arith, sound.kept_high, sound.ranges.length_high, k.kept),
        span_top book sound (slots_for book window * block_of book - (window - book.phase)) short,
      )

  -- the sum of the newer slots, and the oldest
  module _ {newer place last : ℕ} (newer_is : newer ≡ sum_newest (field shape.width ring) shape.slots book.head (j - 1))
      (place_is : place ≡ newest shape.slots book.head j) (last_is : last ≡ field shape.width ring place) where
    pub parts_top : (newer ≤ 268431360) × (last ≤ 65535)
    parts_top =
        let few : slots_for book window - 1 ≤ slots_of book = omega (arith, for_high book sound window k.longer k.kept) in
        rw (newer_is, last_is, k.ready.shape_is, needed)
        (sum_top book ring sound (slots_for book window - 1) few, held_le book ring sound place)

    pub figure_slots : reckoned book (newer + last) (j * shape.block - (window - book.phase)) last ≡ figure book ring window
    unfolding figure_by
    figure_slots =
        rw (newer_is, last_is, place_is, k.ready.shape_is, needed, lt-leb window book.phase k.longer)
        (ap (λ (sum : ℕ). reckoned book sum (slots_for book window * block_of book - (window - book.phase))
        (held_in book ring (newest (slots_of book) book.head (slots_for book window))))
        (with_oldest (held_in book ring) (slots_of book) book.head (slots_for book window) (for_low book sound window k.longer k.kept)))
