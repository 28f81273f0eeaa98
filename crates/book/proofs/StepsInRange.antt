-- A sound book and its ring: the ring is lent whole, the numbers of the book's steps stay in range, and quotients fit their slots.
-- Assumes nothing.
use Rattle.std.proofs.Common.{◌≡◌, ℕ, ◌+◌, ◌-◌, ◌*◌, ◌/◌, ◌^◌, ◌<◌, ◌≤◌, ◌⊎◌, List, sym, refl, ap, inl, inr, le_trans, mul-le-mul_right, mul-le-mul, le-div_iff_mul-le, div-mul-le_self, arith, pow_mono}
use Rattle.ring.specs.Slot.{ring_bytes}
use Rattle.ring.specs.Lent.{Lent}
use Rattle.ring.specs.Newest.{sum_newest}
use Rattle.ring.proofs.Promises.{field_lt, sum_le}
use Rattle.book.specs.declared.Book.{Book}
use Rattle.book.specs.declared.shape.Shape.{Shape}
use Rattle.book.specs.Derived.{ceil_div, slot_count, largest_quotient, field_width, bytes_needed}
use Rattle.book.specs.Record.{block_of, slots_of, width_of, held_in}
use Rattle.book.specs.Sound.{Ranges, Sound}
use Rattle.book.proofs.Ready.{Ready}
use Rattle.book.specs.Figure.{slots_for}
use Rattle.book.proofs.RoundedUp.{ceil_covers, ceil_tight, ceil_le, ceil_low}
use Rattle.book.proofs.NumbersInRange.{block_holds, block_low, block_high, block_top, tolerance_top, slots_low, slots_high, slots_cover, width_low, width_high, quotient_fits}

-- B is the bytes that a ring of s slots of b bits takes
pub bytes_needed_lem : (bound n tolerance : ℕ) → bytes_needed bound n tolerance ≡ ring_bytes (field_width bound tolerance) (slot_count bound n tolerance)
unfolding bytes_needed
bytes_needed_lem bound n tolerance = refl

-- a ring with the bytes that the book needs is lent whole
pub book_lent : (bound n tolerance lent : ℕ) → Ranges bound n tolerance → bytes_needed bound n tolerance ≤ lent
    → Lent (field_width bound tolerance) (slot_count bound n tolerance) lent
unfolding bytes_needed
book_lent bound n tolerance lent r room =
    record {
      width_low = width_low bound n tolerance r;
      width_high = width_high bound n tolerance r;
      slots_low = slots_low bound n tolerance r;
      slots_high = le_trans (slots_high bound n tolerance r) r.length_high;
      room = room;
    }

-- and so is the ring of a book that is ready
pub ready_lent : {book : Book} {shape : Shape} {lent : ℕ} → Ready book shape lent → Lent shape.width shape.slots lent
ready_lent {book} {shape} {lent} ready =
    rw ready.shape_is (book_lent book.bound book.length book.tolerance lent ready.usable.sound.ranges ready.usable.room)

-- its block is the book's, of 1 to 4,096 items
pub ready_block : {book : Book} {shape : Shape} {lent : ℕ} → Ready book shape lent
    → (shape.block ≡ block_of book) × (1 ≤ shape.block) × (shape.block ≤ 4096)
ready_block {book} ready =
    let r = ready.usable.sound.ranges in
    rw ready.shape_is
    (refl, block_low book.bound book.tolerance, le_trans (block_high book.bound book.length book.tolerance r) r.length_high)

-- as many items as are kept can be divided into blocks in 32 bits
pub ready_divides : {book : Book} {shape : Shape} {lent : ℕ} → Ready book shape lent → {items : ℕ} → items ≤ book.kept
    → (0 < shape.block) × (items ≤ 1073741824) × (shape.block ≤ 1073741824)
ready_divides ready h =
    let s = ready.usable.sound in
    ((ready_block ready).1, omega (arith, h, s.kept_high, s.ranges.length_high), omega (arith, ready_block ready))

-- and its head is a slot
pub ready_head : {book : Book} {shape : Shape} {lent : ℕ} → Ready book shape lent → book.head < shape.slots
ready_head ready = rw ready.shape_is ready.usable.sound.head_high

-- what a slot holds is at most 65,535
pub held_le : (book : Book) (ring : List ℕ) → Sound book → (slot : ℕ) → held_in book ring slot ≤ 65535
held_le book ring sound slot =
    let r = sound.ranges in
    omega (arith, field_lt (width_of book) ring slot, pow_mono {i = width_of book} {j = 16} (width_high book.bound book.length book.tolerance r))

module _ (book : Book) (sound : Sound book) where
  r : Ranges book.bound book.length book.tolerance
  r = sound.ranges

  pub slots_top : slots_of book ≤ 4096
  slots_top = le_trans (slots_high book.bound book.length book.tolerance r) r.length_high

  -- D times what is small, e·L for any e up to c, and R are far from 2^64
  pub times_top : (n top : ℕ) → n ≤ top → book.tolerance * n ≤ 268431360 * top
  times_top n top h = mul-le-mul {n₂ = 268431360} {m₂ = top} (tolerance_top book.bound book.length book.tolerance r) h

  pub span_top : (e : ℕ) → e ≤ block_of book → e * book.bound ≤ 268431360
  span_top e h = le_trans (mul-le-mul_right book.bound h) (block_top book.bound book.length book.tolerance r)

  pub carry_top : book.carry ≤ 536862720
  carry_top =
      omega (
        arith,
        sound.carry_high,
        tolerance_top book.bound book.length book.tolerance r,
        span_top book.phase (omega (arith, sound.phase_high)),
      )

  -- and R is less than twice D: the open block lacks an item, and a block holds at most D or is one item
  pub carry_low : book.carry < 2 * book.tolerance
  carry_low = by (block_holds book.bound book.length book.tolerance r)
    where
      by : (block_of book * book.bound ≤ book.tolerance) ⊎ ((block_of book ≡ 1) × (book.tolerance < book.bound)) → book.carry < 2 * book.tolerance
      by (inl small) =
          omega (arith, sound.carry_high, r.bound_low, r.tolerance_low, small, mul-le-mul_right book.bound sound.phase_high)
      by (inr one) =
          let none : book.phase ≡ 0 = omega (arith, one.0, sound.phase_high) in
          omega (arith, sound.carry_high, r.tolerance_low, ap (λ (p : ℕ). p * book.bound) none)

  -- a block that closes leaves a quotient of at most z
  pub quotient_le : (item : ℕ) → item ≤ book.bound → book.phase + 1 ≡ block_of book
      → (book.carry + item) / book.tolerance ≤ largest_quotient book.bound book.tolerance
  unfolding largest_quotient ceil_div
  quotient_le item h closes =
      (le-div_iff_mul-le {k = book.tolerance} {x = (book.carry + item) / book.tolerance} r.tolerance_low).1
      (omega (
        arith,
        div-mul-le_self (book.carry + item) book.tolerance,
        sound.carry_high,
        ap (λ (n : ℕ). n * book.bound) (sym closes),
      ))

  -- so it fits its slot
  pub quotient_in : (item : ℕ) → item ≤ book.bound → book.phase + 1 ≡ block_of book
      → (book.carry + item) / book.tolerance < 2 ^ width_of book
  quotient_in item h closes =
      quotient_fits book.bound book.length book.tolerance r ((book.carry + item) / book.tolerance) (quotient_le item h closes)

  module _ (window : ℕ) (longer : book.phase < window) (kept : window ≤ book.kept) where
    -- a window beyond the open block needs 1 to s slots
    pub for_low : 1 ≤ slots_for book window
    unfolding slots_for
    for_low = ceil_low (window - book.phase) (block_of book) (block_low book.bound book.tolerance) (omega arith)

    pub for_high : slots_for book window ≤ slots_of book
    unfolding slots_for
    for_high =
        ceil_le (window - book.phase) (block_of book) (slots_of book) (block_low book.bound book.tolerance)
        (omega (arith, sound.kept_high, slots_cover book.bound book.length book.tolerance r))

    -- which cover it, by less than a block too much
    pub for_covers : window - book.phase ≤ slots_for book window * block_of book
    unfolding slots_for
    for_covers = ceil_covers (window - book.phase) (block_of book) (block_low book.bound book.tolerance)

    pub for_tight : slots_for book window * block_of book < window - book.phase + block_of book
    unfolding slots_for
    for_tight = ceil_tight (window - book.phase) (block_of book) (block_low book.bound book.tolerance)

-- the sum of at most 4,096 slots is below 2^28
pub sum_top : (book : Book) (ring : List ℕ) → Sound book → (j : ℕ) → j ≤ slots_of book
    → sum_newest (held_in book ring) (slots_of book) book.head j ≤ 268431360
sum_top book ring sound j h =
    omega (arith, sum_le (held_in book ring) 65535 (held_le book ring sound) (slots_of book) book.head j, slots_top book sound)
