-- A SALVAGED BOOK KEEPS TO THE INVARIANT, with the items that it had, where the fields that were left are true. What had come in is the same; and
-- the blocks that are still kept lie in slots newer than every altered one, so that each of them holds what it should.
-- Assumes nothing.
use Prim.Native.Nat.{ℕ, zero, suc, ◌+◌, ◌*◌, ◌/◌, ◌≤◌, ◌<◌, min}
use native.Mathlib.Nat.{lt_of_mul-lt-mul_right, min-eq_left}
use native.Mathlib.Omega.{arith}
use mathlib.Core.Bool.{false}
use mathlib.Core.List.{List}
use mathlib.Core.Path.{◌≡◌, refl, ap, ◌∙◌}
use borrow.Author.Tests.{ltb-false}
use lib.ListN.{length}
use Rattle.ring.proofs.Promises.{newest_lt}
use Rattle.book.specs.declared.Book.{Book}
use Rattle.book.specs.Record.{block_of, slots_of, largest_of, held_in, record_with}
use Rattle.book.specs.Sound.{Usable}
use Rattle.book.specs.Figure.{slots_for}
use Rattle.book.proofs.Promises.{for_covers}
use Rattle.salvage.specs.Altered.{newest_slot, too_large, how_new}
use Rattle.salvage.specs.Salvaged.{salvaged_ring, kept_for, salvaged_record}
use Rattle.salvage.proofs.Promises.{salvaged_is, kept_whole, kept_short, how_new_is, how_new_none, ring_mended, salvaged_usable}
use Rattle.demands.specs.LeftTrue.{LeftTrue}
use Rattle.demands.proofs.Invariant.{Invariant}

-- what is kept then is no more than what was kept
kept_no_more : (book : Book) (u : ℕ) → kept_for book u ≤ book.kept
kept_no_more book zero = rw (kept_whole book) (omega arith)
kept_no_more book (suc newer) = rw (kept_short book newer) (omega arith)

module _ (book : Book) (ring : List ℕ) (usable : Usable book (length ring)) where
  abbrev u : ℕ
  u = how_new book ring

  -- a block that is still kept is in a slot that is not altered
  still_kept : (j : ℕ) → book.phase + j * block_of book < kept_for book u → too_large book ring (newest_slot book (suc j)) ≡ false
  still_kept j inside = by u refl
    where
      by : (v : ℕ) → u ≡ v → too_large book ring (newest_slot book (suc j)) ≡ false
      by zero none =
          how_new_none book ring usable none (newest_slot book (suc j)) (newest_lt (slots_of book) book.head (suc j) usable.sound.head_high)
      by (suc newer) is =
          let within : book.phase + j * block_of book < min book.kept (book.phase + newer * block_of book) =
          rw (ap (kept_for book) is ∙ kept_short book newer) at inside in
          let fewer : j < newer = lt_of_mul-lt-mul_right (block_of book) (omega arith) in
          (how_new_is book ring (omega (arith, is))).none_newer (suc j) (omega arith) (omega (arith, is))

  -- and is one of those of which an item was kept
  was_kept : (j : ℕ) → book.phase + j * block_of book < book.kept → suc j ≤ slots_for book book.kept
  was_kept j inside =
      let covers = for_covers book usable.sound book.kept (omega arith) (omega arith) in
      lt_of_mul-lt-mul_right (block_of book) (omega (arith, covers))

  -- so it holds what it should
  holds_truth : (truth : List ℕ) → LeftTrue book ring truth → (j : ℕ) → book.phase + j * block_of book < kept_for book u
      → held_in book (salvaged_ring book ring) (newest_slot book (suc j)) ≡ held_in book truth (newest_slot book (suc j))
  holds_truth truth left_true j inside =
      let slot : ℕ = newest_slot book (suc j) in
      let not_altered = still_kept j inside in
      let small : held_in book ring slot ≤ largest_of book = ltb-false (largest_of book) (held_in book ring slot) not_altered in
      (ring_mended book ring usable).field_is slot (newest_lt (slots_of book) book.head (suc j) usable.sound.head_high)
      ∙ min-eq_left small
      ∙ left_true (suc j) (omega arith) (was_kept j (omega (arith, kept_no_more book u))) not_altered

-- the record as it is written, with the ring that salvage leaves
written_keeps : (book : Book) (ring truth items : List ℕ) → Invariant book (held_in book truth) items → Usable book (length ring)
    → LeftTrue book ring truth
    → Invariant (record_with book book.carry book.phase (kept_for book (how_new book ring)) book.head) (held_in book (salvaged_ring book ring))
    items
written_keeps book ring truth items inv usable left_true =
    let fewer = kept_no_more book (how_new book ring) in
    record {
      before = inv.before;
      sound = rw (salvaged_is book ring) at (salvaged_usable book ring usable).sound;
      long = omega (arith, fewer, inv.long);
      falls = inv.falls;
      slowly = inv.slowly;
      totals = λ i h. inv.totals i (omega (arith, fewer));
      carried = inv.carried;
      blocks = λ j h.
          ap (λ (q : ℕ). q + inv.before (book.phase + suc j * block_of book) / book.tolerance) (holds_truth book ring usable truth left_true j h)
          ∙ inv.blocks j (omega (arith, fewer));
    }

pub salvage_keeps : (book : Book) (ring truth items : List ℕ) → Invariant book (held_in book truth) items → Usable book (length ring)
    → LeftTrue book ring truth → Invariant (salvaged_record book ring) (held_in (salvaged_record book ring) (salvaged_ring book ring)) items
salvage_keeps book ring truth items inv usable left_true = rw (salvaged_is book ring) (written_keeps book ring truth items inv usable left_true)
