-- OF A GOOD BOOK NO SLOT IS ALTERED by salvage, and its record stays: no field of it is above z.
-- Assumes nothing.
use Prim.Native.Nat.{ℕ, ◌+◌, ◌*◌, ◌^◌, ◌≤◌, ◌<◌}
use native.Mathlib.Decide.{ℕ_discrete}
use native.Mathlib.Nat.{mul-le-mul_right}
use native.Mathlib.Omega.{arith}
use mathlib.Core.Bool.{false}
use mathlib.Core.List.{List}
use mathlib.Core.Path.{◌≡◌, ap, ◌∙◌}
use borrow.Author.Tests.{le-ltb}
use lib.Dec.{ltb}
use lib.ListN.{length}
use Rattle.refusals.specs.Call.{refusal_of, result_of}
use Rattle.ring.specs.Slot.{written, cleared}
use Rattle.ring.proofs.Promises.{Lent, cleared_reads_0, read_back, other_stays}
use Rattle.book.specs.declared.Book.{Book}
use Rattle.book.specs.Derived.{field_width, slot_count, bytes_needed}
use Rattle.book.specs.Record.{block_of, slots_of, largest_of, width_of, held_in, opened}
use Rattle.book.specs.Sound.{Ranges, Usable}
use Rattle.book.specs.Adding.{quotient_of}
use Rattle.book.proofs.Promises.{block_low, whole_block, book_lent, adding_cases, quotient_le, quotient_in}
use Rattle.coarse.specs.Coarsens.{Coarsens}
use Rattle.coarse.specs.Coarser.{coarsened, coarsened_ring}
use Rattle.coarse.specs.Calls.{coarser_bytes}
use Rattle.coarse.proofs.Promises.{coarsened_is, coarsened_usable}
use Rattle.salvage.specs.Altered.{too_large}
use Rattle.salvage.specs.Mended.{NoneAltered}
use Rattle.salvage.specs.Calls.{salvage_call}
use Rattle.salvage.proofs.Promises.{salvage_gives, salvaged_is, none_is_none, nothing_seen, none_then, none_altered_leaves}
use Rattle.demands.specs.History.{Good}
use Rattle.demands.proofs.GoodInduction.{good_induction}
use Rattle.demands.proofs.GoodUsable.{good_usable}

-- a field that is at most z is not altered
not_altered : (book : Book) (ring : List ℕ) (slot value : ℕ) → held_in book ring slot ≡ value → value ≤ largest_of book
    → too_large book ring slot ≡ false
not_altered book ring slot value is small = le-ltb (largest_of book) (held_in book ring slot) (rw is small)

-- a fresh book
fresh_none_altered : (bound n tolerance : ℕ) (lent : List ℕ) → Ranges bound n tolerance → bytes_needed bound n tolerance ≤ length lent
    → NoneAltered (opened bound n tolerance) (cleared (field_width bound tolerance) (slot_count bound n tolerance) lent)
fresh_none_altered bound n tolerance lent ranges room slot below =
    let b = field_width bound tolerance in
    let s = slot_count bound n tolerance in
    not_altered (opened bound n tolerance) (cleared b s lent) slot 0
    (cleared_reads_0 b s lent (book_lent bound n tolerance (length lent) ranges room) slot below) (omega arith)

-- a block that closes: its quotient is at most z, and every other slot stays
module _ (book : Book) (ring : List ℕ) (item : ℕ) (usable : Usable book (length ring)) (small : item ≤ book.bound)
    (closes : book.phase + 1 ≡ block_of book) where
  abbrev q : ℕ
  q = quotient_of book item

  abbrev closed_ring : List ℕ
  closed_ring = written (width_of book) ring book.head q

  whole : Lent (width_of book) (slots_of book) (length ring)
  whole = book_lent book.bound book.length book.tolerance (length ring) usable.sound.ranges usable.room

  fits : q < 2 ^ width_of book
  fits = quotient_in book usable.sound item small closes

  closed_none_altered : NoneAltered book ring → (slot : ℕ) → slot < slots_of book → too_large book closed_ring slot ≡ false
  closed_none_altered before slot below = by (ℕ_discrete slot book.head)
    where
      by : Dec (slot ≡ book.head) → too_large book closed_ring slot ≡ false
      by (yes here) =
          not_altered book closed_ring slot q
          (rw here (read_back (width_of book) (slots_of book) ring whole book.head usable.sound.head_high q fits))
          (quotient_le book usable.sound item small closes)
      by (no other) =
          ap (ltb (largest_of book)) (other_stays (width_of book) (slots_of book) ring whole book.head usable.sound.head_high q fits slot other)
          ∙ before slot below

-- a coarser book has a tolerance of L or more
coarser_none_altered : (book : Book) (ring : List ℕ) (times : ℕ) (second : List ℕ) → Usable book (length ring) → Coarsens book times
    → coarser_bytes book times ≤ length second → NoneAltered (coarsened book ring times) (coarsened_ring book ring times second)
coarser_none_altered book ring times second usable can room =
    let ranges = usable.sound.ranges in
    let enough : book.bound ≤ times * book.tolerance =
    omega (
      arith,
      whole_block book.bound book.length book.tolerance ranges can.whole,
      mul-le-mul_right book.bound (block_low book.bound book.tolerance),
      mul-le-mul_right book.tolerance can.times_low,
    ) in
    nothing_seen (coarsened book ring times) (coarsened_ring book ring times second) (coarsened_usable book ring times usable can second room)
    (rw (coarsened_is book ring times) enough)

-- so no good book has a field above z
pub good_none_altered : (book : Book) (ring items : List ℕ) → Good book ring items → NoneAltered book ring
good_none_altered =
    good_induction (λ book ring items. NoneAltered book ring)
    (λ bound n tolerance lent ranges room. fresh_none_altered bound n tolerance lent ranges room)
    (λ book ring items item before usable small.
    adding_cases NoneAltered book ring item (λ closes. closed_none_altered book ring item usable small closes before) (λ more. before))
    (λ book ring items mark before. before)
    (λ book ring items times second before usable can room. coarser_none_altered book ring times second usable can room)
    (λ book ring truth items before usable left_true. rw (salvaged_is book ring) (none_then book ring usable))

-- and its record stays
pub good_salvage : (book : Book) (ring items : List ℕ) → Good book ring items → (numbers : List ℕ) → refusal_of (salvage_call book ring numbers) ≡ 0
    → result_of (salvage_call book ring numbers) ≡ record { refusal = 0; count = 0; book = book }
good_salvage book ring items good numbers taken =
    let usable = good_usable book ring items good in
    let none_altered = good_none_altered book ring items good in
    let none_listed = ap (λ (l : List ℕ). length l) (none_is_none book ring usable none_altered).0 in
    let record_stays = (none_altered_leaves book ring usable none_altered).0 in
    (salvage_gives book ring numbers taken).0 ∙ (λ i. record { refusal = 0; count = none_listed i; book = record_stays i })
