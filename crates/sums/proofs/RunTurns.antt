-- A RUN AS THE CODE GOES: whether it is refused, how many items a part takes, what holds after each part, and what comes of the whole.
-- Assumes nothing.
use Prim.Native.Nat.{ℕ, ◌-◌, ◌*◌, ◌≤◌, ◌<◌, min}
use native.Mathlib.Nat.{mul-le-mul}
use native.Mathlib.Omega.{arith}
use mathlib.Core.Bool.{Bool, true, false}
use mathlib.Core.List.{List, [], ◌∷◌, ◌++◌}
use mathlib.Core.Logic.{◌⊎◌, inl, inr}
use mathlib.Core.Path.{◌≡◌, refl, sym, ap, subst, ◌∙◌}
use lib.ListN.{length, get_or, set, take, drop, length-take, length-drop, take-append-drop, get_or-eq_default}
use Rattle.refusals.specs.Call.{result_of, left_of}
use Rattle.ring.specs.Slot.{field}
use Rattle.book.specs.declared.Book.{Book}
use Rattle.book.specs.declared.shape.Shape.{Shape}
use Rattle.book.specs.declared.known.Known.{Known}
use Rattle.book.specs.Derived.{slot_count}
use Rattle.book.specs.Shape.{shape_of}
use Rattle.book.specs.Record.{block_of, slots_of, shape_for, held_in}
use Rattle.book.specs.Sound.{Sound, Usable}
use Rattle.book.specs.Resting.{awake}
use Rattle.book.specs.RunOfCounts.{any_above, added_all, added_all_ring}
use Rattle.book.specs.Calls.{run_call}
use Rattle.book.proofs.Promises.{none_above, all_below, above_take, above_drop, le_or_lt, run_taken, run_gives, all_none, added_all_apart, added_ring_apart, ready}
use Rattle.sums.specs.Row.{entries_of, group_end, entry_at, sum_to, added_all_row}
use Rattle.sums.specs.Rule.{stored_at}
use Rattle.sums.specs.RunParts.{Taking, items_left, Stands}
use Rattle.sums.proofs.SumsOfFields.{from_none, to_same}
use Rattle.sums.proofs.Ends.{FirstEnd, group_end_lem}
use Rattle.sums.proofs.KeptRow.{stored_0, put_there}
use Rattle.sums.proofs.ShapeInUse.{use_block, use_slots}
use Rattle.sums.proofs.PartByPart.{row_none, row_apart, end_of, some_left, Part, of_a_part, Stays, still_a_book}

-- A COUNT ABOVE L, looked for one by one
pub one_above : (bound : ℕ) (counts : List ℕ) (k : ℕ) → bound < get_or counts k 0 → true ≡ any_above bound counts
one_above bound counts k large = by (any_above bound counts) refl
  where
    by : (b : Bool) → any_above bound counts ≡ b → true ≡ b
    by true e = refl
    by false e = absurd (omega (arith, none_above bound counts e k))

pub none_passed : (bound : ℕ) (counts : List ℕ) (i : ℕ) → length counts ≤ i → ((k : ℕ) → k < i → get_or counts k 0 ≤ bound)
    → false ≡ any_above bound counts
none_passed bound counts i past below = sym (all_below bound counts (λ k. by k (le_or_lt i k)))
  where
    by : (k : ℕ) → (i ≤ k) ⊎ (k < i) → get_or counts k 0 ≤ bound
    by k (inl later) = omega (arith, get_or-eq_default counts 0 {n = k} (omega arith))
    by k (inr earlier) = below k earlier

-- THE END OF HEAD'S GROUP, with the book's numbers as the code has them
module _ {book : Book} {shape : Shape} (sound : Sound book) (shape_is : shape ≡ shape_for book) {end : ℕ}
    (end_is : end ≡ group_end shape.slots book.head) where
  pub end_found : end ≡ end_of book
  end_found = end_is ∙ ap (λ (s : Shape). group_end s.slots book.head) shape_is

  lies : FirstEnd (slots_of book) book.head (end_of book)
  lies = group_end_lem (slots_of book) book.head sound.head_high

  span_is : (end - book.head) * shape.block ≡ (end_of book - book.head) * block_of book
  span_is = λ i. (end_found i - book.head) * (shape_is i).block

  pub end_ahead : book.head < end
  end_ahead = omega (arith, end_found, lies.behind)

  pub end_within : end ≤ shape.slots
  end_within = omega (arith, end_found, lies.within, (use_slots shape_is sound).0)

  pub span_top : (end - book.head) * shape.block ≤ 131072
  span_top =
      mul-le-mul {n₂ = 32} {m₂ = 4096} (omega (arith, end_found, lies.close)) (use_block shape_is sound).2

  -- how many items are left is that span less the open block
  pub span_low : book.phase ≤ (end - book.head) * shape.block
  unfolding items_left
  span_low = omega (arith, span_is, some_left book sound)

  pub span_left : (end - book.head) * shape.block - book.phase ≡ items_left book
  unfolding items_left
  span_left = omega (arith, span_is)

-- A BOOK WITH ITS NUMBERS THAT TAKES COUNTS, part by part
pub record Takes (book : Book) (shape : Shape) (ring row : ℕ) (counts : List ℕ) : Type 0 where
  pub usable : Usable book ring
  pub shape_is : shape ≡ shape_for book
  pub room : entries_of book ≤ row
  pub up : book.resting ≡ awake
  pub small : any_above book.bound counts ≡ false

-- as a judged book does, and the other way
module _ (known : Known) {ring row : ℕ} {counts : List ℕ} where
  pub takes : Taking known ring row counts → Takes known.book known.shape ring row counts
  takes taking =
      record {
        usable = (ready known taking.ring_room).usable;
        shape_is = known.derived;
        room = rw known.derived at taking.row_room;
        up = taking.up;
        small = taking.small;
      }

  pub taking_by : Takes known.book known.shape ring row counts → Taking known ring row counts
  taking_by taking =
      record {
        ring_room = rw known.derived taking.usable.room;
        row_room = rw known.derived taking.room;
        up = taking.up;
        small = taking.small;
      }

-- WHERE THE COUNTS ARE TAKEN, the book's own run adds them
pub run_adds : {book : Book} {shape : Shape} {row : ℕ} (ring : List ℕ) {counts : List ℕ} → Takes book shape (length ring) row counts
    → (result_of (run_call book ring counts) ≡ record { refusal = 0; place = 0; book = added_all book counts })
    × (left_of (run_call book ring counts) ≡ added_all_ring book ring counts)
run_adds {book} ring {counts} taking =
    run_gives book ring counts (run_taken book ring counts taking.usable taking.small taking.up)

-- A PART: the row takes the group's sum, or is left
module _ {book : Book} {shape : Shape} (ring row : List ℕ) {counts : List ℕ} (taking : Takes book shape (length ring) (length row) counts)
    (few : length counts ≤ items_left book) where
  a_part : Part book ring row counts
  a_part = of_a_part book ring row counts taking.usable taking.small few

  pub part_stores : {end : ℕ} {ring' : List ℕ} → length counts ≡ items_left book → end ≡ group_end shape.slots book.head
      → ring' ≡ added_all_ring book ring counts
      → set row (entry_at end) (sum_to (field shape.width ring') end) ≡ added_all_row book ring row counts
  part_stores full end_is ring_is =
      let found = end_found taking.usable.sound taking.shape_is end_is in
      (λ i. set row (entry_at (found i)) (sum_to (field (taking.shape_is i).width (ring_is i)) (found i))) ∙ sym (a_part.full full)

  pub part_leaves : (length counts ≡ items_left book → ⊥) → row ≡ added_all_row book ring row counts
  part_leaves more = sym (a_part.inside (omega (arith, more)))

  -- a sum that stands in front of head stands there still
  pub part_front : {from : ℕ} {ring' : List ℕ} → from ≤ book.head → ring' ≡ added_all_ring book ring counts → Stands shape ring row from
      → Stands shape ring' row from
  part_front {from} low ring_is stands =
      stands ∙ (λ i. sum_to (field (taking.shape_is i).width ring) from)
      ∙ to_same (held_in book ring) (held_in book (added_all_ring book ring counts)) from (λ slot lt. sym (a_part.front slot (omega (arith, low))))
      ∙ sym (λ i. sum_to (field (taking.shape_is i).width (ring_is i)) from)

  -- and where the group is filled, its own sum stands where head has come to
  pub part_behind : {after : Book} {ring' row' : List ℕ} → length counts ≡ items_left book → after ≡ added_all book counts
      → ring' ≡ added_all_ring book ring counts → row' ≡ added_all_row book ring row counts → Stands shape ring' row' after.head
  part_behind {after} {ring'} {row'} full after_is ring_is row_is = by (a_part.full_head full)
    where
      head_is : after.head ≡ (added_all book counts).head
      head_is = ap (λ (b : Book). b.head) after_is

      by : ((added_all book counts).head ≡ 0) ⊎ ((added_all book counts).head ≡ end_of book) → Stands shape ring' row' after.head
      by (inl start) =
          subst (Stands shape ring' row') (sym (head_is ∙ start)) (stored_0 row' ∙ sym (from_none (field shape.width ring') 0))
      by (inr behind) =
          let lies = group_end_lem (slots_of book) book.head taking.usable.sound.head_high in
          let sum = sum_to (held_in book (added_all_ring book ring counts)) (end_of book) in
          subst (Stands shape ring' row') (sym (head_is ∙ behind))
          (ap (λ (r : List ℕ). stored_at r (end_of book)) (row_is ∙ a_part.full full)
          ∙ put_there (slots_of book) row taking.room (end_of book) sum (omega (arith, lies.behind)) lies.within lies.is_end
          ∙ sym (λ i. sum_to (field (taking.shape_is i).width (ring_is i)) (end_of book)))

-- PART BY PART: the counts that are left, added to record, ring and row, come to what all counts do; and while some are left, the row has the sum
-- of the present fields up to `from`, not behind head
pub record Going (book : Book) (shape : Shape) (ring₀ row₀ counts ring row left : List ℕ) (after : Book) (from : ℕ) : Type 0 where
  pub taking : Takes after shape (length ring) (length row) left
  pub book_left_lem : added_all after left ≡ added_all book counts
  pub ring_left_lem : added_all_ring after ring left ≡ added_all_ring book ring₀ counts
  pub row_left_lem : added_all_row after ring row left ≡ added_all_row book ring₀ row₀ counts
  pub from_low : from ≤ after.head
  pub stands : 0 < length left → Stands shape ring row from

pub going_start : {book : Book} {shape : Shape} (ring row : List ℕ) {counts : List ℕ} → Takes book shape (length ring) (length row) counts
    → Going book shape ring row counts ring row counts book 0
going_start ring row taking =
    record {
      taking = taking;
      book_left_lem = refl;
      ring_left_lem = refl;
      row_left_lem = refl;
      from_low = omega arith;
      stands = λ more. stored_0 row ∙ sym (from_none _ 0);
    }

-- what is said of the numbers of a book alone stays
same_numbers : {A : Type 0} {book last : Book} {left : List ℕ} (f : ℕ → ℕ → ℕ → A) → Stays book last left
    → f last.bound last.length last.tolerance ≡ f book.bound book.length book.tolerance
same_numbers f s = λ i. f (s.bound_same i) (s.length_same i) (s.tolerance_same i)

module _ {book : Book} {shape : Shape} {ring₀ row₀ counts ring row left : List ℕ} {after : Book} {from : ℕ}
    (g : Going book shape ring₀ row₀ counts ring row left after from) where
  -- ONE PART MORE: as many counts as the group takes, or all that are left
  module _ {many : ℕ} (many_is : many ≡ min (items_left after) (length left)) where
    abbrev these : List ℕ
    these = take many left

    abbrev later : List ℕ
    later = drop many left

    pub many_some : 0 < length left → 1 ≤ many
    many_some more = omega (arith, many_is, some_left after g.taking.usable.sound)

    these_many : length these ≡ many
    these_many = length-take many left ∙ omega (arith, many_is)

    pub these_few : length these ≤ items_left after
    these_few = omega (arith, these_many, many_is)

    pub these_taken : Takes after shape (length ring) (length row) these
    these_taken =
        record {
          usable = g.taking.usable;
          shape_is = g.taking.shape_is;
          room = g.taking.room;
          up = g.taking.up;
          small = above_take after.bound many left g.taking.small;
        }

    apart : these ++ later ≡ left
    apart = take-append-drop many left

    module _ {after' : Book} {ring' row' : List ℕ} (after_is : after' ≡ added_all after these) (ring_is : ring' ≡ added_all_ring after ring these)
        (row_is : row' ≡ added_all_row after ring row these) (row_same : length row' ≡ length row) where
      kept : Stays after after' ring'
      kept = rw (after_is, ring_is) (still_a_book after ring these g.taking.usable these_taken.small)

      pub going_step : Going book shape ring₀ row₀ counts ring' row' later after' after'.head
      going_step =
          record {
            taking = record {
              usable = kept.usable;
              shape_is = g.taking.shape_is ∙ sym (same_numbers shape_of kept);
              room = omega (arith, g.taking.room, same_numbers slot_count kept, row_same);
              up = kept.mark_same ∙ g.taking.up;
              small = ap (λ (n : ℕ). any_above n later) kept.bound_same ∙ above_drop after.bound many left g.taking.small;
            };
            book_left_lem =
                ap (λ (b : Book). added_all b later) after_is ∙ sym (added_all_apart after these later)
                ∙ ap (added_all after) apart ∙ g.book_left_lem;
            ring_left_lem =
                (λ i. added_all_ring (after_is i) (ring_is i) later) ∙ sym (added_ring_apart after ring these later)
                ∙ ap (added_all_ring after ring) apart ∙ g.ring_left_lem;
            row_left_lem =
                (λ i. added_all_row (after_is i) (ring_is i) (row_is i) later) ∙ sym (row_apart after ring row these later)
                ∙ ap (added_all_row after ring row) apart ∙ g.row_left_lem;
            from_low = omega arith;
            stands = λ more. part_behind ring row these_taken these_few (filled more) after_is ring_is row_is;
          }
        where
          -- where counts are left behind the part, it fills the group
          filled : 0 < length later → length these ≡ items_left after
          filled more = omega (arith, these_many, many_is, length-drop many left, more)

  -- no count is left
  pub going_end : length left ≡ 0
      → (after ≡ added_all book counts) × (ring ≡ added_all_ring book ring₀ counts) × (row ≡ added_all_row book ring₀ row₀ counts)
  going_end none =
      let past = length_0 left none in (
        sym (ap (added_all after) past ∙ (all_none after ring).0) ∙ g.book_left_lem,
        sym (ap (added_all_ring after ring) past ∙ (all_none after ring).1) ∙ g.ring_left_lem,
        sym (ap (added_all_row after ring row) past ∙ row_none after ring row) ∙ g.row_left_lem,
      )
    where
      length_0 : (xs : List ℕ) → length xs ≡ 0 → xs ≡ []
      length_0 [] e = refl
      length_0 (x ∷ xs) e = absurd (omega arith)
