-- A RUN IN PARTS: counts that do not fill the group of slots in which head lies leave the row, and the one that fills it stores the group's
-- sum; no slot in front of head is written.
-- Assumes nothing.
use Prim.Native.Nat.{ℕ, suc, ◌+◌, ◌-◌, ◌*◌, ◌≤◌, ◌<◌}
use native.Mathlib.Nat.{suc-mul}
use native.Mathlib.Decide.{ℕ_discrete}
use native.Mathlib.Omega.{arith}
use mathlib.Core.Bool.{false}
use mathlib.Core.List.{List, [], ◌∷◌, ◌++◌}
use mathlib.Core.Logic.{◌⊎◌, inl, inr}
use mathlib.Core.Path.{◌≡◌, refl, sym, ap, ap₂, ◌∙◌}
use borrow.Author.Tests.{eq-eqb, ne_eqb}
use lib.ListN.{length, set}
use Rattle.ring.proofs.Promises.{other_stays}
use Rattle.book.specs.declared.Book.{Book}
use Rattle.book.specs.Record.{block_of, slots_of, width_of, held_in}
use Rattle.book.specs.Sound.{Sound, Usable}
use Rattle.book.specs.Adding.{quotient_of, added_open, added_closed, added, added_ring}
use Rattle.book.specs.RunOfCounts.{any_above, added_all, added_all_ring}
use Rattle.book.proofs.Promises.{adding_cases, added_same, added_mark, added_usable, slot_after_cases, quotient_in, book_lent, all_none, all_more, above_cons}
use Rattle.sums.specs.Row.{group_end, entry_at, sum_to, stored, added_row, added_all_row}
use Rattle.sums.specs.RunParts.{items_left}
use Rattle.sums.proofs.Ends.{group_end_lem}

-- the row with no counts, and with one before others
pub row_none : (book : Book) (ring row : List ℕ) → added_all_row book ring row [] ≡ row
unfolding added_all_row
row_none book ring row = refl

pub row_more : (book : Book) (ring row : List ℕ) (count : ℕ) (later : List ℕ)
    → added_all_row book ring row (count ∷ later) ≡ added_all_row (added book count) (added_ring book ring count) (added_row book ring row count) later
unfolding added_all_row
row_more book ring row count later = refl

-- in two parts, the one after the other
pub row_apart : (book : Book) (ring row one two : List ℕ)
    → added_all_row book ring row (one ++ two)
    ≡ added_all_row (added_all book one) (added_all_ring book ring one) (added_all_row book ring row one) two
row_apart book ring row [] two = rw ((all_none book ring).0, (all_none book ring).1, row_none book ring row)
row_apart book ring row (count ∷ later) two =
    rw ((all_more book ring count later).0, (all_more book ring count later).1, row_more book ring row count later)
    (row_more book ring row count (later ++ two)
    ∙ row_apart (added book count) (added_ring book ring count) (added_row book ring row count) later two)

-- the group's end where head stands
abbrev pub end_of : Book → ℕ
end_of book = group_end (slots_of book) book.head

-- within a group the end stays
same_group : (slots slot : ℕ) → slot + 1 < group_end slots slot → group_end slots (slot + 1) ≡ group_end slots slot
unfolding group_end
same_group slots slot inside = omega arith

-- ONE ITEM either fills the group, or leaves the row and one item less to come
pub record Fills (book : Book) : Type 0 where
  pub one_left : items_left book ≡ 1
  pub closes : book.phase + 1 ≡ block_of book
  pub ends : book.head + 1 ≡ end_of book

pub record LeavesRow (book : Book) (item : ℕ) : Type 0 where
  pub one_less : items_left (added book item) + 1 ≡ items_left book
  pub same_end : end_of (added book item) ≡ end_of book
  pub head_on : book.head ≤ (added book item).head
  pub row_stays : (ring row : List ℕ) → added_row book ring row item ≡ row

module _ (book : Book) (sound : Sound book) where
  abbrev slots : ℕ
  slots = slots_of book

  -- how many slots of the group there are from head on
  ahead : end_of book - book.head ≡ suc (end_of book - book.head - 1)
  ahead = omega (arith, (group_end_lem slots book.head sound.head_high).behind)

  times : (end_of book - book.head) * block_of book ≡ block_of book + (end_of book - book.head - 1) * block_of book
  times =
      ap (λ (n : ℕ). n * block_of book) ahead ∙ suc-mul (end_of book - book.head - 1) (block_of book) ∙ omega arith

  pub some_left : 1 ≤ items_left book
  unfolding items_left
  some_left = omega (arith, times, sound.phase_high)

  -- one item less, the same end, and head not further back
  abbrev Less : Book → Type 0
  Less next = (items_left next + 1 ≡ items_left book) × (end_of next ≡ end_of book) × (book.head ≤ next.head)

  less_open : (item : ℕ) → (book.phase + 1 ≡ block_of book → ⊥) → Less (added_open book item)
  unfolding items_left
  less_open item more = (omega (arith, times, sound.phase_high, more), refl, omega arith)

  less_closed : (item : ℕ) → book.phase + 1 ≡ block_of book → (book.head + 1 ≡ end_of book → ⊥) → Less (added_closed book item)
  unfolding items_left
  less_closed item full inside =
      let lies = group_end_lem slots book.head sound.head_high in
      let further : book.head + 1 < end_of book = omega (arith, inside, lies.behind) in
      let same : group_end slots (book.head + 1) ≡ end_of book = same_group slots book.head further in
      slot_after_cases
      (λ next. ((group_end slots next - next) * block_of book - 0 + 1 ≡ (end_of book - book.head) * block_of book - book.phase)
      × (group_end slots next ≡ end_of book) × (book.head ≤ next)) slots book.head
      (λ last. absurd (omega (arith, further, lies.within)))
      (λ on. (
        let fewer : end_of book - (book.head + 1) ≡ end_of book - book.head - 1 = omega arith in
            rw (same, fewer) (omega (arith, times, sound.phase_high, full)),
        same,
        omega arith,
      ))

  pub item_cases : (item : ℕ) → Fills book ⊎ LeavesRow book item
  unfolding items_left added_row stored
  item_cases item = by (ℕ_discrete (book.phase + 1) (block_of book)) (ℕ_discrete (book.head + 1) (end_of book))
    where
      leaves : Less (added book item) → ((ring row : List ℕ) → added_row book ring row item ≡ row) → LeavesRow book item
      leaves less stays = record { one_less = less.0; same_end = less.1; head_on = less.2; row_stays = stays }

      by : Dec (book.phase + 1 ≡ block_of book) → Dec (book.head + 1 ≡ end_of book) → Fills book ⊎ LeavesRow book item
      by (yes full) (yes last) =
          let one : end_of book - book.head ≡ 1 = omega arith in
          inl (record { one_left = rw one (omega (arith, full)); closes = full; ends = last })
      by (yes full) (no inside) =
          inr
          (leaves (adding_cases (λ next ring. Less next) book [] item (λ closes. less_closed item closes inside) (λ more. absurd (more full)))
          (λ ring row. rw (eq-eqb (book.phase + 1) (block_of book) full, ne_eqb (book.head + 1) (end_of book) inside)))
      by (no more) d =
          inr
          (leaves (adding_cases (λ next ring. Less next) book [] item (λ closes. absurd (more closes)) (λ open_still. less_open item more))
          (λ ring row. rw (ne_eqb (book.phase + 1) (block_of book) more)))

-- the item that fills the group stores its sum
pub filled : (book : Book) (ring row : List ℕ) (item : ℕ) → Fills book
    → added_row book ring row item ≡ set row (entry_at (end_of book)) (sum_to (held_in book (added_ring book ring item)) (end_of book))
unfolding added_row stored
filled book ring row item f =
    rw (eq-eqb (book.phase + 1) (block_of book) f.closes, eq-eqb (book.head + 1) (end_of book) f.ends, f.ends)

-- what a book with other items has of its numbers
same_held : (book : Book) (item : ℕ) (ring : List ℕ) → held_in (added book item) ring ≡ held_in book ring
same_held book item ring =
    let same = added_same book item in
    ap₂ (λ (l d : ℕ). held_in (record {
      bound = l;
      length = 0;
      tolerance = d;
      carry = 0;
      phase = 0;
      kept = 0;
      head = 0;
      resting = 0;
    }) ring) same.bound_same same.tolerance_same

-- one item leaves every slot but head's
item_leaves : (book : Book) (ring : List ℕ) (item : ℕ) → Usable book (length ring) → item ≤ book.bound → (slot : ℕ) → (slot ≡ book.head → ⊥)
    → held_in book (added_ring book ring item) slot ≡ held_in book ring slot
item_leaves book ring item usable small slot other =
    let sound = usable.sound in
    let whole = book_lent book.bound book.length book.tolerance (length ring) sound.ranges usable.room in
    adding_cases (λ next left. held_in book left slot ≡ held_in book ring slot) book ring item
    (λ closes. other_stays (width_of book) (slots_of book) ring whole book.head sound.head_high (quotient_of book item)
    (quotient_in book sound item small closes) slot other)
    (λ more. refl)

-- behind the item that fills the group head stands at its end, or at 0 behind the last slot
head_behind : (book : Book) (item : ℕ) → Fills book → ((added book item).head ≡ 0) ⊎ ((added book item).head ≡ end_of book)
head_behind book item fills =
    adding_cases (λ next left. (next.head ≡ 0) ⊎ (next.head ≡ end_of book)) book [] item
    (λ closes. slot_after_cases (λ slot. (slot ≡ 0) ⊎ (slot ≡ end_of book)) (slots_of book) book.head (λ last. inl refl) (λ on. inr fills.ends))
    (λ more. absurd (more fills.closes))

-- A PART of the counts: what becomes of the row, where head stands behind a part that fills the group, and that no slot in front of head is written
pub record Part (book : Book) (ring row counts : List ℕ) : Type 0 where
  pub inside : length counts < items_left book → added_all_row book ring row counts ≡ row
  pub full : length counts ≡ items_left book
      → added_all_row book ring row counts ≡ set row (entry_at (end_of book)) (sum_to (held_in book (added_all_ring book ring counts)) (end_of book))
  pub full_head : length counts ≡ items_left book → ((added_all book counts).head ≡ 0) ⊎ ((added_all book counts).head ≡ end_of book)
  pub front : (slot : ℕ) → slot < book.head → held_in book (added_all_ring book ring counts) slot ≡ held_in book ring slot

pub of_a_part : (book : Book) (ring row counts : List ℕ) → Usable book (length ring) → any_above book.bound counts ≡ false
    → length counts ≤ items_left book → Part book ring row counts
of_a_part book ring row [] usable small few =
    let none : (length {A = ℕ} [] ≡ items_left book) → ⊥ = λ e. let some = some_left book usable.sound in omega arith in
    record {
      inside = λ lt. row_none book ring row;
      full = λ e. absurd (none e);
      full_head = λ e. absurd (none e);
      front = λ slot lt. rw (all_none book ring).1 refl;
    }
of_a_part book ring row (count ∷ later) usable small few =
    let fits = above_cons book.bound count later small in
    by (item_leaves book ring count usable fits.0) (item_cases book usable.sound count)
    (of_a_part (added book count) (added_ring book ring count) row later (added_usable book ring count usable fits.0)
    (rw (added_same book count).bound_same fits.1))
  where
    by : ((slot : ℕ) → (slot ≡ book.head → ⊥) → held_in book (added_ring book ring count) slot ≡ held_in book ring slot)
        → Fills book ⊎ LeavesRow book count
        → (length later ≤ items_left (added book count) → Part (added book count) (added_ring book ring count) row later)
        → Part book ring row (count ∷ later)
    by one (inl fills) others = last later (omega (arith, few, fills.one_left))
      where
        last : (rest : List ℕ) → length rest ≡ 0 → Part book ring row (count ∷ rest)
        last [] e =
            let record_is = (all_more book ring count []).0 ∙ (all_none (added book count) (added_ring book ring count)).0 in
            let ring_is = (all_more book ring count []).1 ∙ (all_none (added book count) (added_ring book ring count)).1 in
            record {
              inside = λ lt. absurd (omega (arith, fills.one_left));
              full = λ e. rw ring_is
                  (row_more book ring row count [] ∙ row_none (added book count) (added_ring book ring count) (added_row book ring row count)
                  ∙ filled book ring row count fills);
              full_head = λ e. rw record_is (head_behind book count fills);
              front = λ slot lt. rw ring_is (one slot (λ q. omega arith));
            }
        last (other ∷ rest) e = absurd (omega arith)
    by one (inr leaves) others =
        let next = added book count in
        let next_ring = added_ring book ring count in
        let rest = others (omega (arith, few, leaves.one_less)) in
        let stays = row_more book ring row count later ∙ ap (λ (r : List ℕ). added_all_row next next_ring r later) (leaves.row_stays ring row) in
        record {
          inside = λ lt. stays ∙ rest.inside (omega (arith, leaves.one_less));
          full = λ e. stays ∙ rest.full (omega (arith, leaves.one_less))
              ∙ rw (leaves.same_end, same_held book count (added_all_ring next next_ring later), (all_more book ring count later).1);
          full_head = λ e. rw ((all_more book ring count later).0, sym leaves.same_end) (rest.full_head (omega (arith, leaves.one_less)));
          front = λ slot lt. ap (λ (r : List ℕ). held_in book r slot) (all_more book ring count later).1
              ∙ (λ i. sym (same_held book count (added_all_ring next next_ring later)) i slot)
              ∙ rest.front slot (omega (arith, leaves.head_on)) ∙ (λ i. same_held book count next_ring i slot) ∙ one slot (λ q. omega arith);
        }

-- after counts that are taken the record is a book still, with its numbers and its mark
pub record Stays (book last : Book) (left : List ℕ) : Type 0 where
  pub usable : Usable last (length left)
  pub bound_same : last.bound ≡ book.bound
  pub length_same : last.length ≡ book.length
  pub tolerance_same : last.tolerance ≡ book.tolerance
  pub mark_same : last.resting ≡ book.resting

pub still_a_book : (book : Book) (ring counts : List ℕ) → Usable book (length ring) → any_above book.bound counts ≡ false
    → Stays book (added_all book counts) (added_all_ring book ring counts)
still_a_book book ring [] usable small =
    rw ((all_none book ring).0, (all_none book ring).1)
    (record { usable = usable; bound_same = refl; length_same = refl; tolerance_same = refl; mark_same = refl })
still_a_book book ring (count ∷ later) usable small =
    let fits = above_cons book.bound count later small in
    let same = added_same book count in
    let rest = still_a_book (added book count) (added_ring book ring count) later
    (added_usable book ring count usable fits.0) (rw same.bound_same fits.1) in
    rw ((all_more book ring count later).0, (all_more book ring count later).1)
    (record {
      usable = rest.usable;
      bound_same = rest.bound_same ∙ same.bound_same;
      length_same = rest.length_same ∙ same.length_same;
      tolerance_same = rest.tolerance_same ∙ same.tolerance_same;
      mark_same = rest.mark_same ∙ added_mark book count;
    })
