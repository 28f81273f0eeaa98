-- How the code of both calls goes: it asks 8 and 4 as the book does, then 21, then 18, and a refusal hands all back; and what it makes of its
-- parts once nothing is refused.
-- Assumes nothing.
use Prim.Native.Nat.{ℕ, ◌≤◌}
use mathlib.Core.List.{List, [], ◌∷◌}
use mathlib.Core.Path.{◌≡◌, refl, sym, ap, subst, ◌∙◌}
use lib.ListN.{length}
use Rattle.refusals.specs.Call.{refusal_of, result_of, left_of}
use Rattle.refusals.proofs.Laws.{first_stops}
use Rattle.refusals.proofs.Calls.{result_refused, left_refused}
use Rattle.book.specs.declared.Book.{Book}
use Rattle.book.specs.declared.known.Known.{Known}
use Rattle.book.specs.Record.{shape_for, slots_of, held_in, record_with}
use Rattle.book.specs.Sound.{Usable}
use Rattle.sums.specs.Row.{entries_of}
use Rattle.sums.specs.Calls.{row_fault}
use Rattle.salvage.specs.declared.told.Salvaged.{Salvaged}
use Rattle.salvage.specs.Altered.{altered, how_new}
use Rattle.salvage.specs.Salvaged.{capped, tail_cleared, salvaged_ring, listed, kept_for, salvaged_record}
use Rattle.salvage.specs.Rebuilt.{rebuilt_row}
use Rattle.salvage.specs.Calls.{RingAndNumbers, RingNumbersAndRow, salvage_call, salvage_row_call}
use Rattle.salvage.specs.After.{book_after, ring_after, book_after_row, both_after}
use Rattle.salvage.proofs.AtHand.{known_usable}
use Rattle.salvage.proofs.EachField.{salvaged_is}
use Rattle.salvage.proofs.WhenTaken.{salvage_faults, salvage_refusal, salvage_taken, salvage_gives}
use Rattle.salvage.proofs.WhenTaken.{salvage_row_refusal, salvage_row_taken, salvage_row_gives}

-- A REFUSAL hands the record back as it came, with 0 slots, and leaves what was lent
module _ (book : Book) (ring numbers : List ℕ) where
  -- all comes back with it
  pub handed_back : {refusal : ℕ} {done : Salvaged} → refusal ≡ refusal_of (salvage_call book ring numbers) → (refusal ≡ 0 → ⊥)
      → done ≡ record { refusal = refusal; count = 0; book = book }
      → (done ≡ result_of (salvage_call book ring numbers))
      × (ring ≡ (left_of (salvage_call book ring numbers)).ring)
      × (numbers ≡ (left_of (salvage_call book ring numbers)).numbers)
  unfolding salvage_call
  handed_back found some is =
      let call = salvage_call book ring numbers in
      let left = left_refused call found some in
      (is ∙ result_refused call found some, ap (λ (l : RingAndNumbers). l.ring) left, ap (λ (l : RingAndNumbers). l.numbers) left)

  -- so record and ring are as they came
  pub salvage_refused : (refusal_of (salvage_call book ring numbers) ≡ 0 → ⊥)
      → (book_after book ring numbers ≡ book) × (ring_after book ring numbers ≡ ring)
  salvage_refused some =
      let back = handed_back refl some refl in
      (ap (λ (r : Salvaged). r.book) (sym back.0), sym back.1)

  module _ (row : List ℕ) where
    -- 8, 4 and 21 stand before 18
    pub asked_before_row : {refusal : ℕ} → refusal ≡ refusal_of (salvage_call book ring numbers) → (refusal ≡ 0 → ⊥)
        → refusal ≡ refusal_of (salvage_row_call book ring numbers row)
    asked_before_row {refusal} found some =
        first_stops (salvage_faults book (length ring) (length numbers)) (row_fault (entries_of book) (length row) ∷ []) refusal
        (found ∙ salvage_refusal book ring numbers) some
        ∙ sym (salvage_row_refusal book ring numbers row)

    -- with a row too
    pub handed_back_row : {refusal : ℕ} {done : Salvaged} → refusal ≡ refusal_of (salvage_row_call book ring numbers row) → (refusal ≡ 0 → ⊥)
        → done ≡ record { refusal = refusal; count = 0; book = book }
        → (done ≡ result_of (salvage_row_call book ring numbers row))
        × (ring ≡ (left_of (salvage_row_call book ring numbers row)).ring)
        × (numbers ≡ (left_of (salvage_row_call book ring numbers row)).numbers)
        × (row ≡ (left_of (salvage_row_call book ring numbers row)).row)
    unfolding salvage_row_call
    handed_back_row found some is =
        let call = salvage_row_call book ring numbers row in
        let left = left_refused call found some in (
          is ∙ result_refused call found some,
          ap (λ (l : RingNumbersAndRow). l.ring) left,
          ap (λ (l : RingNumbersAndRow). l.numbers) left,
          ap (λ (l : RingNumbersAndRow). l.row) left,
        )

    pub salvage_row_refused : (refusal_of (salvage_row_call book ring numbers row) ≡ 0 → ⊥)
        → (book_after_row book ring numbers row ≡ book) × (both_after book ring numbers row ≡ record { ring = ring; row = row })
    salvage_row_refused some =
        let back = handed_back_row refl some refl in
        (ap (λ (r : Salvaged). r.book) (sym back.0), λ i. record { ring = sym back.1 i; row = sym back.3 i })

-- WHAT WAS JUDGED is the book that was asked for, so that the call without a row is taken
module _ (known : Known) {book : Book} (same : known.book ≡ book) where
  pub numbers_are : known.shape ≡ shape_for book
  numbers_are = known.derived ∙ ap shape_for same

  in_use : {lent : ℕ} → known.shape.bytes ≤ lent → Usable book lent
  in_use {lent} room = subst (λ (b : Book). Usable b lent) same (known_usable known room)

  pub judged_taken : (ring numbers : List ℕ) → known.shape.bytes ≤ length ring → known.shape.slots ≤ length numbers
      → refusal_of (salvage_call book ring numbers) ≡ 0
  judged_taken ring numbers room entries = salvage_taken book ring numbers (in_use room) (rw numbers_are at entries)

-- ONCE THE RING WAS GONE THROUGH: the record is made of what was found
pub record_is : (book : Book) (ring : List ℕ) {u kept : ℕ} → u ≡ how_new book ring → kept ≡ kept_for book u
    → record_with book book.carry book.phase kept book.head ≡ salvaged_record book ring
record_is book ring found_is kept_is =
    ap (λ (kept : ℕ). record_with book book.carry book.phase kept book.head) (kept_is ∙ ap (kept_for book) found_is) ∙ sym (salvaged_is book ring)

-- and the bits after the last slot were cleared
pub ring_is : (book : Book) (ring : List ℕ) {gone left : List ℕ} → gone ≡ capped book ring (altered book ring) → left ≡ tail_cleared book gone
    → left ≡ salvaged_ring book ring
unfolding salvaged_ring
ring_is book ring gone-is left_is = left_is ∙ ap (tail_cleared book) gone-is

-- SO BOTH CALLS give and leave what their rows say
module _ (book : Book) (ring numbers : List ℕ) (taken : refusal_of (salvage_call book ring numbers) ≡ 0) {done : Salvaged} {ring' numbers' : List ℕ}
    (done_is : done ≡ record { refusal = 0; count = length (altered book ring); book = salvaged_record book ring })
    (left_is : ring' ≡ salvaged_ring book ring) (numbers_are : numbers' ≡ listed (altered book ring) numbers) where
  pub as_called : (done ≡ result_of (salvage_call book ring numbers))
      × (ring' ≡ (left_of (salvage_call book ring numbers)).ring)
      × (numbers' ≡ (left_of (salvage_call book ring numbers)).numbers)
  as_called =
      let gives = salvage_gives book ring numbers taken in (
        done_is ∙ sym gives.0,
        left_is ∙ sym (ap (λ (l : RingAndNumbers). l.ring) gives.1),
        numbers_are ∙ sym (ap (λ (l : RingAndNumbers). l.numbers) gives.1),
      )

  module _ (row : List ℕ) (room : entries_of book ≤ length row) {row' : List ℕ}
      (rebuilt : row' ≡ rebuilt_row (slots_of book) (held_in book ring') row) where
    -- the row was rebuilt from the ring as it was left
    row_is : row' ≡ rebuilt_row (slots_of book) (held_in book (salvaged_ring book ring)) row
    row_is = rebuilt ∙ ap (λ (r : List ℕ). rebuilt_row (slots_of book) (held_in book r) row) left_is

    pub as_called_with_row : (done ≡ result_of (salvage_row_call book ring numbers row))
        × (ring' ≡ (left_of (salvage_row_call book ring numbers row)).ring)
        × (numbers' ≡ (left_of (salvage_row_call book ring numbers row)).numbers)
        × (row' ≡ (left_of (salvage_row_call book ring numbers row)).row)
    as_called_with_row =
        let gives = salvage_row_gives book ring numbers row (salvage_row_taken book ring numbers row taken room) in (
          done_is ∙ sym gives.0,
          left_is ∙ sym (ap (λ (l : RingNumbersAndRow). l.ring) gives.1),
          numbers_are ∙ sym (ap (λ (l : RingNumbersAndRow). l.numbers) gives.1),
          row_is ∙ sym (ap (λ (l : RingNumbersAndRow). l.row) gives.1),
        )
