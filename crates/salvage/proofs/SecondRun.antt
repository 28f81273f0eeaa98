-- A SECOND RUN alters nothing, keeps kept and gives 0.
-- Assumes nothing.
use Prim.Native.Nat.{ℕ, ◌≤◌}
use mathlib.Core.List.{List, []}
use mathlib.Core.Path.{◌≡◌, ap, ◌∙◌}
use lib.ListN.{length}
use Rattle.refusals.specs.Call.{refusal_of, result_of, left_of}
use Rattle.book.specs.declared.Book.{Book}
use Rattle.book.specs.Record.{slots_of, held_in}
use Rattle.book.specs.Sound.{Usable}
use Rattle.sums.specs.Row.{entries_of}
use Rattle.salvage.specs.declared.told.Salvaged.{Salvaged}
use Rattle.salvage.specs.Altered.{altered}
use Rattle.salvage.specs.Salvaged.{capped, tail_cleared, salvaged_ring, listed, salvaged_record}
use Rattle.salvage.specs.Mended.{NoneAltered}
use Rattle.salvage.specs.Rebuilt.{rebuilt_row}
use Rattle.salvage.specs.Calls.{RingAndNumbers, RingNumbersAndRow, salvage_call, salvage_row_call}
use Rattle.salvage.specs.After.{book_after, ring_after, book_after_row, left_after_row}
use Rattle.salvage.proofs.AlteredSlots.{none_is_none}
use Rattle.salvage.proofs.Behind.{tail_again}
use Rattle.salvage.proofs.EachField.{capped_usable, none_then, salvaged_usable, none_altered_leaves}
use Rattle.salvage.proofs.RowFromFields.{rebuilt_rest, rebuilt_again}
use Rattle.salvage.proofs.WhenTaken.{salvage_known, salvage_taken, salvage_gives, salvage_row_known, salvage_row_taken, salvage_row_gives}

-- what salvage leaves of a book with its ring
module _ (book : Book) (ring : List ℕ) (usable : Usable book (length ring)) where
  abbrev book_left : Book
  book_left = salvaged_record book ring

  abbrev ring_left : List ℕ
  ring_left = salvaged_ring book ring

  -- which is a book with its ring
  usable_left : Usable book_left (length ring_left)
  usable_left = salvaged_usable book ring usable

  -- no slot of it is altered
  none_left : NoneAltered book_left ring_left
  unfolding salvaged_record
  none_left = none_then book ring usable

  none_again : altered book_left ring_left ≡ []
  none_again = (none_is_none book_left ring_left usable_left none_left).0

  -- the record stays
  book_again : salvaged_record book_left ring_left ≡ book_left
  book_again = (none_altered_leaves book_left ring_left usable_left none_left).0

  -- and so does the ring, whose last bits are cleared already
  cleared_again : tail_cleared book_left ring_left ≡ ring_left
  unfolding salvaged_record salvaged_ring tail_cleared
  cleared_again = tail_again book (capped book ring (altered book ring)) (capped_usable book ring usable)

  ring_again : salvaged_ring book_left ring_left ≡ ring_left
  ring_again = (none_altered_leaves book_left ring_left usable_left none_left).1 ∙ cleared_again

  -- so that it gives no slot
  given_again : ◌≡◌ {A = Salvaged} (record { refusal = 0; count = length (altered book_left ring_left); book = salvaged_record book_left ring_left })
      (record { refusal = 0; count = 0; book = book_left })
  given_again = λ i. record { refusal = 0; count = length (none_again i); book = book_again i }

  -- a row of slot numbers with room for the book's slots has room for those of the record that was left
  taken_again : (others : List ℕ) → slots_of book ≤ length others → refusal_of (salvage_call book_left ring_left others) ≡ 0
  unfolding salvaged_record
  taken_again others room = salvage_taken book_left ring_left others usable_left room

  -- it is salvaged again
  run_again : (others : List ℕ) → slots_of book ≤ length others
      → (result_of (salvage_call book_left ring_left others) ≡ record { refusal = 0; count = 0; book = book_left })
      × (left_of (salvage_call book_left ring_left others) ≡ record { ring = ring_left; numbers = others })
  run_again others room =
      let gives = salvage_gives book_left ring_left others (taken_again others room) in (
        gives.0 ∙ given_again,
        gives.1 ∙ (λ i. record { ring = ring_again i; numbers = listed (none_again i) others }),
      )

  -- with the row that was rebuilt
  module _ (row : List ℕ) (entries : entries_of book ≤ length row) where
    abbrev row_left : List ℕ
    row_left = rebuilt_row (slots_of book) (held_in book ring_left) row

    -- rebuilding it from the same fields leaves it, and it has room
    row_again : rebuilt_row (slots_of book_left) (held_in book_left (salvaged_ring book_left ring_left)) row_left ≡ row_left
    unfolding salvaged_record
    row_again =
        ap (λ (r : List ℕ). rebuilt_row (slots_of book) (held_in book r) row_left) ring_again
        ∙ rebuilt_again (slots_of book) (held_in book ring_left) row entries

    row_room : entries_of book_left ≤ length row_left
    unfolding salvaged_record
    row_room = rw (rebuilt_rest (slots_of book) (held_in book ring_left) row entries).same_length entries

    run_again_row : (others : List ℕ) → slots_of book ≤ length others
        → (result_of (salvage_row_call book_left ring_left others row_left) ≡ record { refusal = 0; count = 0; book = book_left })
        × (left_of (salvage_row_call book_left ring_left others row_left) ≡ record { ring = ring_left; numbers = others; row = row_left })
    run_again_row others room =
        let taken = salvage_row_taken book_left ring_left others row_left (taken_again others room) row_room in
        let gives = salvage_row_gives book_left ring_left others row_left taken in (
          gives.0 ∙ given_again,
          gives.1 ∙ (λ i. record { ring = ring_again i; numbers = listed (none_again i) others; row = row_again i }),
        )

module _ (book : Book) (ring numbers : List ℕ) (taken : refusal_of (salvage_call book ring numbers) ≡ 0) where
  -- with any row of slot numbers that has room
  pub second_run : (others : List ℕ) → slots_of book ≤ length others
      → (result_of (salvage_call (book_after book ring numbers) (ring_after book ring numbers) others)
      ≡ record { refusal = 0; count = 0; book = book_after book ring numbers })
      × (left_of (salvage_call (book_after book ring numbers) (ring_after book ring numbers) others)
      ≡ record { ring = ring_after book ring numbers; numbers = others })
  second_run others room =
      let gives = salvage_gives book ring numbers taken in
      rw (ap (λ (r : Salvaged). r.book) gives.0, ap (λ (l : RingAndNumbers). l.ring) gives.1)
      (run_again book ring (salvage_known book ring numbers taken).0 others room)

module _ (book : Book) (ring numbers row : List ℕ) (taken : refusal_of (salvage_row_call book ring numbers row) ≡ 0) where
  -- with the row that was rebuilt, too
  pub second_run_row : (others : List ℕ) → slots_of book ≤ length others
      → (result_of (salvage_row_call (book_after_row book ring numbers row) (left_after_row book ring numbers row).ring others
      (left_after_row book ring numbers row).row)
      ≡ record { refusal = 0; count = 0; book = book_after_row book ring numbers row })
      × (left_of (salvage_row_call (book_after_row book ring numbers row) (left_after_row book ring numbers row).ring others
      (left_after_row book ring numbers row).row)
      ≡ record { ring = (left_after_row book ring numbers row).ring; numbers = others; row = (left_after_row book ring numbers row).row })
  second_run_row others room =
      let gives = salvage_row_gives book ring numbers row taken in
      let known = salvage_row_known book ring numbers row taken in
      rw (
        ap (λ (r : Salvaged). r.book) gives.0,
        ap (λ (l : RingNumbersAndRow). l.ring) gives.1,
        ap (λ (l : RingNumbersAndRow). l.row) gives.1,
      )
      (run_again_row book ring (salvage_known book ring numbers known.0).0 row known.1 others room)
