-- A total with a row: its refusals beside the book's own, what it gives, and how the code reaches it.
-- Assumes nothing.
use Prim.Native.Nat.{ℕ, ◌≤◌, ◌<◌}
use native.Mathlib.Omega.{arith}
use mathlib.Core.List.{List, [], ◌∷◌}
use mathlib.Core.Path.{◌≡◌, refl, sym, ap, ◌∙◌}
use borrow.Author.Tests.{le-ltb, lt-ltb, ltb-false}
use lib.Dec.{ltb}
use lib.ListN.{length}
use Rattle.refusals.specs.Numbers.{window_too_long, row_too_short}
use Rattle.refusals.specs.First.{Fault, or_else, first_of}
use Rattle.refusals.specs.Call.{Call, refusal_of, result_of}
use Rattle.refusals.proofs.Laws.{first_append, first_stops, first_goes_on}
use Rattle.refusals.proofs.Calls.{tells, result_number, result_taken, result_refused}
use Rattle.book.specs.declared.Book.{Book}
use Rattle.book.specs.declared.told.Figure.{Figure}
use Rattle.book.specs.Sound.{Usable}
use Rattle.book.specs.Calls.{book_faults, window_fault, total_call}
use Rattle.book.proofs.Promises.{total_refusal, total_taken, total_known, total_gives}
use Rattle.sums.specs.declared.told.Summed.{Summed}
use Rattle.sums.specs.Row.{entries_of}
use Rattle.sums.specs.Rule.{fields_for, sums_for, figure_by_row}
use Rattle.sums.specs.Calls.{RingAndRow, row_fault, total_row_call}
use Rattle.sums.proofs.RowFirst.{room_known}
use Rattle.sums.proofs.Judging.{use_passes, row_next}
use Rattle.sums.proofs.FigureByTheRow.{figure_inside, fields_inside, sums_inside}

module _ (book : Book) (ring row : List ℕ) (window : ℕ) where
  abbrev up_to4 : List Fault
  up_to4 = book_faults book (length ring)

  abbrev behind : List Fault
  behind = window_fault book window ∷ []

  abbrev call : Call Summed RingAndRow
  call = total_row_call book ring row window

  abbrev own : Call Figure (List ℕ)
  own = total_call book ring window

  -- A TOTAL with a row is taken exactly where the book's own is and the row has room: with room it has the refusals of the book's own …
  pub total_beside : entries_of book ≤ length row → refusal_of call ≡ refusal_of own
  unfolding total_row_call
  total_beside room =
      first_append up_to4 (row_fault (entries_of book) (length row) ∷ behind)
      ∙ rw (le-ltb (length row) (entries_of book) room) (sym (first_append up_to4 behind)) ∙ sym (total_refusal book ring window)

  -- … and with none, the faults up to 4 come first, and then 18
  pub total_short : length row < entries_of book → refusal_of call ≡ or_else (first_of up_to4) row_too_short
  unfolding total_row_call
  total_short few = first_append up_to4 (row_fault (entries_of book) (length row) ∷ behind) ∙ rw (lt-ltb (length row) (entries_of book) few)

  module _ (taken : refusal_of call ≡ 0) where
    total_row_room : entries_of book ≤ length row
    unfolding total_row_call
    total_row_room = ltb-false (length row) (entries_of book) (room_known up_to4 behind (ltb (length row) (entries_of book)) taken)

    pub total_row_known : Usable book (length ring) × (window ≤ book.kept)
    total_row_known = total_known book ring window (sym (total_beside total_row_room) ∙ taken)

    pub total_row_gives : result_of call ≡ record {
      refusal = 0;
      figure = figure_by_row book ring row window;
      fields = fields_for book window;
      sums = sums_for book window;
    }
    unfolding total_row_call
    total_row_gives = sym (result_taken call (sym taken) refl)

  -- it tells its refusal, and where it is refused all else is 0
  pub total_row_number : (result_of call).refusal ≡ refusal_of call
  unfolding total_row_call
  total_row_number = result_number (λ (r : Summed). r.refusal) call (tells tt refl (λ number. refl))

  pub total_row_refused : (refusal_of call ≡ 0 → ⊥) → result_of call ≡ record { refusal = refusal_of call; figure = 0; fields = 0; sums = 0 }
  unfolding total_row_call
  total_row_refused some = sym (result_refused call refl some)

  -- AS THE CODE REACHES IT
  -- a fault up to 4 is its refusal
  pub book_refused : {n : ℕ} → n ≡ first_of up_to4 → (n ≡ 0 → ⊥) → record { refusal = n; figure = 0; fields = 0; sums = 0 } ≡ result_of call
  unfolding total_row_call
  book_refused {n} n_is some = result_refused call (first_stops up_to4 (row_fault (entries_of book) (length row) ∷ behind) n n_is some) some

  -- and of a book with its ring
  module _ (usable : Usable book (length ring)) where
    -- 18, where the row is too short
    pub row_refused : {number : ℕ} → number ≡ first_of (row_fault (entries_of book) (length row) ∷ []) → (number ≡ 0 → ⊥)
        → record { refusal = number; figure = 0; fields = 0; sums = 0 } ≡ result_of call
    unfolding total_row_call
    row_refused found some =
        result_refused call (row_next up_to4 behind (entries_of book) (length row) (use_passes book (length ring) usable) found some) some

    module _ (room : entries_of book ≤ length row) where
      -- 5, where the window is longer than kept
      pub long_refused : book.kept < window → record { refusal = window_too_long; figure = 0; fields = 0; sums = 0 } ≡ result_of call
      unfolding total_row_call
      long_refused long = result_refused call (sym five) (λ e. omega arith)
        where
          five : refusal_of call ≡ window_too_long
          five =
              first_goes_on up_to4 (row_fault (entries_of book) (length row) ∷ behind) (use_passes book (length ring) usable)
              ∙ rw (le-ltb (length row) (entries_of book) room, lt-ltb book.kept window long)

      module _ (kept : window ≤ book.kept) where
        own_taken : refusal_of own ≡ 0
        own_taken = total_taken book ring window usable kept

        taken : refusal_of call ≡ 0
        taken = total_beside room ∙ own_taken

        -- the book's own figure, where no slot is needed
        pub inside_open : window ≤ book.phase
            → record { refusal = 0; figure = (result_of own).figure; fields = 0; sums = 0 } ≡ result_of call
        unfolding total_row_call
        inside_open inside =
            (λ i. record {
              refusal = 0;
              figure = (ap (λ (f : Figure). f.figure) (total_gives book ring window own_taken) ∙ sym (figure_inside book ring row window inside)) i;
              fields = sym (fields_inside book ring row window inside) i;
              sums = sym (sums_inside book ring row window inside) i;
            })
            ∙ result_taken call (sym taken) refl

        -- and otherwise the figure by the row
        pub by_the_row : record {
          refusal = 0;
          figure = figure_by_row book ring row window;
          fields = fields_for book window;
          sums = sums_for book window;
        } ≡ result_of call
        unfolding total_row_call
        by_the_row = result_taken call (sym taken) refl
