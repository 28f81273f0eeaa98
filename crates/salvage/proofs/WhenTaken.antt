-- When salvage is taken, and what it then gives and leaves.
-- Assumes nothing.
use Prim.Native.Nat.{ℕ, ◌≤◌, ◌<◌}
use mathlib.Core.List.{List, [], ◌∷◌, ◌++◌}
use mathlib.Core.Path.{◌≡◌, refl, sym, ◌∙◌}
use borrow.Author.Tests.{le-ltb, lt-ltb, ltb-false}
use lib.Dec.{ltb}
use lib.ListN.{length}
use Rattle.refusals.specs.Numbers.{numbers_too_short, row_too_short}
use Rattle.refusals.specs.First.{Fault, first_of}
use Rattle.refusals.specs.Call.{refusal_of, result_of, left_of}
use Rattle.refusals.proofs.Laws.{first_goes_on, first_passed, first_both}
use Rattle.refusals.proofs.Calls.{nothing_holds, none_refuses, written_out, result_taken, left_taken}
use Rattle.book.specs.declared.Book.{Book}
use Rattle.book.specs.Record.{slots_of, held_in}
use Rattle.book.specs.Sound.{Usable}
use Rattle.book.specs.Calls.{book_faults}
use Rattle.book.proofs.Promises.{usable_known, usable_passes}
use Rattle.sums.specs.Row.{entries_of}
use Rattle.sums.specs.Calls.{row_fault}
use Rattle.salvage.specs.Altered.{altered}
use Rattle.salvage.specs.Salvaged.{salvaged_ring, listed, salvaged_record}
use Rattle.salvage.specs.Rebuilt.{rebuilt_row}
use Rattle.salvage.specs.Calls.{numbers_fault, salvage_call, salvage_row_call}

-- 8, 4 and 21, where so many bytes and so many entries are lent
abbrev pub salvage_faults : Book → ℕ → ℕ → List Fault
salvage_faults book lent entries = book_faults book lent ++ numbers_fault book entries ∷ []

-- 8 and 4 are passed by a book with its ring, and then 21 decides
pub usable_then_21 : (book : Book) (lent entries : ℕ) → Usable book lent
    → first_of (salvage_faults book lent entries) ≡ first_of (numbers_fault book entries ∷ [])
usable_then_21 book lent entries usable =
    let passed = none_refuses (book_faults book lent) (usable_passes book lent [] usable tt) in
    first_goes_on (book_faults book lent) (numbers_fault book entries ∷ []) passed

module _ (book : Book) (ring numbers : List ℕ) where
  -- the refusal is the first of these that holds
  abbrev faults : List Fault
  faults = salvage_faults book (length ring) (length numbers)

  pub salvage_refusal : refusal_of (salvage_call book ring numbers) ≡ first_of faults
  unfolding salvage_call
  salvage_refusal = refl

  -- exactly where the record is a book with its ring and the row of slot numbers has room
  pub salvage_known : refusal_of (salvage_call book ring numbers) ≡ 0 → Usable book (length ring) × (slots_of book ≤ length numbers)
  salvage_known taken =
      let known =
      usable_known book (length ring) (numbers_fault book (length numbers) ∷ [])
      (nothing_holds faults (written_out faults tt) (sym salvage_refusal ∙ taken)) in
      (known.0, ltb-false (length numbers) (slots_of book) known.1.0)

  pub salvage_taken : Usable book (length ring) → slots_of book ≤ length numbers → refusal_of (salvage_call book ring numbers) ≡ 0
  salvage_taken usable room =
      salvage_refusal ∙ usable_then_21 book (length ring) (length numbers) usable ∙ rw (le-ltb (length numbers) (slots_of book) room)

  pub salvage_gives : refusal_of (salvage_call book ring numbers) ≡ 0
      → (result_of (salvage_call book ring numbers) ≡ record { refusal = 0; count = length (altered book ring); book = salvaged_record book ring })
      × (left_of (salvage_call book ring numbers) ≡ record { ring = salvaged_ring book ring; numbers = listed (altered book ring) numbers })
  unfolding salvage_call
  salvage_gives taken =
      let call = salvage_call book ring numbers in
      (sym (result_taken call (sym taken) refl), sym (left_taken call (sym taken) refl))

  -- once 8 and 4 are passed, 21 comes next
  pub numbers_21 : Usable book (length ring) → length numbers < slots_of book → refusal_of (salvage_call book ring numbers) ≡ numbers_too_short
  numbers_21 usable short =
      salvage_refusal ∙ usable_then_21 book (length ring) (length numbers) usable ∙ rw (lt-ltb (length numbers) (slots_of book) short)

  module _ (row : List ℕ) where
    -- and 18 behind them
    abbrev later : List Fault
    later = row_fault (entries_of book) (length row) ∷ []

    pub salvage_row_refusal : refusal_of (salvage_row_call book ring numbers row) ≡ first_of (faults ++ later)
    unfolding salvage_row_call
    salvage_row_refusal = refl

    -- once the call without a row is taken, 18 decides
    then_18 : refusal_of (salvage_call book ring numbers) ≡ 0 → refusal_of (salvage_row_call book ring numbers row) ≡ first_of later
    then_18 taken = salvage_row_refusal ∙ first_goes_on faults later (sym salvage_refusal ∙ taken)

    -- with a row: exactly where it is taken without one and the row has room
    pub salvage_row_known : refusal_of (salvage_row_call book ring numbers row) ≡ 0
        → (refusal_of (salvage_call book ring numbers) ≡ 0) × (entries_of book ≤ length row)
    salvage_row_known taken =
        let both = first_both faults later (sym salvage_row_refusal ∙ taken) in (
          salvage_refusal ∙ both.0,
          ltb-false (length row) (entries_of book) (first_passed (ltb (length row) (entries_of book)) 17 [] both.1).0,
        )

    pub salvage_row_taken : refusal_of (salvage_call book ring numbers) ≡ 0 → entries_of book ≤ length row
        → refusal_of (salvage_row_call book ring numbers row) ≡ 0
    salvage_row_taken taken room = then_18 taken ∙ rw (le-ltb (length row) (entries_of book) room)

    pub salvage_row_gives : refusal_of (salvage_row_call book ring numbers row) ≡ 0
        → (result_of (salvage_row_call book ring numbers row) ≡ record { refusal = 0; count = length (altered book ring); book = salvaged_record book ring })
        × (left_of (salvage_row_call book ring numbers row)
        ≡ record {
          ring = salvaged_ring book ring;
          numbers = listed (altered book ring) numbers;
          row = rebuilt_row (slots_of book) (held_in book (salvaged_ring book ring)) row;
        })
    unfolding salvage_row_call
    salvage_row_gives taken =
        let call = salvage_row_call book ring numbers row in
        (sym (result_taken call (sym taken) refl), sym (left_taken call (sym taken) refl))

    -- once 8, 4 and 21 are passed, 18 comes last
    pub row_18 : refusal_of (salvage_call book ring numbers) ≡ 0 → length row < entries_of book
        → refusal_of (salvage_row_call book ring numbers row) ≡ row_too_short
    row_18 taken short = then_18 taken ∙ rw (lt-ltb (length row) (entries_of book) short)
