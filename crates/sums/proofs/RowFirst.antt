-- 18 DIRECTLY AFTER 4 (promise C-16.1): when it is given, and what it then comes to; so of a book with its ring whose row is too short every item,
-- every run and every total is refused with 18, whether or not the book rests, and whatever the item, the counts and the window are.
-- Assumes nothing.
use Prim.Native.Nat.{ℕ, zero, suc, ◌<◌}
use native.Mathlib.Omega.{arith}
use mathlib.Core.Bool.{Bool, true, false, cond}
use mathlib.Core.List.{List, [], ◌∷◌, ◌++◌}
use mathlib.Core.Path.{◌≡◌, refl, sym, ◌∙◌}
use borrow.Author.Tests.{lt-ltb}
use lib.ListN.{length, drop}
use Rattle.refusals.specs.Numbers.{row_too_short}
use Rattle.refusals.specs.First.{Fault, ◌gives◌, or_else, first_of}
use Rattle.refusals.specs.Call.{Call, refusal_of}
use Rattle.refusals.proofs.Laws.{first_append, first_goes_on}
use Rattle.refusals.proofs.Calls.{none_refuses}
use Rattle.book.specs.declared.Book.{Book}
use Rattle.book.specs.Sound.{Usable}
use Rattle.book.specs.Calls.{book_faults}
use Rattle.book.proofs.Promises.{usable_passes}
use Rattle.sums.specs.Row.{entries_of}
use Rattle.sums.specs.Calls.{RingAndRow, add_row_call, run_row_call, total_row_call}

-- FAULTS with 18 among them
module _ (earlier later : List Fault) (short : Bool) where
  apart : (rest : List Fault) → first_of (earlier ++ (short gives row_too_short) ∷ rest)
      ≡ or_else (first_of earlier) (or_else (cond short row_too_short 0) (first_of rest))
  apart rest = first_append earlier ((short gives row_too_short) ∷ rest)

  -- where nothing is refused, 18 does not hold
  pub room_known : first_of (earlier ++ (short gives row_too_short) ∷ later) ≡ 0 → short ≡ false
  room_known e = by short (first_of earlier) (sym (apart later) ∙ e)
    where
      by : (s : Bool) (n : ℕ) → or_else n (or_else (cond s row_too_short 0) (first_of later)) ≡ 0 → s ≡ false
      by false n z = refl
      by true zero z = absurd (omega arith)
      by true (suc n) z = absurd (omega arith)

-- THE CALLS. What a call asks behind the nine tests of 8 and 4. (It is taken from the call and not written out, so that an edit which moves 18
-- fails here, at a refusal that is another.)
abbrev later_faults : {Result : Type 0} → Call Result RingAndRow → List Fault
later_faults call = drop 9 call.faults

module _ (book : Book) (ring row : List ℕ) (usable : Usable book (length ring)) (short : length row < entries_of book) where
  passed : first_of (book_faults book (length ring)) ≡ 0
  passed = none_refuses (book_faults book (length ring)) (usable_passes book (length ring) [] usable tt)

  pub item_18 : (item : ℕ) → refusal_of (add_row_call book ring row item) ≡ row_too_short
  unfolding add_row_call
  item_18 item =
      first_goes_on (book_faults book (length ring)) (later_faults (add_row_call book ring row item)) passed
      ∙ simp (lt-ltb (length row) (entries_of book) short)

  pub run_18 : (counts : List ℕ) → refusal_of (run_row_call book ring row counts) ≡ row_too_short
  unfolding run_row_call
  run_18 counts =
      first_goes_on (book_faults book (length ring)) (later_faults (run_row_call book ring row counts)) passed
      ∙ simp (lt-ltb (length row) (entries_of book) short)

  pub total_18 : (window : ℕ) → refusal_of (total_row_call book ring row window) ≡ row_too_short
  unfolding total_row_call
  total_18 window =
      first_goes_on (book_faults book (length ring)) (later_faults (total_row_call book ring row window)) passed
      ∙ simp (lt-ltb (length row) (entries_of book) short)
