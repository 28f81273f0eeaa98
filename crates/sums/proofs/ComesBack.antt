-- What the calls with a row hand back and leave: a refused item or run the record as it came, ring and row as they were lent; a total leaves both.
-- Assumes nothing.
use Prim.Native.Nat.{ℕ}
use mathlib.Core.List.{List}
use mathlib.Core.Path.{◌≡◌, refl}
use Rattle.book.specs.declared.Book.{Book}
use Rattle.book.proofs.Promises.{add_back, run_back}
use Rattle.sums.specs.Calls.{RingAndRow, add_row_call, run_row_call, total_row_call}

module _ (book : Book) (ring row : List ℕ) where
  abbrev both : RingAndRow
  both = record { ring = ring; row = row }

  pub add_row_back : (item : ℕ)
      → ((number : ℕ) → ((add_row_call book ring row item).back number).book ≡ book) × ((add_row_call book ring row item).lent ≡ both)
  unfolding add_row_call
  add_row_back item = let back = add_back book ring item in (back.0, λ i. record { ring = back.1 i; row = row })

  pub run_row_back : (counts : List ℕ)
      → ((number : ℕ) → ((run_row_call book ring row counts).back number).book ≡ book) × ((run_row_call book ring row counts).lent ≡ both)
  unfolding run_row_call
  run_row_back counts = let back = run_back book ring counts in (back.0, λ i. record { ring = back.1 i; row = row })

  pub total_row_asks : (window : ℕ) → ((total_row_call book ring row window).left ≡ both) × ((total_row_call book ring row window).lent ≡ both)
  unfolding total_row_call
  total_row_asks window = (refl, refl)
