-- Demand 1 and uniqueness of each call with a row: what its statement says is what its row says.
-- `Post` is the statement itself, as it stands at the function in src/; what is only read is left as it came.
-- Assumes nothing.
use Prim.Native.Nat.{ℕ}
use mathlib.Core.List.{List, [], ◌∷◌, ◌++◌}
use mathlib.Core.Path.{◌≡◌, refl, ap}
use contract.Lifetimes.{Lfts}
use lib.ListN.{length}
use Rattle.refusals.specs.Call.{left_of}
use Rattle.refusals.specs.Demand1.{Tells, Promised}
use Rattle.refusals.proofs.Calls.{asks_leaves, promised, tells}
use Rattle.book.specs.declared.Book.{Book}
use Rattle.book.specs.declared.told.Updated.{Updated}
use Rattle.book.specs.declared.told.Ran.{Ran}
use Rattle.book.specs.Derived.{slot_count, bytes_needed}
use Rattle.book.specs.Shape.{number_faults}
use Rattle.book.specs.Calls.{room_fault, book_faults, rest_fault, item_fault, counts_fault, open_call, add_call, run_call}
use Rattle.book.proofs.Promises.{open_refusal, open_number, open_back, add_refusal, add_number, add_hands_back, run_refusal, run_number, run_hands_back}
use Rattle.sums.specs.declared.told.Summed.{Summed}
use Rattle.sums.specs.Row.{entries_for, entries_of}
use Rattle.book.specs.Record.{no_book_at_all}
use Rattle.book.specs.Told.{as_updated, as_ran}
use Rattle.sums.specs.Told.{as_summed}
use Rattle.sums.specs.Calls.{open_row_call, add_row_call, run_row_call, total_row_call}
use Rattle.sums.proofs.BesideTheBook.{with_row_tells}
use Rattle.sums.proofs.open.Reads as open_reads
use Rattle.sums.proofs.add.Reads as add_reads
use Rattle.sums.proofs.run.Reads as run_reads
use Rattle.sums.proofs.total.Reads as total_reads

-- what each tells of its refusal
pub open_row_tells : (bound n tolerance : ℕ) (ring row : List ℕ) → Tells (λ (r : Updated). r.refusal) (open_row_call bound n tolerance ring row)
unfolding open_row_call
open_row_tells bound n tolerance ring row =
    with_row_tells (open_call bound n tolerance ring)
    (number_faults bound n tolerance ++ room_fault (bytes_needed bound n tolerance) (length ring) ∷ []) []
    (open_refusal bound n tolerance ring) (entries_for (slot_count bound n tolerance)) row _
    (λ (r : Updated). r.refusal) (open_number bound n tolerance ring)
    (λ number. ap (λ (r : Updated). r.refusal) ((open_back bound n tolerance ring).0 number)) tt

module _ (book : Book) (ring row : List ℕ) where
  pub add_row_tells : (item : ℕ) → Tells (λ (r : Updated). r.refusal) (add_row_call book ring row item)
  unfolding add_row_call
  add_row_tells item =
      with_row_tells (add_call book ring item) (book_faults book (length ring))
      (rest_fault book ∷ item_fault book item ∷ []) (add_refusal book ring item) (entries_of book) row _
      (λ (r : Updated). r.refusal) (add_number book ring item) (λ number. ap (λ (r : Updated). r.refusal) (add_hands_back book ring item number)) tt

  pub run_row_tells : (counts : List ℕ) → Tells (λ (r : Ran). r.refusal) (run_row_call book ring row counts)
  unfolding run_row_call
  run_row_tells counts =
      with_row_tells (run_call book ring counts) (book_faults book (length ring))
      (rest_fault book ∷ counts_fault book counts ∷ []) (run_refusal book ring counts) (entries_of book) row _
      (λ (r : Ran). r.refusal) (run_number book ring counts) (λ number. ap (λ (r : Ran). r.refusal) (run_hands_back book ring counts number)) tt

-- … and that a total leaves ring and row
module _ (book : Book) (ring row : List ℕ) (window : ℕ) where
  pub total_row_tells : Tells (λ (r : Summed). r.refusal) (total_row_call book ring row window)
  unfolding total_row_call
  total_row_tells = tells tt refl (λ number. refl)

  pub total_row_leaves : record { ring = ring; row = row } ≡ left_of (total_row_call book ring row window)
  unfolding total_row_call
  total_row_leaves = asks_leaves (total_row_call book ring row window) refl

-- In `a` stand the arguments in their order, ring and row among them, in `e` the same as the call returns.
module _ (κs : Lfts 2) where
  pub open_row_promised : Promised (open_reads.Post κs) (λ a r. as_updated no_book_at_all r) (λ a e. record { ring = e.1.1.1.0.now; row = e.1.1.1.1.0.now })
      (λ a. open_row_call a.0 a.1.0 a.1.1.0 a.1.1.1.0.now a.1.1.1.1.0.now) (λ (r : Updated). r.refusal)
  open_row_promised =
      promised _ _ _ _ (λ a r e p. (p.0, λ i. record { ring = p.1 i; row = p.2 i })) _ (λ a. open_row_tells _ _ _ _ _)

  pub add_row_promised : Promised (add_reads.Post κs) (λ a r. as_updated a.0 r) (λ a e. record { ring = e.1.0.now; row = e.1.1.0.now })
      (λ a. add_row_call a.0 a.1.0.now a.1.1.0.now a.1.1.1.0) (λ (r : Updated). r.refusal)
  add_row_promised =
      promised _ _ _ _ (λ a r e p. (p.0, λ i. record { ring = p.1 i; row = p.2 i })) _ (λ a. add_row_tells _ _ _ _)

  pub total_row_promised : Promised (total_reads.Post κs) (λ a r. as_summed r) (λ a e. record { ring = a.1.0.now; row = a.1.1.0.now })
      (λ a. total_row_call a.0 a.1.0.now a.1.1.0.now a.1.1.1.0) (λ (r : Summed). r.refusal)
  total_row_promised = promised _ _ _ _ (λ a r e p. (p, total_row_leaves _ _ _ _)) _ (λ a. total_row_tells _ _ _ _)

-- a run of counts, which are lent beside them
pub run_row_promised : (κs : Lfts 3) → Promised (run_reads.Post κs) (λ a r. as_ran a.0 r) (λ a e. record { ring = e.1.0.now; row = e.1.1.0.now })
    (λ a. run_row_call a.0 a.1.0.now a.1.1.0.now a.1.1.1.0.now) (λ (r : Ran). r.refusal)
run_row_promised κs =
    promised _ _ _ _ (λ a r e p. (p.0, λ i. record { ring = p.1 i; row = p.2 i })) _ (λ a. run_row_tells _ _ _ _)
