-- UNIQUENESS of the results themselves, of each call with a row: each form in which results are seen tells them apart, so that what is settled of the
-- numbers (proofs/Demand1.antt) is settled of the result.
-- Assumes nothing.
use Prim.Native.Nat.{ℕ, ◌≤◌, ◌<◌}
use mathlib.Core.Bool.{true}
use mathlib.Core.List.{List, [], ◌∷◌, ◌++◌}
use mathlib.Core.Logic.{◌⊎◌, inl, inr}
use mathlib.Core.Path.{◌≡◌, refl, sym, ap, ◌∙◌}
use contract.Lifetimes.{Lfts}
use lib.ListN.{length}
use Rattle.std.specs.Prelude.{Result}
use Rattle.refusals.specs.Numbers.{item_too_large, row_too_short}
use Rattle.refusals.specs.First.{◌gives◌}
use Rattle.refusals.specs.Call.{Call, refusal_of, result_of}
use Rattle.refusals.specs.Demand1.{Settles}
use Rattle.refusals.specs.declared.Refusal.{Refusal}
use Rattle.refusals.proofs.Laws.{first_append, first_avoids}
use Rattle.refusals.proofs.Calls.{result_number}
use Rattle.refusals.proofs.OneOutcome.{seen_apart, one_outcome}
use Rattle.book.specs.declared.Book.{Book}
use Rattle.book.specs.declared.told.Ran.{Ran}
use Rattle.book.specs.Record.{no_book_at_all}
use Rattle.book.specs.Calls.{book_faults}
use Rattle.book.proofs.Promises.{updated_apart, ran_apart, run_placed, le_or_lt}
use Rattle.sums.specs.declared.RowTotal.{RowTotal}
use Rattle.sums.specs.declared.told.Summed.{Summed}
use Rattle.sums.specs.Row.{entries_of}
use Rattle.sums.specs.Told.{as_summed}
use Rattle.sums.specs.Calls.{RingAndRow, run_row_call}
use Rattle.sums.proofs.Taken.{run_beside}
use Rattle.sums.proofs.Demand1.{run_row_tells, open_row_promised, add_row_promised, run_row_promised, total_row_promised}
use Rattle.sums.proofs.open.Reads as open_reads
use Rattle.sums.proofs.add.Reads as add_reads
use Rattle.sums.proofs.run.Reads as run_reads
use Rattle.sums.proofs.total.Reads as total_reads

-- a total in numbers is the one result that looks so
summed_apart : (r r' : Result RowTotal Refusal) → as_summed r ≡ as_summed r' → r ≡ r'
summed_apart =
    seen_apart _ (λ number. record { refusal = number; figure = 0; fields = 0; sums = 0 }) (λ (s : Summed). s.refusal) (λ total. refl) (λ number. refl)
    (λ x y e i. record { figure = (e i).figure; fields = (e i).fields; sums = (e i).sums })

-- with 7 a run with a row tells a place, as the book's own does: a row that is too short gives another number
module _ (book : Book) (ring row counts : List ℕ) where
  abbrev call : Call Ran RingAndRow
  call = run_row_call book ring row counts

  run_row_placed : (result_of call).refusal ≡ item_too_large → (result_of call).place ≡ 0 → ⊥
  run_row_placed seven none = by (le_or_lt (entries_of book) (length row))
    where
      refused : refusal_of call ≡ item_too_large
      refused = sym (result_number (λ (ran : Ran). ran.refusal) call (run_row_tells book ring row counts)) ∙ seven

      by : (entries_of book ≤ length row) ⊎ (length row < entries_of book) → ⊥
      by (inl room) =
          let same = ((run_beside book ring row counts).with_room room).same_result in
          run_placed book ring counts (sym (ap (λ (ran : Ran). ran.refusal) same) ∙ seven) (sym (ap (λ (ran : Ran). ran.place) same) ∙ none)
      by (inr short) =
          let judged = book_faults book (length ring) in
          first_avoids 6 (judged ++ (true gives row_too_short) ∷ []) tt
          (first_append judged ((true gives row_too_short) ∷ []) ∙ sym ((run_beside book ring row counts).without_room short) ∙ refused)

-- In `a` stand the arguments in their order, ring and row among them, in `e` the same as the call returns.
module _ (κs : Lfts 2) where
  pub open_row_settled : Settles {Lent = RingAndRow} (open_reads.Post κs) (λ a r. r) (λ a e. record { ring = e.1.1.1.0.now; row = e.1.1.1.1.0.now })
  open_row_settled = one_outcome _ _ _ (open_row_promised κs).settled (λ a r r' e e' p p'. updated_apart no_book_at_all r r')

  pub add_row_settled : Settles {Lent = RingAndRow} (add_reads.Post κs) (λ a r. r) (λ a e. record { ring = e.1.0.now; row = e.1.1.0.now })
  add_row_settled = one_outcome _ _ _ (add_row_promised κs).settled (λ a r r' e e' p p'. updated_apart a.0 r r')

  pub total_row_settled : Settles {Lent = RingAndRow} (total_reads.Post κs) (λ a r. r) (λ a e. record { ring = a.1.0.now; row = a.1.1.0.now })
  total_row_settled = one_outcome _ _ _ (total_row_promised κs).settled (λ a r r' e e' p p'. summed_apart r r')

-- a run of counts, which are lent beside them
pub run_row_settled : (κs : Lfts 3)
    → Settles {Lent = RingAndRow} (run_reads.Post κs) (λ a r. r) (λ a e. record { ring = e.1.0.now; row = e.1.1.0.now })
run_row_settled κs =
    one_outcome _ _ _ (run_row_promised κs).settled
    (λ a r r' e e' p p' alike. ran_apart a.0 _ (run_row_placed a.0 a.1.0.now a.1.1.0.now a.1.1.1.0.now) r r' p.0 p'.0)
