-- A TOTAL READS FEW (promise C-16.4): whatever record, ring, row and window, at most 64 fields and 3 stored sums; and where it is not refused,
-- as many as the rule says. (A refused one gives 0 for both.)
-- Assumes nothing.
use Prim.Native.Nat.{ℕ, ◌≤◌, ◌<◌}
use native.Mathlib.Omega.{arith}
use mathlib.Core.List.{List}
use mathlib.Core.Logic.{◌⊎◌, inl, inr}
use mathlib.Core.Path.{◌≡◌, refl, sym, ap}
use borrow.Author.Tests.{le-leb, lt-leb}
use Rattle.refusals.specs.Call.{refusal_of, result_of}
use Rattle.refusals.proofs.Calls.{result_taken, result_cases}
use Rattle.book.specs.declared.Book.{Book}
use Rattle.book.specs.Record.{slots_of}
use Rattle.book.specs.Sound.{Sound}
use Rattle.book.specs.Figure.{slots_for}
use Rattle.book.proofs.Promises.{le_or_lt, for_high}
use Rattle.sums.specs.declared.told.Summed.{Summed}
use Rattle.sums.specs.Rule.{fields_for, sums_for}
use Rattle.sums.specs.Calls.{total_row_call}
use Rattle.sums.proofs.ByTheRule.{fields_few, sums_few}
use Rattle.sums.proofs.TotalWithRow.{total_row_known}

-- of a book, for every window that is kept
module _ (book : Book) (sound : Sound book) (window : ℕ) (kept : window ≤ book.kept) where
  few_for : (fields_for book window ≤ 64) × (sums_for book window ≤ 3)
  unfolding fields_for sums_for
  few_for = by (le_or_lt window book.phase)
    where
      by : (window ≤ book.phase) ⊎ (book.phase < window) → (fields_for book window ≤ 64) × (sums_for book window ≤ 3)
      by (inl inside) = rw (le-leb window book.phase inside) (omega arith, omega arith)
      by (inr longer) =
          let most = for_high book sound window longer kept in
          let fields = fields_few (slots_of book) book.head (slots_for book window) sound.head_high most in
          rw (lt-leb window book.phase longer)
          (omega arith, sums_few (slots_of book) book.head (slots_for book window) sound.head_high most)

module _ (book : Book) (ring row : List ℕ) (window : ℕ) where
  -- the counts are the rule's
  pub counts_by_rule : refusal_of (total_row_call book ring row window) ≡ 0
      → ((result_of (total_row_call book ring row window)).fields ≡ fields_for book window)
      × ((result_of (total_row_call book ring row window)).sums ≡ sums_for book window)
  unfolding total_row_call
  counts_by_rule taken =
      let gives = sym (result_taken (total_row_call book ring row window) (sym taken) refl) in
      (ap (λ (r : Summed). r.fields) gives, ap (λ (r : Summed). r.sums) gives)

  pub few_read : ((result_of (total_row_call book ring row window)).fields ≤ 64) × ((result_of (total_row_call book ring row window)).sums ≤ 3)
  unfolding total_row_call
  few_read =
      result_cases (λ (r : Summed). (r.fields ≤ 64) × (r.sums ≤ 3)) (total_row_call book ring row window)
      (λ e. (let known = total_row_known book ring row window e in few_for book known.0.sound window known.1))
      (λ number e. (omega arith, omega arith))
