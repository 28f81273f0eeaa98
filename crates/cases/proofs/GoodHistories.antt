-- The histories of the trends' rows are those of good books (promise C-18.2), as every history is whose opening is taken.
-- Assumes nothing.
use Prim.Native.Nat.{ℕ, zero, suc}
use native.Mathlib.Omega.{arith}
use mathlib.Core.List.{List, ◌∷◌}
use mathlib.Core.Path.{◌≡◌, refl, sym, subst}
use Rattle.refusals.specs.First.{unless_refused}
use Rattle.refusals.specs.Call.{Call, refusal_of, result_of, left_of, seen_as}
use Rattle.refusals.proofs.Calls.{seen_result, seen_left}
use Rattle.ring.specs.Slot.{ring_bytes}
use Rattle.book.specs.declared.Book.{Book}
use Rattle.book.specs.declared.told.Updated.{Updated}
use Rattle.book.specs.Derived.{ceil_div, block_length, slot_count, largest_quotient, digits_within, binary_digits, field_width, bytes_needed}
use Rattle.book.specs.Calls.{open_call, add_call}
use Rattle.demands.specs.History.{Good, start, adding}
use Rattle.demands.proofs.IdleCalls.{after_refused_item}
use Rattle.cases.specs.History.{L◌n◌D◌lent◌, History, opened, ◌then◌, start_of, State, state_of}
use Rattle.cases.specs.GoodHistory.{Opens, LeavesGood}
use Rattle.cases.specs.Table.{case_a, far_below, far_above, other_sign, level}

-- one more item: it is taken, or refused and leaves all as it was
module _ (history : History) (good : LeavesGood history) (item : ℕ) where
  abbrev before : State
  before = state_of history

  abbrev call : Call Updated (List ℕ)
  call = add_call before.book before.ring item

  abbrev record_in : Updated → Book
  record_in result = result.book

  by : (number : ℕ) → refusal_of call ≡ number
      → Good (result_of call).book (left_of call) (unless_refused number (item ∷ before.accepted) before.accepted)
  by zero none = adding before.book before.ring before.accepted good item none
  by (suc number) some =
      let same = after_refused_item before.book before.ring before.accepted good item (λ none. omega (arith, none, some)) in
      subst (λ (ring : List ℕ). Good (result_of call).book ring before.accepted) (sym (seen_left record_in call))
      (subst (λ (book : Book). Good book (left_of (seen_as record_in call)) before.accepted) (sym (seen_result record_in call)) same)

  item_good : LeavesGood (history then item)
  item_good = by (refusal_of call) refl

pub history_good : (history : History) → Opens (start_of history) → LeavesGood history
history_good (opened (L bound n length D tolerance lent ring)) opens = start bound length tolerance ring opens
history_good (history then item) opens = item_good history (history_good history opens) item

-- both ends, the other sign, zero, and case A
pub trends_of_good_books : LeavesGood far_below × LeavesGood far_above × LeavesGood other_sign × LeavesGood level × LeavesGood case_a
unfolding open_call bytes_needed ring_bytes field_width binary_digits digits_within largest_quotient slot_count block_length ceil_div
trends_of_good_books =
    (history_good far_below refl, history_good far_above refl, history_good other_sign refl, history_good level refl, history_good case_a refl)
