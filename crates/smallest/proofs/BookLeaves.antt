-- THE BOOK (promises C-24.1, C-24.2): it takes every solid history, item by item, and none is refused; it is one way of storing that keeps the
-- answers within the tolerance, by demand 2; and so two different solid histories leave a different record or different ring bytes.
-- Nothing here looks into a book. What is known of it: demand 2, what a run from an opening keeps, that opening leaves it awake, that it then takes
-- every run without a count above L, and that a run is adding one by one.
-- Assumes nothing.
use Prim.Native.Nat.{ℕ, ◌≤◌, min}
use native.Mathlib.Decide.{ℕ_discrete}
use native.Mathlib.Omega.{arith}
use mathlib.Core.Bool.{Bool, true, false, cond}
use mathlib.Core.List.{List, [], ◌∷◌, List-discrete}
use mathlib.Core.Logic.{inl, inr}
use mathlib.Core.Path.{◌≡◌, sym, ap, subst, ◌∙◌}
use lib.ListN.{length}
use Rattle.refusals.specs.Call.{refusal_of}
use Rattle.book.specs.RunOfCounts.{any_above}
use Rattle.book.specs.Calls.{open_call, run_call}
use Rattle.book.proofs.Promises.{above_append, above_replicate, opening_awake, run_is_adding, one_end}
use Rattle.demands.specs.History.{start, after_run, true_total}
use Rattle.demands.specs.Demand2.{Bounds}
use Rattle.demands.specs.RunFromOpening.{FromOpening}
use Rattle.demands.proofs.SlotsNotReached.{length_after}
use Rattle.demands.proofs.Demand2.{demand_2}
use Rattle.demands.proofs.RunFromOpening.{opening_begins, run_good, record_follows}
use Rattle.demands.proofs.RunsKeepGood.{good_takes_run, run_goes_on}
use Rattle.smallest.specs.SolidHistories.{solid_length, solid_count, leftover, solid, items_of, FullRow, SolidHistory}
use Rattle.smallest.specs.Leaving.{Left, figure_from, Differ, at_opening, LeavesBehind, left_by_run}
use Rattle.smallest.specs.Storing.{KeepsBounds}
use Rattle.smallest.specs.Saving.{AtMostBits, ReadsBack, saved}
use Rattle.smallest.proofs.OneFigure.{solid_has_n}
use Rattle.smallest.proofs.OneStateEach.{one_state_each}
use Rattle.smallest.proofs.ManyStates.{bits_needed}

-- NO ITEM IS ABOVE L
module _ (bound n tolerance : ℕ) where
  bit_small : (bit : Bool) → cond bit bound 0 ≤ bound
  bit_small true = omega arith
  bit_small false = omega arith

  solid_small : (row : List Bool) → any_above bound (items_of bound n tolerance row) ≡ false
  unfolding items_of
  solid_small [] = above_replicate bound (leftover bound n tolerance) 0 (omega arith)
  solid_small (bit ∷ later) =
      above_append bound (solid bound n tolerance bit) (items_of bound n tolerance later)
      (above_replicate bound (solid_length bound tolerance) (cond bit bound 0) (bit_small bit)) (solid_small later)

-- record and ring are all that is left
left_same : (left left' : Left) → left.book ≡ left'.book → left.ring ≡ left'.ring → left ≡ left'
left_same left left' books rings = λ i. record { book = books i; ring = rings i }

module _ (bound n tolerance : ℕ) (lent : List ℕ) (opens : refusal_of (open_call bound n tolerance lent) ≡ 0) where
  abbrev items : List Bool → List ℕ
  items = items_of bound n tolerance

  abbrev after : List Bool → Left
  after row = left_by_run bound n tolerance lent (items row)

  begins : FromOpening bound n tolerance lent (at_opening bound n tolerance lent).book (at_opening bound n tolerance lent).ring []
  begins = opening_begins bound n tolerance lent opens

  runs : (row : List Bool) → refusal_of (run_call (at_opening bound n tolerance lent).book (at_opening bound n tolerance lent).ring (items row)) ≡ 0
  runs row =
      good_takes_run _ _ [] (start bound n tolerance lent opens) (items row)
      (rw (record_follows bound n tolerance lent _ _ [] begins).bound_is (solid_small bound n tolerance row))
      (opening_awake bound n tolerance lent)

  -- NONE IS REFUSED
  pub solid_taken : (row : List Bool)
      → LeavesBehind bound n tolerance lent (items_of bound n tolerance row) (left_by_run bound n tolerance lent (items_of bound n tolerance row))
  solid_taken row = run_is_adding _ _ (items row) (runs row)

  goes_on : (row : List Bool) → FromOpening bound n tolerance lent (after row).book (after row).ring (after_run (items row) [])
  goes_on row = run_goes_on bound n tolerance lent _ _ [] begins (items row) (runs row)

  -- all n items are kept
  all_kept : (row : List Bool) → FullRow bound n tolerance row → (after row).book.kept ≡ n
  all_kept row full =
      let follows = record_follows bound n tolerance lent _ _ _ (goes_on row) in
      let as_many : length (after_run (items row) []) ≡ n = length_after (items row) [] ∙ omega (arith, solid_has_n bound n tolerance row full) in
      follows.kept_is ∙ ap (λ (k : ℕ). min n k) as_many ∙ omega arith

  -- THE ANSWERS ARE WITHIN THE TOLERANCE, by demand 2
  pub book_keeps_bounds : KeepsBounds bound n tolerance (left_by_run bound n tolerance lent) figure_from
  book_keeps_bounds row full window inside =
      let run = goes_on row in
      let good = run_good bound n tolerance lent _ _ _ run in
      subst (λ (D : ℕ). Bounds (figure_from (after row) window) (true_total window (after_run (items row) [])) D)
      (record_follows bound n tolerance lent _ _ _ run).tolerance_is
      (demand_2 _ _ _ good window (omega (arith, inside, all_kept row full))).bounds

  -- what adding them one by one leaves is what the run leaves
  by_run : (row : List Bool) (left : Left) → LeavesBehind bound n tolerance lent (items row) left → after row ≡ left
  by_run row left leaves =
      let same = one_end _ _ (items row) _ left.book _ left.ring (solid_taken row) leaves in
      left_same (after row) left same.0 same.1

  -- so the same record with the same ring is left by one history alone
  same_history : (one other : List ℕ) (left left' : Left) → SolidHistory bound n tolerance one → SolidHistory bound n tolerance other
      → LeavesBehind bound n tolerance lent one left → LeavesBehind bound n tolerance lent other left' → left ≡ left' → one ≡ other
  same_history one other left left' solid solid' leaves leaves' same =
      let first = by_run solid.row left (rw solid.items_are at leaves) in
      let second = by_run solid'.row left' (rw solid'.items_are at leaves') in
      let each = one_state_each bound n tolerance (left_by_run bound n tolerance lent) figure_from book_keeps_bounds in
      let rows : solid.row ≡ solid'.row = each solid.row solid'.row solid.full solid'.full (first ∙ same ∙ sym second) in
      solid.items_are ∙ ap items rows ∙ sym solid'.items_are

  -- A DIFFERENT RECORD OR DIFFERENT RING BYTES
  pub leave_different : (one other : List ℕ) → SolidHistory bound n tolerance one → SolidHistory bound n tolerance other → (one ≡ other → ⊥)
      → (left left' : Left) → LeavesBehind bound n tolerance lent one left → LeavesBehind bound n tolerance lent other left' → Differ left left'
  leave_different one other solid solid' apart left left' leaves leaves' = by (List-discrete ℕ_discrete left.ring left'.ring)
    where
      by : Dec (left.ring ≡ left'.ring) → Differ left left'
      by (yes rings) = inl (λ books. apart (same_history one other left left' solid solid' leaves leaves' (left_same left left' books rings)))
      by (no rings) = inr rings

  -- SAVED AS BITS, in any way in which they can be read back: if record and ring together never take more than `most` bits after a solid history,
  -- `most` is at least the number of its blocks
  pub saved_bits : (write : Left → List Bool) (read : List Bool → Left) → ReadsBack bound n tolerance lent write read
      → (most : ℕ) → AtMostBits bound n tolerance (saved bound n tolerance lent write) most
      → solid_count bound n tolerance ≤ most
  saved_bits write read back most few =
      bits_needed bound n tolerance (saved bound n tolerance lent write) (λ state. figure_from (read state))
      (λ row full window inside. subst
      (λ (left : Left). Bounds (figure_from left window) (true_total window (after_run (items row) [])) tolerance)
      (sym (back row full)) (book_keeps_bounds row full window inside)) most few
