-- Demand 2 from the invariant: the figure of each window that is kept, in the open block and beyond it.
-- Assumes nothing.
use Prim.Native.Nat.{ℕ, zero, suc, ◌+◌, ◌-◌, ◌*◌, ◌/◌, ◌%◌, ◌≤◌, ◌<◌}
use native.Mathlib.Nat.{suc-mul, div-add-mod, mod-lt}
use native.Mathlib.Omega.{arith}
use mathlib.Core.List.{List}
use mathlib.Core.Logic.{◌⊎◌, inl, inr}
use mathlib.Core.Path.{◌≡◌, refl, ap}
use Rattle.ring.specs.Newest.{newest, sum_newest}
use Rattle.book.specs.declared.Book.{Book}
use Rattle.book.specs.Record.{block_of, slots_of}
use Rattle.book.specs.Figure.{slots_for, figure_of}
use Rattle.book.proofs.Promises.{le_or_lt, block_holds, for_low, for_covers, for_tight, figure_in_open_lem, figure_in_slots_lem}
use Rattle.demands.specs.History.{true_total}
use Rattle.demands.specs.Demand2.{Bounds}
use Rattle.demands.proofs.Invariant.{Invariant, newest_blocks, window_bounds}

module _ (book : Book) (held : ℕ → ℕ) (items : List ℕ) (inv : Invariant book held items) where
  -- a block holds at most D, or it has one item and nothing of it is left out
  all_or_none : (e : ℕ) → e < block_of book → (block_of book * book.bound ≤ book.tolerance) ⊎ (e ≡ 0)
  all_or_none e h = by (block_holds book.bound book.length book.tolerance inv.sound.ranges)
    where
      by : (block_of book * book.bound ≤ book.tolerance) ⊎ ((block_of book ≡ 1) × (book.tolerance < book.bound))
          → (block_of book * book.bound ≤ book.tolerance) ⊎ (e ≡ 0)
      by (inl small) = inl small
      by (inr one) = inr (omega arith)

  -- a window within the open block
  in_open : (i : ℕ) → i ≤ book.phase → Bounds (figure_of book held i) (true_total i items) book.tolerance
  in_open i h =
      let R : ℕ = book.carry in
      let p : ℕ = book.phase in
      rw (figure_in_open_lem book held i h)
      (window_bounds book held items inv i (p - i) i 0 p (R / book.tolerance) (R % book.tolerance) (R + book.tolerance * 0) (true_total i items)
      (omega arith) (omega arith) (omega (arith, inv.carried)) (inv.totals i (omega (arith, inv.sound.kept_low)))
      (omega (arith, div-add-mod R book.tolerance, inv.carried))
      (mod-lt R inv.sound.ranges.tolerance_low) (omega (arith, inv.sound.phase_high))
      (all_or_none (p - i) (omega (arith, inv.sound.phase_high))))

  -- a longer window, of k + 1 slots
  in_slots : (i : ℕ) → book.phase < i → i ≤ book.kept → (k : ℕ) → slots_for book i ≡ suc k
      → Bounds (figure_of book held i) (true_total i items) book.tolerance
  in_slots i longer kept k j_is =
      let p : ℕ = book.phase in
      let c : ℕ = block_of book in
      let g : ℕ = held (newest (slots_of book) book.head (suc k)) in
      let sum : ℕ = sum_newest held (slots_of book) book.head (suc k) in
      let e : ℕ = suc k * c - (i - p) in
      let covers : i - p ≤ suc k * c = rw j_is at (for_covers book inv.sound i longer kept) in
      let tight : suc k * c < i - p + c = rw j_is at (for_tight book inv.sound i longer kept) in
      let next : suc k * c ≡ k * c + c = suc-mul k c in
      let P : ℕ = p + k * c in
      let Q : ℕ = p + suc k * c in
      let slots : sum + inv.before Q / book.tolerance ≡ inv.before p / book.tolerance =
      newest_blocks book held items inv (suc k) (omega arith) in
      let block : g + inv.before Q / book.tolerance ≡ inv.before P / book.tolerance = inv.blocks k (omega arith) in
      rw (figure_in_slots_lem book held i longer j_is)
      (window_bounds book held items inv i e (i - P) P Q g (inv.before P % book.tolerance) (book.carry + book.tolerance * sum) (true_total i items)
      (omega arith) (omega arith)
      (omega (arith, inv.carried, ap (λ (t : ℕ). book.tolerance * t) slots))
      (inv.totals i kept)
      (omega (arith, div-add-mod (inv.before P) book.tolerance, ap (λ (t : ℕ). book.tolerance * t) block))
      (mod-lt (inv.before P) inv.sound.ranges.tolerance_low)
      (omega arith)
      (all_or_none e (omega arith)))

  -- every window
  pub figure_bounds : (i : ℕ) → i ≤ book.kept → Bounds (figure_of book held i) (true_total i items) book.tolerance
  figure_bounds i kept = by (le_or_lt i book.phase)
    where
      by : (i ≤ book.phase) ⊎ (book.phase < i) → Bounds (figure_of book held i) (true_total i items) book.tolerance
      by (inl h) = in_open i h
      by (inr h) = slots (slots_for book i) refl
        where
          slots : (j : ℕ) → slots_for book i ≡ j → Bounds (figure_of book held i) (true_total i items) book.tolerance
          slots zero e = absurd (omega (arith, for_low book inv.sound i h kept))
          slots (suc k) e = in_slots i h kept k e
