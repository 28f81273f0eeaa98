-- THE LAW OF A KEPT ROW: a row filled from the present fields, as opening's is, has it; every write of slot head keeps it; and by it the rule makes
-- the sum of the newest slots.
-- Assumes nothing.
use Prim.Native.Nat.{ℕ, zero, suc, ◌+◌, ◌-◌, ◌≤◌, ◌<◌}
use native.Mathlib.Decide.{ℕ_discrete}
use native.Mathlib.Omega.{arith}
use mathlib.Core.Bool.{Bool, true, false, cond}
use mathlib.Core.List.{List}
use mathlib.Core.Logic.{◌⊎◌, inl, inr}
use mathlib.Core.Path.{◌≡◌, refl, sym, ◌∙◌}
use borrow.Author.Tests.{eqb-true, eqb-false, ne_eqb}
use lib.ListN.{length, get_or, set}
use lib.Seq.{get_or-set_same, get_or-set_other}
use Rattle.ring.specs.Newest.{sum_newest}
use Rattle.book.specs.Adding.{slot_after}
use Rattle.book.proofs.Promises.{le_or_lt, slot_after_cases}
use Rattle.sums.specs.Row.{entries_for, sum_to, entry_at, group_end, ends_group, stored}
use Rattle.sums.specs.Rule.{end_after, end_before, parts_of, stored_at, added_by, taken_by, sum_by_row}
use Rattle.sums.specs.RowKept.{End, reached, Kept}
use Rattle.sums.proofs.SumsOfFields.{from_none, to_more, between, to_same, to_changed, newest_by_runs}
use Rattle.sums.proofs.Ends.{group_end_lem, ends_apart, entry_used, end_after_lem, end_before_lem}
use Rattle.sums.proofs.ByTheRule.{parts_cases}

-- how far the lap has reached: all slots at head 0, and otherwise head
pub reached_0 : (slots head : ℕ) → head ≡ 0 → reached slots head ≡ slots
unfolding reached
reached_0 slots head e = rw e

pub reached_head : (slots head : ℕ) → (head ≡ 0 → ⊥) → reached slots head ≡ head
unfolding reached
reached_head slots head ne = rw (ne_eqb head 0 ne)

-- either way head is reached
pub head_reached : (slots head : ℕ) → head < slots → head ≤ reached slots head
head_reached slots zero below = omega arith
head_reached slots (suc head) below = omega (arith, reached_head slots (suc head) (λ e. omega arith))

pub reached_within : (slots head : ℕ) → head ≤ slots → reached slots head ≤ slots
reached_within slots zero le = omega (arith, reached_0 slots 0 refl)
reached_within slots (suc head) le = omega (arith, reached_head slots (suc head) (λ e. omega arith))

-- THE SUM AT AN END: nothing at 0, and otherwise the entry
pub stored_0 : (row : List ℕ) → stored_at row 0 ≡ 0
unfolding stored_at
stored_0 row = refl

pub stored_entry : (row : List ℕ) (e : ℕ) → 1 ≤ e → stored_at row e ≡ get_or row (entry_at e) 0
unfolding stored_at
stored_entry row zero low = absurd (omega arith)
stored_entry row (suc e) low = refl

module _ (slots : ℕ) (row : List ℕ) (room : entries_for slots ≤ length row) (end value : ℕ) (low : 1 ≤ end) (within : end ≤ slots)
    (is_end : End slots end) where
  -- what is put into the entry of an end stands at that end …
  pub put_there : stored_at (set row (entry_at end) value) end ≡ value
  put_there =
      stored_entry (set row (entry_at end) value) end low
      ∙ get_or-set_same row (entry_at end) value 0 (omega (arith, entry_used slots end low within))

  -- … and leaves every other
  pub put_elsewhere : (e : ℕ) → End slots e → (e ≡ end → ⊥) → e ≤ slots → stored_at (set row (entry_at end) value) e ≡ stored_at row e
  put_elsewhere zero other ne le = stored_0 (set row (entry_at end) value) ∙ sym (stored_0 row)
  put_elsewhere (suc e) other ne le =
      stored_entry (set row (entry_at end) value) (suc e) (omega arith)
      ∙ get_or-set_other row (entry_at end) (entry_at (suc e)) value 0 (apart (le_or_lt (suc e) end))
      ∙ sym (stored_entry row (suc e) (omega arith))
    where
      apart : (suc e ≤ end) ⊎ (end < suc e) → entry_at (suc e) ≡ entry_at end → ⊥
      apart (inl under) same = ends_apart slots (suc e) end other (omega arith) (omega (arith, ne)) within same
      apart (inr over) same = ends_apart slots end (suc e) is_end low over le (sym same)

-- A ROW FILLED from the present fields is kept, wherever head stands …
pub kept_filled : (slots head : ℕ) (held : ℕ → ℕ) (row : List ℕ) → head ≤ slots
    → ((e : ℕ) → End slots e → e ≤ slots → stored_at row e ≡ sum_to held e) → Kept slots head held row
kept_filled slots head held row within filled =
    record {
      present = λ e end le. filled e end (omega (arith, reached_within slots head within));
      lap_before = λ e end lt le. omega (arith, filled e end le, filled slots (inr refl) (omega arith));
    }

-- … and so is an opening's: all fields are 0, and so are all sums
pub kept_opened : (slots : ℕ) (held : ℕ → ℕ) (row : List ℕ) → ((slot : ℕ) → slot < slots → held slot ≡ 0)
    → ((e : ℕ) → e ≤ slots → stored_at row e ≡ 0) → Kept slots 0 held row
kept_opened slots held row empty clear =
    kept_filled slots 0 held row (omega arith) (λ e end le. clear e le ∙ sym (zeros e (λ slot lt. empty slot (omega arith))))
  where
    zeros : (e : ℕ) → ((slot : ℕ) → slot < e → held slot ≡ 0) → sum_to held e ≡ 0
    zeros e none = to_same held (λ slot. 0) e none ∙ nothing e
      where
        nothing : (e : ℕ) → sum_to (λ slot. 0) e ≡ 0
        nothing zero = from_none (λ slot. 0) 0
        nothing (suc e) = omega (arith, to_more (λ slot. 0) e, nothing e)

-- A WRITE OF SLOT HEAD: `held` before it, `held'` after it
module _ (slots head : ℕ) (held held' : ℕ → ℕ) (row : List ℕ) (below : head < slots) (room : entries_for slots ≤ length row)
    (others : (other : ℕ) → (other ≡ head → ⊥) → held' other ≡ held other) (kept : Kept slots head held row) where
  -- the sums up to head are those of before
  before_head : (e : ℕ) → End slots e → e ≤ head → stored_at row e ≡ sum_to held' e
  before_head e end le =
      kept.present e end (omega (arith, head_reached slots head below))
      ∙ to_same held held' e (λ slot lt. sym (others slot (λ q. omega arith)))

  -- and those behind it still make the last one, whatever was written
  behind_head : (e : ℕ) → End slots e → head < e → e ≤ slots → stored_at row slots + sum_to held' e ≡ stored_at row e + sum_to held' slots
  behind_head e end lt le = by (ℕ_discrete head 0)
    where
      changed : (x : ℕ) → head < x → sum_to held' x + held head ≡ sum_to held x + held' head
      changed x h = to_changed held held' head others x h

      by : Dec (head ≡ 0) → stored_at row slots + sum_to held' e ≡ stored_at row e + sum_to held' slots
      by (yes start) =
          let all = reached_0 slots head start in
          omega (arith, changed e lt, changed slots below, kept.present e end (omega arith), kept.present slots (inr refl) (omega arith))
      by (no further) =
          let here = reached_head slots head further in
          omega (arith, changed e lt, changed slots below, kept.lap_before e end (omega arith) le)

  -- where no group ends with slot head, the row stays
  module _ (more : head + 1 ≡ group_end slots head → ⊥) where
    end_further : head + 1 < group_end slots head
    end_further = omega (arith, more, (group_end_lem slots head below).behind)

    pub kept_inside : Kept slots (slot_after slots head) held' row
    kept_inside =
        slot_after_cases (λ next. Kept slots next held' row) slots head
        (λ last. absurd (omega (arith, end_further, (group_end_lem slots head below).within)))
        (λ next. let here = reached_head slots (head + 1) (λ e. omega arith) in
        record {
          present = λ e end le. before_head e end (not_next e end (omega arith));
          lap_before = λ e end lt le. behind_head e end (omega arith) le;
        })
      where
        not_next : (e : ℕ) → End slots e → e ≤ head + 1 → e ≤ head
        not_next e end le = by (le_or_lt e head)
          where
            by : (e ≤ head) ⊎ (head < e) → e ≤ head
            by (inl h) = h
            by (inr h) = absurd (omega (arith, end_further, (group_end_lem slots head below).first e end h (omega (arith, below))))

  -- where one does, its sum is stored
  module _ (ends : head + 1 ≡ group_end slots head) where
    is_end : End slots (head + 1)
    is_end = rw ends (group_end_lem slots head below).is_end

    abbrev new_row : List ℕ
    new_row = set row (entry_at (head + 1)) (sum_to held' (head + 1))

    there : stored_at new_row (head + 1) ≡ sum_to held' (head + 1)
    there = put_there slots row room (head + 1) (sum_to held' (head + 1)) (omega arith) (omega arith) is_end

    elsewhere : (e : ℕ) → End slots e → (e ≡ head + 1 → ⊥) → e ≤ slots → stored_at new_row e ≡ stored_at row e
    elsewhere = put_elsewhere slots row room (head + 1) (sum_to held' (head + 1)) (omega arith) (omega arith) is_end

    up_to : (e : ℕ) → End slots e → e ≤ head + 1 → stored_at new_row e ≡ sum_to held' e
    up_to e end le = by (ℕ_discrete e (head + 1))
      where
        by : Dec (e ≡ head + 1) → stored_at new_row e ≡ sum_to held' e
        by (yes same) = rw same there
        by (no ne) = elsewhere e end ne (omega arith) ∙ before_head e end (omega (arith, ne))

    pub kept_at_end : Kept slots (slot_after slots head) held' (set row (entry_at (head + 1)) (sum_to held' (head + 1)))
    kept_at_end =
        slot_after_cases (λ next. Kept slots next held' new_row) slots head
        (λ last. let all = reached_0 slots 0 refl in
        record {
          present = λ e end le. up_to e end (omega arith);
          lap_before = λ e end lt le. absurd (omega arith);
        })
        (λ next. let here = reached_head slots (head + 1) (λ e. omega arith) in
        record {
          present = λ e end le. up_to e end (omega arith);
          lap_before = λ e end lt le. rw (elsewhere slots (inr refl) (λ q. next (sym q)) (omega arith), elsewhere e end (λ q. omega arith) le)
              (behind_head e end (omega arith) le);
        })

  pub kept_written : Kept slots (slot_after slots head) held' (stored slots held' row head)
  unfolding stored
  kept_written = by (ends_group slots head) refl
    where
      by : (t : Bool) → ends_group slots head ≡ t
          → Kept slots (slot_after slots head) held' (cond t (set row (entry_at (head + 1)) (sum_to held' (head + 1))) row)
      by true e = kept_at_end (eqb-true (head + 1) (group_end slots head) e)
      by false e = kept_inside (eqb-false (head + 1) (group_end slots head) e)

-- BY THE RULE. A run of slots makes its sum where the two stored sums do
module _ (slots : ℕ) (held : ℕ → ℕ) (row : List ℕ) where
  run_makes : (a b : ℕ) → a ≤ b → b ≤ slots
      → (end_after slots a < end_before slots b
      → stored_at row (end_before slots b) + sum_to held (end_after slots a) ≡ stored_at row (end_after slots a) + sum_to held (end_before slots b))
      → added_by held row a b (parts_of slots a b) + sum_to held a ≡ sum_to held b + taken_by row (parts_of slots a b)
  run_makes a b le within make =
      let A = end_after_lem slots a (omega arith) in
      let E = end_before_lem slots b within in
      parts_cases slots a b (λ parts. added_by held row a b parts + sum_to held a ≡ sum_to held b + taken_by row parts)
      (λ lt. omega (arith, make lt, between held a (end_after slots a) A.low, between held (end_before slots b) b E.high))
      (λ ge. (let rest : b - b ≡ 0 = omega arith in
      rw rest (omega (arith, between held a b le, from_none held b, stored_0 row))))

  -- the newest slots by the rule are their sum, whatever the window
  pub sum_by_row_lem : (head j : ℕ) → head < slots → j ≤ slots → Kept slots head held row
      → sum_by_row slots head j held row ≡ sum_newest held slots head j
  unfolding sum_by_row
  sum_by_row_lem head j below most kept =
      omega (arith, near_makes, far_makes, newest_by_runs held slots head j below most)
    where
      near_makes : added_by held row (head - j) head (parts_of slots (head - j) head) + sum_to held (head - j)
          ≡ sum_to held head + taken_by row (parts_of slots (head - j) head)
      near_makes =
          let A = end_after_lem slots (head - j) (omega arith) in
          let E = end_before_lem slots head (omega arith) in
          let reach = head_reached slots head below in
          run_makes (head - j) head (omega arith) (omega arith)
          (λ lt. omega (
            arith,
            kept.present (end_before slots head) E.is_end (omega (arith, E.high)),
            kept.present (end_after slots (head - j)) A.is_end (omega (arith, E.high)),
          ))

      far_makes : added_by held row (slots - (j - head)) slots (parts_of slots (slots - (j - head)) slots) + sum_to held (slots - (j - head))
          ≡ sum_to held slots + taken_by row (parts_of slots (slots - (j - head)) slots)
      far_makes =
          let a : ℕ = slots - (j - head) in
          let A = end_after_lem slots a (omega arith) in
          let E = end_before_lem slots slots (omega arith) in
          run_makes a slots (omega arith) (omega arith) (λ lt. rw (E.at_last refl) (by (ℕ_discrete head 0) (rw (E.at_last refl) at lt)))
        where
          by : Dec (head ≡ 0) → end_after slots (slots - (j - head)) < slots
              → stored_at row slots + sum_to held (end_after slots (slots - (j - head)))
              ≡ stored_at row (end_after slots (slots - (j - head))) + sum_to held slots
          by (yes start) lt =
              let all = reached_0 slots head start in
              let A = end_after_lem slots (slots - (j - head)) (omega arith) in
              omega (arith, kept.present slots (inr refl) (omega arith), kept.present (end_after slots (slots - (j - head))) A.is_end (omega arith))
          by (no further) lt =
              let here = reached_head slots head further in
              let A = end_after_lem slots (slots - (j - head)) (omega arith) in
              let from : head ≤ slots - (j - head) = omega arith in
              kept.lap_before (end_after slots (slots - (j - head))) A.is_end
              (omega (arith, A.behind (omega (arith, further)) (omega (arith, A.low)))) A.high
