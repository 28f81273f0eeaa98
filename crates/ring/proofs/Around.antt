-- The way back through the slots: the slot before 0 is the last one, and sums of the newest slots grow by one slot at a time.
-- Assumes nothing.
use Prim.Native.Nat.{ℕ, zero, suc, ◌+◌, ◌-◌, ◌*◌, ◌<◌, ◌≤◌}
use native.Mathlib.Nat.{suc-mul, add-zero, add-suc, add_assoc}
use native.Mathlib.Omega.{arith}
use mathlib.Core.Logic.{◌⊎◌, inl, inr}
use mathlib.Core.Path.{◌≡◌, refl, sym, ap, ap₂, ◌∙◌}
use Rattle.bits.proofs.Promises.{le_or_lt}
use Rattle.ring.specs.Newest.{slot_before, newest, sum_newest}

-- the slot before 0 is the last one
pub before_first : (slots : ℕ) → slot_before slots 0 ≡ slots - 1
unfolding slot_before
before_first slots = refl

pub before_next : (slots slot : ℕ) → slot_before slots (suc slot) ≡ slot
unfolding slot_before
before_next slots slot = refl

pub before_less : (slots slot : ℕ) → (slot ≡ 0 → ⊥) → slot_before slots slot ≡ slot - 1
unfolding slot_before
before_less slots zero ne = absurd (ne refl)
before_less slots (suc slot) ne = omega arith

pub before_lt : (slots slot : ℕ) → slot < slots → slot_before slots slot < slots
unfolding slot_before
before_lt slots zero h = omega arith
before_lt slots (suc slot) h = omega arith

pub newest_none : (slots next : ℕ) → newest slots next 0 ≡ next
unfolding newest
newest_none slots next = refl

pub newest_more : (slots next j : ℕ) → newest slots next (suc j) ≡ slot_before slots (newest slots next j)
unfolding newest
newest_more slots next j = refl

pub newest_lt : (slots next j : ℕ) → next < slots → newest slots next j < slots
unfolding newest
newest_lt slots next zero h = h
newest_lt slots next (suc j) h = before_lt slots (newest slots next j) (newest_lt slots next j h)

-- the j-th newest slot, in one step: j back from `next`, or from the end of the ring
pub newest_near : (slots next j : ℕ) → j ≤ next → newest slots next j ≡ next - j
unfolding newest
newest_near slots next zero h = omega arith
newest_near slots next (suc j) h =
    ap (slot_before slots) (newest_near slots next j (omega arith))
    ∙ before_less slots (next - j) (λ e. omega arith)
    ∙ omega arith

pub newest_far : (slots next j : ℕ) → next < j → j ≤ slots → newest slots next j ≡ next + slots - j
unfolding newest
newest_far slots next zero h most = absurd (omega arith)
newest_far slots next (suc j) h most = by (le_or_lt j next) (λ far. newest_far slots next j far (omega arith))
  where
    by : (j ≤ next) ⊎ (next < j) → (next < j → newest slots next j ≡ next + slots - j)
        → slot_before slots (newest slots next j) ≡ next + slots - suc j
    by (inl near) back =
        let same : next ≡ j = omega arith in
        ap (slot_before slots) (newest_near slots next j near ∙ (let e : next - j ≡ 0 = omega arith in e))
        ∙ before_first slots
        ∙ omega arith
    by (inr far) back =
        ap (slot_before slots) (back far)
        ∙ before_less slots (next + slots - j) (λ e. omega arith)
        ∙ omega arith

-- the sum of 0 is 0
pub sum_none : (held : ℕ → ℕ) (slots next : ℕ) → sum_newest held slots next 0 ≡ 0
unfolding sum_newest
sum_none held slots next = refl

-- the sum of j + 1 is the sum of j plus the next older slot
pub sum_more : (held : ℕ → ℕ) (slots next j : ℕ)
    → sum_newest held slots next (suc j) ≡ sum_newest held slots next j + held (newest slots next (suc j))
unfolding sum_newest
sum_more held slots next j = refl

-- sums see only what the slots hold
pub sum_same : (held held' : ℕ → ℕ) (slots next j : ℕ) → next < slots → ((slot : ℕ) → slot < slots → held slot ≡ held' slot)
    → sum_newest held slots next j ≡ sum_newest held' slots next j
unfolding sum_newest
sum_same held held' slots next zero h same = refl
sum_same held held' slots next (suc j) h same =
    ap₂ ◌+◌ (sum_same held held' slots next j h same) (same (newest slots next (suc j)) (newest_lt slots next (suc j) h))

-- n + m slots back from an end: the last n, and the m before them
pub sum_join : (held : ℕ → ℕ) (at n m : ℕ) → m ≤ at
    → sum_newest held (at + n) (at + n) (n + m) ≡ sum_newest held (at + n) (at + n) n + sum_newest held at at m
unfolding sum_newest
sum_join held at n zero h = rw (add-zero n) (sym (add-zero (sum_newest held (at + n) (at + n) n)))
sum_join held at n (suc m) h =
    let here : newest (at + n) (at + n) (suc (n + m)) ≡ newest at at (suc m) =
    newest_near (at + n) (at + n) (suc (n + m)) (omega arith) ∙ omega arith ∙ sym (newest_near at at (suc m) h) in
    rw (add-suc n m) (
    ap₂ (λ (sum slot : ℕ). sum + held slot) (sum_join held at n m (omega arith)) here
    ∙ add_assoc (sum_newest held (at + n) (at + n) n) (sum_newest held at at m) (held (newest at at (suc m))))

-- the sum of the slots from `start` on, and the slot behind them
pub sum_upward : (held : ℕ → ℕ) (start end : ℕ) → start ≤ end
    → sum_newest held (end + 1) (end + 1) (end + 1 - start) ≡ sum_newest held end end (end - start) + held end
sum_upward held start end low =
    let more : end + 1 - start ≡ 1 + (end - start) = omega arith in
    let last : newest (end + 1) (end + 1) 1 ≡ end = newest_near (end + 1) (end + 1) 1 (omega arith) ∙ omega arith in
    rw (more, sum_join held end 1 (end - start) (omega arith), sum_more held (end + 1) (end + 1) 0, sum_none held (end + 1) (end + 1), last) (omega arith)

-- a sum that does not come to slot 0 is that of a ring which ends at `next` …
pub sum_near : (held : ℕ → ℕ) (slots next j : ℕ) → j ≤ next → sum_newest held slots next j ≡ sum_newest held next next j
unfolding sum_newest
sum_near held slots next zero h = refl
sum_near held slots next (suc j) h =
    rw (sum_near held slots next j (omega arith), newest_near slots next (suc j) h, newest_near next next (suc j) h)

-- … and one that goes on is that and a sum from the ring's end
pub sum_far : (held : ℕ → ℕ) (slots next k : ℕ) → next + k ≤ slots
    → sum_newest held slots next (next + k) ≡ sum_newest held next next next + sum_newest held slots slots k
unfolding sum_newest
sum_far held slots next zero h = rw (add-zero next) (sum_near held slots next next (omega arith) ∙ sym (add-zero (sum_newest held next next next)))
sum_far held slots next (suc k) h =
    let far : newest slots next (suc (next + k)) ≡ slots - suc k = newest_far slots next (suc (next + k)) (omega arith) (omega arith) ∙ omega arith in
    let near : newest slots slots (suc k) ≡ slots - suc k = newest_near slots slots (suc k) (omega arith) in
    rw (add-suc next k) (
    ap (λ (n : ℕ). n + held (newest slots next (suc (next + k)))) (sum_far held slots next k (omega arith))
    ∙ ap (λ (slot : ℕ). sum_newest held next next next + sum_newest held slots slots k + held slot) (far ∙ sym near)
    ∙ add_assoc (sum_newest held next next next) (sum_newest held slots slots k) (held (newest slots slots (suc k))))

-- so a sum that passes slot 0 is that of all slots below `next`, and of the last ones of the ring
pub sum_past : (held : ℕ → ℕ) (slots next j : ℕ) → next ≤ j → j ≤ slots
    → sum_newest held slots next j ≡ sum_newest held next next next + sum_newest held slots slots (j - next)
sum_past held slots next j low high =
    let all : next + (j - next) ≡ j = omega arith in
    rw all at (sum_far held slots next (j - next) (omega arith))

-- a sum of j slots that each hold at most `most`
pub sum_le : (held : ℕ → ℕ) (most : ℕ) → ((slot : ℕ) → held slot ≤ most) → (slots next j : ℕ) → sum_newest held slots next j ≤ j * most
unfolding sum_newest
sum_le held most bound slots next zero = omega arith
sum_le held most bound slots next (suc j) =
    omega (arith, sum_le held most bound slots next j, bound (newest slots next (suc j)), suc-mul j most)
