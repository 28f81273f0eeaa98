-- Sums of fields: in two parts, with one field changed, and of the newest slots as one or two runs of slots.
-- Assumes nothing.
use Prim.Native.Nat.{ℕ, zero, suc, ◌+◌, ◌-◌, ◌*◌, ◌≤◌, ◌<◌}
use native.Mathlib.Nat.{suc-mul}
use native.Mathlib.Omega.{arith}
use mathlib.Core.Bool.{cond}
use mathlib.Core.Logic.{◌⊎◌, inl, inr}
use mathlib.Core.Path.{◌≡◌, refl, sym, ap, ◌∙◌}
use borrow.Author.Tests.{le-leb, lt-leb}
use lib.Dec.{leb}
use Rattle.ring.specs.Newest.{newest, sum_newest}
use Rattle.ring.proofs.Promises.{newest_near, newest_far, sum_none, sum_more}
use Rattle.book.proofs.Promises.{le_or_lt}
use Rattle.sums.specs.Row.{sum_from, sum_to}
use Rattle.sums.specs.Rule.{oldest_slot}

-- none is 0, and one more adds its field
pub from_none : (held : ℕ → ℕ) (from : ℕ) → sum_from held from 0 ≡ 0
unfolding sum_from
from_none held from = refl

pub from_more : (held : ℕ → ℕ) (from count : ℕ) → sum_from held from (suc count) ≡ sum_from held from count + held (from + count)
unfolding sum_from
from_more held from count = refl

pub to_more : (held : ℕ → ℕ) (end : ℕ) → sum_to held (suc end) ≡ sum_to held end + held end
to_more held end =
    let e : 0 + end ≡ end = omega arith in
    from_more held 0 end ∙ ap (λ (slot : ℕ). sum_to held end + held slot) e

-- a run of slots is what comes between two sums from slot 0
pub to_from : (held : ℕ → ℕ) (from count : ℕ) → sum_to held from + sum_from held from count ≡ sum_to held (from + count)
to_from held from zero = let e : from + 0 ≡ from = omega arith in rw e (omega (arith, from_none held from))
to_from held from (suc count) =
    let e : from + suc count ≡ suc (from + count) = omega arith in
    rw e (omega (arith, to_from held from count, from_more held from count, to_more held (from + count)))

pub between : (held : ℕ → ℕ) (a b : ℕ) → a ≤ b → sum_to held a + sum_from held a (b - a) ≡ sum_to held b
between held a b le = let e : a + (b - a) ≡ b = omega arith in rw e at (to_from held a (b - a))

-- a sum is at most as many times the largest field
pub from_top : (held : ℕ → ℕ) (most : ℕ) → ((slot : ℕ) → held slot ≤ most) → (from count : ℕ) → sum_from held from count ≤ count * most
from_top held most small from zero = omega (arith, from_none held from)
from_top held most small from (suc count) =
    omega (arith, from_top held most small from count, from_more held from count, small (from + count), suc-mul count most)

-- it sees nothing but its own fields
pub to_same : (held held' : ℕ → ℕ) (end : ℕ) → ((slot : ℕ) → slot < end → held slot ≡ held' slot) → sum_to held end ≡ sum_to held' end
to_same held held' zero same = from_none held 0 ∙ sym (from_none held' 0)
to_same held held' (suc end) same =
    let last : held end ≡ held' end = same end (omega arith) in
    omega (arith, to_more held end, to_more held' end, to_same held held' end (λ slot h. same slot (omega arith)))

-- and where one field is changed, it changes by as much
pub to_changed : (held held' : ℕ → ℕ) (slot : ℕ) → ((other : ℕ) → (other ≡ slot → ⊥) → held' other ≡ held other) → (end : ℕ) → slot < end
    → sum_to held' end + held slot ≡ sum_to held end + held' slot
to_changed held held' slot others zero h = absurd (omega arith)
to_changed held held' slot others (suc end) h = by (le_or_lt end slot) (to_changed held held' slot others end)
  where
    by : (end ≤ slot) ⊎ (slot < end) → (slot < end → sum_to held' end + held slot ≡ sum_to held end + held' slot)
        → sum_to held' (suc end) + held slot ≡ sum_to held (suc end) + held' slot
    by (inl le) shorter =
        let e : end ≡ slot = omega arith in
        let below = to_same held' held end (λ other lt. others other (λ q. omega arith)) in
        let new : held' end ≡ held' slot = ap held' e in
        let old : held end ≡ held slot = ap held e in
        omega (arith, to_more held end, to_more held' end, below)
    by (inr lt) shorter =
        let last : held' end ≡ held end = others end (λ q. omega arith) in
        omega (arith, to_more held end, to_more held' end, shorter lt)

-- THE LAST OF THE FIRST b SLOTS, as the ring sums them: a run of slots
last_of : (held : ℕ → ℕ) (b k : ℕ) → 0 < b → k ≤ b → sum_newest held b 0 k + sum_to held (b - k) ≡ sum_to held b
last_of held b zero low le = let e : b - 0 ≡ b = omega arith in rw e (omega (arith, sum_none held b 0))
last_of held b (suc k) low le =
    let place : newest b 0 (suc k) ≡ b - suc k = newest_far b 0 (suc k) (omega arith) le ∙ omega arith in
    let one : b - k ≡ suc (b - suc k) = omega arith in
    let more = to_more held (b - suc k) in
    let newer : sum_newest held b 0 k + sum_to held (suc (b - suc k)) ≡ sum_to held b = rw one at (last_of held b k low (omega arith)) in
    let oldest : held (newest b 0 (suc k)) ≡ held (b - suc k) = ap held place in
    omega (arith, sum_more held b 0 k)

pub last_is_run : (held : ℕ → ℕ) (a b : ℕ) → a < b → sum_newest held b 0 (b - a) ≡ sum_from held a (b - a)
last_is_run held a b lt =
    let e : b - (b - a) ≡ a = omega arith in
    let l : sum_newest held b 0 (b - a) + sum_to held a ≡ sum_to held b = rw e at (last_of held b (b - a) (omega arith) (omega arith)) in
    omega (arith, between held a b (omega arith))

-- THE OLDEST of the j newest slots before head, where the ring has so many: the j-th one back
pub oldest_newest : (slots head j : ℕ) → j ≤ slots → oldest_slot slots head j ≡ newest slots head j
unfolding oldest_slot
oldest_newest slots head j within = by (le_or_lt j head)
  where
    by : (j ≤ head) ⊎ (head < j) → cond (leb j head) (head - j) (slots - (j - head)) ≡ newest slots head j
    by (inl near) = rw (le-leb j head near) (sym (newest_near slots head j near))
    by (inr far) = rw (lt-leb j head far) (omega (arith, newest_far slots head j far within))

-- THE j NEWEST SLOTS before head are two runs: up to head, and up to the last slot
pub newest_by_runs : (held : ℕ → ℕ) (slots head j : ℕ) → head < slots → j ≤ slots
    → sum_newest held slots head j + sum_to held (head - j) + sum_to held (slots - (j - head)) ≡ sum_to held head + sum_to held slots
newest_by_runs held slots head zero below le =
    let e : head - 0 ≡ head = omega arith in
    let f : slots - (0 - head) ≡ slots = omega arith in
    rw (e, f) (omega (arith, sum_none held slots head))
newest_by_runs held slots head (suc j) below le = by (le_or_lt (suc j) head) (newest_by_runs held slots head j below (omega arith))
  where
    by : (suc j ≤ head) ⊎ (head < suc j)
        → sum_newest held slots head j + sum_to held (head - j) + sum_to held (slots - (j - head)) ≡ sum_to held head + sum_to held slots
        → sum_newest held slots head (suc j) + sum_to held (head - suc j) + sum_to held (slots - (suc j - head)) ≡ sum_to held head + sum_to held slots
    by (inl near) newer =
        let place : held (newest slots head (suc j)) ≡ held (head - suc j) = ap held (newest_near slots head (suc j) near) in
        let one : head - j ≡ suc (head - suc j) = omega arith in
        let far : slots - (suc j - head) ≡ slots - (j - head) = omega arith in
        let before = rw one at newer in
        rw far (omega (arith, sum_more held slots head j, to_more held (head - suc j), before))
    by (inr beyond) newer =
        let at : newest slots head (suc j) ≡ slots - (suc j - head) = newest_far slots head (suc j) beyond le ∙ omega arith in
        let place : held (newest slots head (suc j)) ≡ held (slots - (suc j - head)) = ap held at in
        let one : slots - (j - head) ≡ suc (slots - (suc j - head)) = omega arith in
        let near : head - suc j ≡ head - j = omega arith in
        let before = rw one at newer in
        rw near (omega (arith, sum_more held slots head j, to_more held (slots - (suc j - head)), before))
