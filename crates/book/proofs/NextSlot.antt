-- Head moving on: the slot before the next one is the old one, and the t-th block's slot is t modulo the slots.
-- Assumes nothing.
use Rattle.std.proofs.Common.{◌≡◌, ℕ, ◌+◌, ◌*◌, ◌/◌, ◌%◌, ◌<◌, sym, ap, ◌∙◌, mod-lt, mod-eq_of_lt, add-one, arith, eq-eqb, ne_eqb}
use native.Mathlib.Nat.{div-add-mod, mod_self, mul-add-mod_self_left}
use native.Mathlib.Decide.{ℕ_discrete}
use Rattle.ring.specs.Newest.{slot_before}
use Rattle.ring.proofs.Promises.{before_first, before_next}
use Rattle.book.specs.Adding.{slot_after}

-- head is the last slot, and moves on to 0, or any other, and moves on by one
pub slot_after_cases : (P : ℕ → Type 0) (slots head : ℕ) → (head + 1 ≡ slots → P 0) → ((head + 1 ≡ slots → ⊥) → P (head + 1))
    → P (slot_after slots head)
unfolding slot_after
slot_after_cases P slots head last other = by (ℕ_discrete (head + 1) slots)
  where
    by : Dec (head + 1 ≡ slots) → P (slot_after slots head)
    by (yes e) = rw (eq-eqb (head + 1) slots e) (last e)
    by (no ne) = rw (ne_eqb (head + 1) slots ne) (other ne)

pub slot_after_lt : (slots head : ℕ) → head < slots → slot_after slots head < slots
slot_after_lt slots head h = slot_after_cases (λ n. n < slots) slots head (λ e. omega arith) (λ ne. omega (arith, ne))

pub before_after : (slots head : ℕ) → head < slots → slot_before slots (slot_after slots head) ≡ head
before_after slots head h =
    slot_after_cases (λ n. slot_before slots n ≡ head) slots head
    (λ e. before_first slots ∙ omega arith)
    (λ ne. rw (add-one head) (before_next slots head))

pub slot_after_mod : (slots t : ℕ) → 0 < slots → slot_after slots (t % slots) ≡ (t + 1) % slots
slot_after_mod slots t h =
    slot_after_cases (λ n. n ≡ (t % slots + 1) % slots) slots (t % slots)
    (λ e. rw e (sym (mod_self slots)))
    (λ ne. sym (mod-eq_of_lt (omega (arith, ne, mod-lt t h))))
    ∙ sym (ap (λ (n : ℕ). n % slots) whole ∙ mul-add-mod_self_left slots (t / slots) (t % slots + 1))
  where
    whole : t + 1 ≡ slots * (t / slots) + (t % slots + 1)
    whole = omega (arith, div-add-mod t slots)
