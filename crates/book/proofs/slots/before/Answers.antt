-- The ring promises the slot before each slot.
use Rattle.std.proofs.Common.{◌≡◌, ℕ, zero, suc, ◌-◌, sym, refl, ◌∙◌, arith}
use Rattle.ring.specs.Newest.{slot_before}
use Rattle.ring.proofs.Promises.{before_first, before_next}
use Rattle.book.proofs.slots.before.Goals as goal

less : (slots slot : ℕ) → (slot ≡ 0 → ⊥) → slot - 1 ≡ slot_before slots slot
less slots zero ne = absurd (ne refl)
less slots (suc slot) ne = (let e : suc slot - 1 ≡ slot = omega arith in e) ∙ sym (before_next slots slot)

pub returns-then-slot-eq0 : goal.returns-then-slot-eq0
returns-then-slot-eq0 c = rw c.if-slot-eq0.true (sym (before_first c.args.slots))

pub returns-else-slot-eq0 : goal.returns-else-slot-eq0
returns-else-slot-eq0 c = less c.args.slots c.args.slot c.if-slot-eq0.false
