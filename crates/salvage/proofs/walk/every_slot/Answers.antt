-- `salvage::walk::every_slot`: the slot of each turn is one of the ring's, and there is an entry for its number.
-- Assumes nothing.
use Rattle.std.proofs.Common.{◌≡◌, ℕ, suc, ◌+◌, ◌-◌, ◌*◌, ◌%◌, ◌^◌, ◌<◌, ◌≤◌, refl, sym, ap, subst, ◌∙◌, arith}
use native.Mathlib.Nat.{one-mul, mod-eq_of_lt}
use lib.Pow.{pow-lt}
use Rattle.ring.specs.Newest.{newest}
use Rattle.ring.proofs.Promises.{newest_lt}
use Rattle.book.specs.declared.shape.Shape.{Shape}
use Rattle.book.specs.declared.known.Known.{Known}
use Rattle.book.specs.Record.{slots_of}
use Rattle.sums.specs.Rule.{oldest_slot}
use Rattle.sums.proofs.Promises.{oldest_newest}
use Rattle.salvage.specs.Altered.{newest_slot}
use Rattle.salvage.specs.Steps.{set_out}
use Rattle.salvage.proofs.AtHand.{known_head, known_slots, known_usable, known_lent, known_top}
use Rattle.salvage.proofs.WalkTurns.{Going, going_start, going_nowhere, going_alters, going_leaves, going_end}
use Rattle.salvage.proofs.walk.every_slot.Goals as goal
use Rattle.salvage.proofs.walk.every_slot.Goals.{then-shape, else-shape}

-- 1 moved up by fewer than 64 places
one_shifted : (n : ℕ) → n < 64 → (1 * 2 ^ n) % 18446744073709551616 ≡ 2 ^ n
one_shifted n h = rw one-mul (mod-eq_of_lt (pow-lt {j = 64} h))

-- the slot of a turn
slot_back : (known : Known) (j : ℕ) {slot : ℕ} → 0 < j → j ≤ slots_of known.book → slot ≡ oldest_slot known.shape.slots known.book.head (j - 1 + 1)
    → slot ≡ newest known.shape.slots known.book.head j
slot_back known j some within is =
    let same : j - 1 + 1 ≡ j = omega arith in
    is ∙ ap (oldest_slot known.shape.slots known.book.head) same
    ∙ oldest_newest known.shape.slots known.book.head j (omega (arith, within, ap (λ (k : Shape). k.slots) known.derived))

slot_is : (known : Known) (j : ℕ) {slot : ℕ} → 0 < j → j ≤ slots_of known.book → slot ≡ oldest_slot known.shape.slots known.book.head (j - 1 + 1)
    → slot ≡ newest_slot known.book j
slot_is known j some within is = slot_back known j some within is ∙ (λ i. newest (known.derived i).slots known.book.head j)

slot_in : (known : Known) (j : ℕ) {slot : ℕ} → 0 < j → j ≤ slots_of known.book → slot ≡ oldest_slot known.shape.slots known.book.head (j - 1 + 1)
    → slot < known.shape.slots
slot_in known j some within is =
    omega (arith, slot_back known j some within is, newest_lt known.shape.slots known.book.head j (known_head known))

pub overflow_add-shape : goal.overflow_add-shape
overflow_add-shape c = omega (arith, known_top c.args.known c.requires.0)

pub overflow_shl-shape : goal.overflow_shl-shape
overflow_shl-shape c = omega (arith, (known_lent c.args.known c.requires.0).width_high)

pub loop-newer-init : goal.loop-newer-init
loop-newer-init c =
    let known = c.args.known in
    let same = known.derived in
    let usable = known_usable known c.requires.0 in
    let starts = Going known.book c.args.ring.now c.args.numbers.now (set_out c.args.ring.now c.args.numbers.now) in
    elim c.if-shape.branch [
      | then-shape w ↦
          subst starts (sym w.looked_at-is)
          (going_nowhere known.book c.args.ring.now c.args.numbers.now usable
          (sym (ap (λ (k : Shape). k.largest + 1) same) ∙ w.if-shape.true
          ∙ one_shifted known.shape.width (omega (arith, (known_lent known c.requires.0).width_high)) ∙ ap (λ (k : Shape). 2 ^ k.width) same))
      | else-shape w ↦
          subst starts (sym (w.looked_at-is ∙ ap (λ (k : Shape). k.slots) same))
          (going_start known.book c.args.ring.now c.args.numbers.now usable (rw same at c.requires.1))
    ]

pub cap-requires : goal.cap-requires
cap-requires c =
    let known = c.args.known in (
      omega (arith, c.loop-newer.auto.ring, c.requires.0),
      slot_in known c.loop-newer.newer c.loop-newer-test.true c.loop-newer.invariant.within c.oldest-slot.ensures,
    )

pub overflow_cast-numbers : goal.overflow_cast-numbers
overflow_cast-numbers c =
    let known = c.args.known in
    omega (
      arith,
      slot_in known c.loop-newer.newer c.loop-newer-test.true c.loop-newer.invariant.within c.oldest-slot.ensures,
      known_slots known,
    )

pub loop-newer-preserved-then-cap : goal.loop-newer-preserved-then-cap
loop-newer-preserved-then-cap c =
    let known = c.args.known in
    let j = c.loop-newer.newer in
    let newest : suc (j - 1) ≡ j = omega arith in
    going_alters c.loop-newer.invariant c.loop-newer-test.true (slot_is known j c.loop-newer-test.true c.loop-newer.invariant.within c.oldest-slot.ensures) c.cap.ensures.1 (sym c.if-cap.true ∙ c.cap.ensures.0)
    refl refl newest

pub loop-newer-preserved : goal.loop-newer-preserved
loop-newer-preserved c =
    let known = c.args.known in
    going_leaves c.loop-newer.invariant c.loop-newer-test.true
    (slot_is known c.loop-newer.newer c.loop-newer-test.true c.loop-newer.invariant.within c.oldest-slot.ensures) c.cap.ensures.1
    (sym c.if-cap.false ∙ c.cap.ensures.0) refl refl refl

pub returns : goal.returns
returns c = going_end c.loop-newer.invariant (omega (arith, c.loop-newer-test.false))
