-- `sums::rule::read`: it reads the parts that the rule names, which lie in order within the ring and the row.
-- Assumes nothing.
use Rattle.std.proofs.Common.{◌≡◌, ℕ, ◌+◌, ◌-◌, ◌*◌, ◌≤◌, List, length, sym, subst, ap, ap₂, ◌∙◌, arith}
use Rattle.refusals.specs.Call.{result_of}
use Rattle.ring.specs.Slot.{field}
use Rattle.ring.specs.Calls.{sum_call}
use Rattle.book.specs.declared.known.Known.{Known}
use Rattle.sums.specs.declared.rule.Parts.{Parts}
use Rattle.sums.specs.Rule.{parts_of, stored_at, added_by}
use Rattle.sums.proofs.FieldsInRange.{sum_small, fields_sum}
use Rattle.sums.proofs.ShapeInUse.{lent_whole}
use Rattle.sums.proofs.ByTheRule.{Reads, what_is_read}
use Rattle.sums.proofs.rule.read.Goals as goal

-- the parts lie in order, and few fields are read
known : {slots from to : ℕ} {parts : Parts} → parts ≡ parts_of slots from to → from ≤ to → to ≤ slots → Reads slots from to parts
known {slots} {from} {to} is up within = subst (λ (parts : Parts). Reads slots from to parts) (sym is) (what_is_read slots from to up within)

module _ (book : Known) (ring : List ℕ) where
  -- what the ring's call tells of some of its slots
  abbrev told : ℕ → ℕ → ℕ
  told first last = (result_of (sum_call book.shape.width last ring 0 (last - first))).value

  -- so that their sum is small
  few : (room : book.shape.bytes ≤ length ring) {from to front back plus minus : ℕ} → to ≤ book.shape.slots
      → Reads book.shape.slots from to (record { front = front; plus = plus; minus = minus; back = back }) → told from front + told back to ≤ 63 * 65535
  few room {from} {to} {front} {back} within reads =
      let small = sum_small book.shape.width book.shape.slots ring (lent_whole book room) in
      omega (
        arith,
        reads.few,
        small from (front - from),
        small back (to - back),
        fields_sum book ring from front room reads.begins (omega (arith, reads.in_order, reads.ends)),
        fields_sum book ring back to room reads.ends within,
      )

  -- and what is added is what the rule adds
  added_is : (room : book.shape.bytes ≤ length ring) {from to : ℕ} → to ≤ book.shape.slots → (row : List ℕ) {parts : Parts} {front plus back : ℕ}
      → parts ≡ parts_of book.shape.slots from to → Reads book.shape.slots from to parts
      → front ≡ told from parts.front → plus ≡ stored_at row parts.plus → back ≡ told parts.back to
      → front + plus + back ≡ added_by (field book.shape.width ring) row from to (parts_of book.shape.slots from to)
  added_is room {from} {to} within row {parts} is reads front_is plus_is back_is =
      rw (← is)
      (ap₂ ◌+◌
      (ap₂ ◌+◌ (front_is ∙ fields_sum book ring from parts.front room reads.begins (omega (arith, reads.in_order, reads.ends))) plus_is)
      (back_is ∙ fields_sum book ring parts.back to room reads.ends within))

pub stored_at-requires : goal.stored_at-requires
stored_at-requires c = omega (arith, (known c.split-parts.ensures c.requires.2 c.requires.3).plus_within)

pub overflow_add-result : goal.overflow_add-result
overflow_add-result c =
    let k = known c.split-parts.ensures c.requires.2 c.requires.3 in
    record { fits = omega (arith, few c.args.known c.args.ring.now c.requires.0 c.requires.3 k, c.fields-front.ensures, c.stored_at.ensures.1) }

pub overflow_add-result-2 : goal.overflow_add-result-2
overflow_add-result-2 c =
    let k = known c.split-parts.ensures c.requires.2 c.requires.3 in
    record { fits = omega (arith, few c.args.known c.args.ring.now c.requires.0 c.requires.3 k, c.fields-front.ensures, c.fields-back.ensures, c.stored_at.ensures.1) }

pub stored_at-requires-2 : goal.stored_at-requires-2
stored_at-requires-2 c = omega (arith, (known c.split-parts.ensures c.requires.2 c.requires.3).minus_within)

pub overflow_sub-result : goal.overflow_sub-result
overflow_sub-result c = (known c.split-parts.ensures c.requires.2 c.requires.3).begins

pub overflow_sub-result-2 : goal.overflow_sub-result-2
overflow_sub-result-2 c = (known c.split-parts.ensures c.requires.2 c.requires.3).ends

pub overflow_add-result-3 : goal.overflow_add-result-3
overflow_add-result-3 c = record { fits = omega (arith, (known c.split-parts.ensures c.requires.2 c.requires.3).few) }

pub returns-clause-value : goal.returns-clause-value
returns-clause-value c =
    let k = known c.split-parts.ensures c.requires.2 c.requires.3 in (
      added_is c.args.known c.args.ring.now c.requires.0 c.requires.3 c.args.row.now c.split-parts.ensures k c.fields-front.ensures c.stored_at.ensures.0 c.fields-back.ensures,
      c.stored_at-2.ensures.0 ∙ ap (λ (parts : Parts). stored_at c.args.row.now parts.minus) c.split-parts.ensures,
    )

pub returns-clause-small : goal.returns-clause-small
returns-clause-small c =
    let k = known c.split-parts.ensures c.requires.2 c.requires.3 in
    (omega (arith, few c.args.known c.args.ring.now c.requires.0 c.requires.3 k, c.fields-front.ensures, c.fields-back.ensures, c.stored_at.ensures.1), c.stored_at-2.ensures.1, k.few, omega (arith, k.two, c.read_at.ensures, c.read_at-2.ensures))
