-- `sums::row::put`: the sum that stands at `from`, with the fields behind it, is the sum up to the end; that of at most 4,096 fields fits an entry.
-- Assumes nothing.
use Rattle.std.proofs.Common.{◌≡◌, ℕ, ◌+◌, ◌-◌, ◌≤◌, ◌<◌, List, length, arith, ap₂}
use Rattle.std.proofs.Math.ListN.{set}
use Rattle.refusals.specs.Call.{result_of}
use Rattle.ring.specs.Slot.{field}
use Rattle.ring.specs.Calls.{sum_call}
use Rattle.book.specs.declared.known.Known.{Known}
use Rattle.sums.specs.Row.{sum_to}
use Rattle.sums.specs.Rule.{stored_at}
use Rattle.sums.specs.RunParts.{Stands}
use Rattle.sums.proofs.SumsOfFields.{between}
use Rattle.sums.proofs.FieldsInRange.{sum_small, fields_sum}
use Rattle.sums.proofs.ShapeInUse.{lent_whole}
use Rattle.sums.proofs.row.put.Goals as goal

-- what stands, and what the ring's call tells
sum_is : (known : Known) (ring row : List ℕ) {from end stands more : ℕ} → known.shape.bytes ≤ length ring → end ≤ known.shape.slots → from ≤ end
    → Stands known.shape ring row from → stands ≡ stored_at row from
    → more ≡ (result_of (sum_call known.shape.width end ring 0 (end - from))).value → stands + more ≡ sum_to (field known.shape.width ring) end
sum_is known ring row {from} {end} room within up stood stands_is more_is =
    omega (arith, between (field known.shape.width ring) from end up, fields_sum known ring from end room up within)

sum_fits : (c : goal.After-fields) → c.stored_at.result + c.fields.result < 4294967296
sum_fits c =
    let a = c.args in
    let sum = sum_is a.known a.ring.now a.row.now c.requires.0 c.requires.2 c.requires.4 c.requires.5 c.stored_at.ensures.0 c.fields.ensures in
    let whole = lent_whole a.known c.requires.0 in
    omega (arith, sum, sum_small a.known.shape.width a.known.shape.slots a.ring.now whole 0 a.end, c.requires.2, whole.slots_high)

pub overflow_add-sum : goal.overflow_add-sum
overflow_add-sum c = record { fits = omega (arith, sum_fits c) }

pub overflow_cast-row : goal.overflow_cast-row
overflow_cast-row c = record { fits = sum_fits c }

pub returns : goal.returns
returns c =
    let a = c.args in
    let sum = sum_is a.known a.ring.now a.row.now c.requires.0 c.requires.2 c.requires.4 c.requires.5 c.stored_at.ensures.0 c.fields.ensures in
    ap₂ (λ i v. set a.row.now i v) c.entry.ensures sum
