-- `salvage::groups::rebuild`: each turn sums its own group; the sum of at most 4,096 fields fits an entry.
-- Assumes nothing.
use Rattle.std.proofs.Common.{◌≡◌, ℕ, ◌-◌, ◌<◌, ◌≤◌, ◌++◌, List, length, take, drop, length-take, arith, ap, ap₂, ◌∙◌}
use Rattle.refusals.specs.Call.{result_of}
use Rattle.ring.specs.Slot.{field}
use Rattle.ring.specs.Lent.{Lent}
use Rattle.ring.specs.Calls.{sum_call}
use Rattle.book.specs.declared.known.Known.{Known}
use Rattle.book.specs.declared.shape.Shape.{Shape}
use Rattle.sums.specs.Row.{sum_from, sum_to}
use Rattle.sums.proofs.Promises.{sum_small, fields_sum}
use Rattle.salvage.specs.Rebuilt.{rebuilt_row}
use Rattle.salvage.proofs.AtHand.{known_lent}
use Rattle.salvage.proofs.RowFromFields.{summed_none, group_ahead, with_group, summed_more, summed_all}
use Rattle.salvage.proofs.groups.rebuild.Goals as goal

-- a turn's group is one of the row's
used : (n : ℕ) (row : List ℕ) {entries i : ℕ} → n ≡ entries → entries ≤ length row → i < length (take n row) → i < entries
used n row is room lt = omega (arith, length-take n row)

-- a sum of fields fits an entry
fits : (width slots : ℕ) (ring : List ℕ) {end sum : ℕ} → Lent width slots (length ring) → end ≤ slots → sum ≡ sum_to (field width ring) end
    → sum < 4294967296
fits width slots ring {end} whole within is = omega (arith, sum_small width slots ring whole 0 end, is, whole.slots_high)

-- what the ring's call tells of a turn's group is the sum of its fields
group_is : (known : Known) (ring : List ℕ) {from end sum : ℕ} → known.shape.bytes ≤ length ring → (from < end) × (end ≤ known.shape.slots)
    → sum ≡ (result_of (sum_call known.shape.width end ring 0 (end - from))).value → sum ≡ sum_from (field known.shape.width ring) from (end - from)
group_is known ring {from} {end} room ahead told = told ∙ fields_sum known ring from end room (omega (arith, ahead.0)) ahead.1

pub loop-entry-init : goal.loop-entry-init
loop-entry-init c = summed_none c.args.known.shape.slots (field c.args.known.shape.width c.args.ring.now) (take c.entries.result c.args.row.now)

pub overflow_add-sum : goal.overflow_add-sum
overflow_add-sum c =
    let more = used c.entries.result c.args.row.now c.entries.ensures c.requires.1 c.loop-entry-test.true in
    let ahead = group_ahead c.loop-entry.invariant more c.loop-entry-test.true c.group_end-end.ensures in
    record {
      fits = omega (
        arith,
        fits c.args.known.shape.width c.args.known.shape.slots c.args.ring.now (known_lent c.args.known c.requires.0) ahead.1
            (with_group c.loop-entry.invariant more c.loop-entry-test.true c.group_end-end.ensures
            (group_is c.args.known c.args.ring.now c.requires.0 ahead c.fields-sum.ensures)),
      );
    }

pub overflow_cast-entry : goal.overflow_cast-entry
overflow_cast-entry c =
    let more = used c.entries.result c.args.row.now c.entries.ensures c.requires.1 c.loop-entry-test.true in
    let ahead = group_ahead c.loop-entry.invariant more c.loop-entry-test.true c.group_end-end.ensures in
    record {
      fits =
          fits c.args.known.shape.width c.args.known.shape.slots c.args.ring.now (known_lent c.args.known c.requires.0) ahead.1
          (with_group c.loop-entry.invariant more c.loop-entry-test.true c.group_end-end.ensures
          (group_is c.args.known c.args.ring.now c.requires.0 ahead c.fields-sum.ensures));
    }

pub loop-entry-preserved : goal.loop-entry-preserved
loop-entry-preserved c =
    let more = used c.entries.result c.args.row.now c.entries.ensures c.requires.1 c.loop-entry-test.true in
    let ahead = group_ahead c.loop-entry.invariant more c.loop-entry-test.true c.group_end-end.ensures in
    summed_more c.loop-entry.invariant more c.loop-entry-test.true c.group_end-end.ensures
    (group_is c.args.known c.args.ring.now c.requires.0 ahead c.fields-sum.ensures)

pub returns : goal.returns
unfolding rebuilt_row
returns c =
    let long = length-take c.entries.result c.args.row.now in
    let all = summed_all c.loop-entry.invariant (omega (arith, long, c.requires.1, c.entries.ensures)) c.loop-entry-test.false in
    ap₂ (λ (items : List ℕ) (n : ℕ). items ++ drop n c.args.row.now) all c.entries.ensures
    ∙ ap (λ (s : Shape). rebuilt_row s.slots (field s.width c.args.ring.now) c.args.row.now) c.args.known.derived
