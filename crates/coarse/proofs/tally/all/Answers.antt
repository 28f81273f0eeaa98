-- `coarse::tally::all`: each part is the first quotients of those that are left, and the tally takes it.
-- Assumes nothing.
use Rattle.std.proofs.Common.{◌≡◌, ℕ, ◌≤◌, List, length, take, length-take, sym, ap, ◌∙◌, arith}
use Rattle.sums.proofs.Promises.{same_ok}
use Rattle.coarse.specs.Quotients.{quotients}
use Rattle.coarse.proofs.OldQuotients.{length_quotients}
use Rattle.coarse.proofs.AtHand.{one_bit}
use Rattle.coarse.proofs.TallyTurns.{ran_is, taken_in, part_units, going_step, going_end}
use Rattle.coarse.proofs.tally.all.Goals as goal

-- the part is the first of them, as many as it has places, which are no more than they are
part_is : (qs : List ℕ) {part : List ℕ} {places : ℕ} → part ≡ take places qs → length part ≡ places → part ≡ take (length part) qs
part_is qs is long = is ∙ ap (λ (n : ℕ). take n qs) (sym long)

part_few : (qs part : List ℕ) → part ≡ take (length part) qs → length part ≤ length qs
part_few qs part is = omega (arith, ap length is, length-take (length part) qs)

pub unwrap-tally-requires : goal.unwrap-tally-requires
unwrap-tally-requires c =
    let qs = quotients c.args.known.book c.args.ring.now c.loop-left.left in
    let few = part_few qs c.gather.new.part (part_is qs c.gather.ensures c.gather.auto.part) in
    let g = c.loop-left.invariant in
    let units = part_units g (one_bit c.args.known c.requires.1) (omega (arith, few, length_quotients c.args.known.book c.args.ring.now c.loop-left.left))
    (part_is qs c.gather.ensures c.gather.auto.part) in
    let ran = ran_is c.loop-left.second c.loop-left.row c.gather.new.part g.takes units c.run.result c.run.ensures.0 in
    rw ran

pub loop-left-preserved : goal.loop-left-preserved
loop-left-preserved c =
    let qs = quotients c.args.known.book c.args.ring.now c.loop-left.left in
    let few = part_few qs c.gather.new.part (part_is qs c.gather.ensures c.gather.auto.part) in
    let g = c.loop-left.invariant in
    let within : length c.gather.new.part ≤ c.loop-left.left = omega (arith, few, length_quotients c.args.known.book c.args.ring.now c.loop-left.left) in
    let units = part_units g (one_bit c.args.known c.requires.1) within (part_is qs c.gather.ensures c.gather.auto.part) in
    let ran = ran_is c.loop-left.second c.loop-left.row c.gather.new.part g.takes units c.run.result c.run.ensures.0 in
    going_step g (one_bit c.args.known c.requires.1) within (part_is qs c.gather.ensures c.gather.auto.part)
    (taken_in c.loop-left.second c.loop-left.row c.gather.new.part g.takes units (same_ok (sym c.unwrap-tally.ensures ∙ ran)) c.run.ensures.1 c.run.ensures.2)

pub returns : goal.returns
returns c = going_end c.loop-left.invariant (omega (arith, c.loop-left-test.false))
