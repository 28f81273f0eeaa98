-- `zones::judge::in_a_row`: what is told first is what the row tells.
-- Assumes nothing.
use Rattle.std.proofs.Common.{rules, ◌≡◌, Err, ap, ◌∙◌, arith}
use Rattle.refusals.proofs.Numbers.{number_not_0}
use Rattle.zones.specs.Told.{refused_as, as_zoned}
use Rattle.zones.proofs.TwoParts.{Parted, start_apart}
use Rattle.zones.proofs.RowTold.{row_before, row_rest, row_4, row_late}
use Rattle.zones.proofs.judge.in_a_row.Goals as goal
use Rattle.zones.proofs.judge.in_a_row.Goals.{After-split_at}

-- the zones in two parts
parts_of : (c : After-split_at) → Parted c.args.zones.now c.args.low c.split_at.result.0.now c.split_at.result.1.now
parts_of c = record { front = c.split_at.ensures.front; back = c.split_at.ensures.back }

pub returns-in_err-start-clause-told : goal.returns-in_err-start-clause-told
returns-in_err-start-clause-told c =
    let parts = parts_of (goal.at.returns-in_err-start-clause-told c).After-split_at in
    let refused = c.in_err-start.field-0.0 in
    let back : c.from_residual.result ≡ Err refused = search rules in
    ap as_zoned back
    ∙ row_before c.args.zones.now c.args.rings.now c.args.low c.args.counts.now _ _ parts (refused_as refused) c.in_err-start.ensures.told
    (number_not_0 refused.refusal)

pub returns-in_err-more-clause-told : goal.returns-in_err-more-clause-told
returns-in_err-more-clause-told c =
    let parts = parts_of (goal.at.returns-in_err-more-clause-told c).After-split_at in
    let refused = c.in_err-more.field-0.0 in
    let back : c.from_residual-in_err-more.result ≡ Err refused = search rules in
    ap as_zoned back
    ∙ row_rest c.args.zones.now c.args.rings.now c.args.low c.args.counts.now _ _ parts c.in_ok-start.ensures.told (refused_as refused)
    c.in_err-more.ensures.told (number_not_0 refused.refusal)

pub returns-then-rings-start-clause-told : goal.returns-then-rings-start-clause-told
returns-then-rings-start-clause-told c =
    let parts = parts_of (goal.at.returns-then-rings-start-clause-told c).After-split_at in
    c.of_call.ensures
    ∙ row_4 c.args.zones.now c.args.rings.now c.args.low c.args.counts.now _ _ parts c.in_ok-start.ensures.told c.in_ok-more.ensures.told
    (omega (arith, c.in_ok-start.ensures.bytes.0, c.in_ok-more.ensures.bytes.0, c.if-rings-start.true))

pub returns-in_err-counts_taken-clause-told : goal.returns-in_err-counts_taken-clause-told
returns-in_err-counts_taken-clause-told c =
    let parts = parts_of (goal.at.returns-in_err-counts_taken-clause-told c).After-split_at in
    let refused = c.in_err-counts_taken.field-0.0 in
    let back : c.from_residual-in_err-counts_taken.result ≡ Err refused = search rules in
    ap as_zoned back ∙ c.in_err-counts_taken.ensures
    ∙ row_late c.args.zones.now c.args.rings.now c.args.low c.args.counts.now _ _ parts c.in_ok-start.ensures.told c.in_ok-more.ensures.told
    (omega (arith, c.in_ok-start.ensures.bytes.0, c.in_ok-more.ensures.bytes.0, c.if-rings-start.false))

pub returns-clause-told : goal.returns-clause-told
returns-clause-told c =
    let parts = parts_of (goal.at.returns-clause-told c).After-split_at in
    c.in_ok-counts_taken.ensures
    ∙ row_late c.args.zones.now c.args.rings.now c.args.low c.args.counts.now _ _ parts c.in_ok-start.ensures.told c.in_ok-more.ensures.told
    (omega (arith, c.in_ok-start.ensures.bytes.0, c.in_ok-more.ensures.bytes.0, c.if-rings-start.false))

pub returns-clause-start : goal.returns-clause-start
returns-clause-start c =
    let parts = parts_of (goal.at.returns-clause-start c).After-split_at in
    c.in_ok-start.ensures.bytes.0 ∙ start_apart parts (omega arith)
