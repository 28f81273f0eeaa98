-- `zones::add_in_a_row`: with a refusal all is as it was lent, and where nothing is refused the counts are added.
-- Assumes nothing.
use Rattle.std.proofs.Common.{rules, ◌≡◌, Err, ap, ◌∙◌}
use Rattle.refusals.proofs.Numbers.{number_not_0}
use Rattle.zones.specs.Told.{refused_as, as_zoned}
use Rattle.zones.specs.Stretches.{ZonesAndRings}
use Rattle.zones.proofs.RowTold.{row_refused, row_taken}
use Rattle.zones.proofs.add_in_a_row.Goals as goal

pub returns-in_err-start : goal.returns-in_err-start
returns-in_err-start c =
    let refused = c.in_err-start.field-0.0 in
    let back : c.from_residual.result ≡ Err refused = search rules in
    let left =
    row_refused c.args.zones.now c.args.rings.now c.args.low c.args.counts.now (refused_as refused) (number_not_0 refused.refusal) c.in_err-start.ensures.told in
    (ap as_zoned back ∙ c.in_err-start.ensures.told, ap (λ (lent : ZonesAndRings). lent.zones) left, ap (λ (lent : ZonesAndRings). lent.rings) left)

pub in_a_row-requires-2 : goal.in_a_row-requires-2
in_a_row-requires-2 c = (
  c.requires.0,
  c.requires.1,
  c.in_ok-start.ensures.start,
  (row_taken c.args.zones.now c.args.rings.now c.args.low c.args.counts.now c.in_ok-start.ensures.told).0,
)

pub returns : goal.returns
returns c =
    let left = (row_taken c.args.zones.now c.args.rings.now c.args.low c.args.counts.now c.in_ok-start.ensures.told).1 in (
      c.in_ok-start.ensures.told,
      c.in_a_row-2.ensures.0 ∙ ap (λ (lent : ZonesAndRings). lent.zones) left,
      c.in_a_row-2.ensures.1 ∙ ap (λ (lent : ZonesAndRings). lent.rings) left,
    )
