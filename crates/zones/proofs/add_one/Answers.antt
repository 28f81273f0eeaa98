-- `zones::add_one`: the call is refused with 20, or it is adding to zones in a row.
-- Assumes nothing.
use Rattle.std.proofs.Common.{◌≡◌, true, false, refl, ap, ◌∙◌, arith}
use Rattle.zones.specs.Stretches.{ZonesAndRings}
use Rattle.zones.proofs.EarlyFaults.{one_20, one_fits}
use Rattle.zones.proofs.add_one.Goals as goal
use Rattle.zones.proofs.add_one.Goals.{then-not-how_many-via-then-not-how_many, then-not-how_many-via-else-not-how_many+then-zones-zone}

pub returns-then-not-how_many : goal.returns-then-not-how_many
returns-then-not-how_many c =
    let is = one_20 c.args.zones.now c.args.rings.now c.args.zone c.args.item
    (λ many fits. elim c.then-not-how_many.branch [
      | then-not-how_many-via-then-not-how_many w ↦ (let no : false ≡ true = w.if-not-how_many.ensures.1 many in cc)
      | then-not-how_many-via-else-not-how_many+then-zones-zone w ↦ (let behind = w.if-zones-zone.true in omega arith)
    ]) in
    (c.of_call.ensures ∙ is.0, is.1, is.2)

pub returns : goal.returns
returns c =
    let fits = one_fits c.args.zones.now c.args.rings.now c.args.zone c.args.item (c.if-not-how_many.ensures.0 refl) c.if-zones-zone.false in (
      c.add_in_a_row.ensures.0 ∙ fits.0,
      c.add_in_a_row.ensures.1 ∙ ap (λ (lent : ZonesAndRings). lent.zones) fits.1,
      c.add_in_a_row.ensures.2 ∙ ap (λ (lent : ZonesAndRings). lent.rings) fits.1,
    )
