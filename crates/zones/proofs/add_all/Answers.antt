-- `zones::add_all`: the call is refused with 20, or it is adding to zones in a row.
-- Assumes nothing.
use Rattle.std.proofs.Common.{◌≡◌, true, false, refl, ap, ◌∙◌}
use Rattle.zones.specs.Stretches.{ZonesAndRings}
use Rattle.zones.proofs.EarlyFaults.{all_20, all_fit}
use Rattle.zones.proofs.add_all.Goals as goal
use Rattle.zones.proofs.add_all.Goals.{then-not-how_many-via-then-not-how_many, then-not-how_many-via-else-not-how_many+then-counts-zones}

pub returns-then-not-how_many : goal.returns-then-not-how_many
returns-then-not-how_many c =
    let is = all_20 c.args.zones.now c.args.rings.now c.args.counts.now
    (λ many fits. elim c.then-not-how_many.branch [
      | then-not-how_many-via-then-not-how_many w ↦ (let no : false ≡ true = w.if-not-how_many.ensures.1 many in cc)
      | then-not-how_many-via-else-not-how_many+then-counts-zones w ↦ w.if-counts-zones.true fits
    ]) in
    (c.of_call.ensures ∙ is.0, is.1, is.2)

pub returns : goal.returns
returns c =
    let fits = all_fit c.args.zones.now c.args.rings.now c.args.counts.now (c.if-not-how_many.ensures.0 refl) c.if-counts-zones.false in (
      c.add_in_a_row.ensures.0 ∙ fits.0,
      c.add_in_a_row.ensures.1 ∙ ap (λ (lent : ZonesAndRings). lent.zones) fits.1,
      c.add_in_a_row.ensures.2 ∙ ap (λ (lent : ZonesAndRings). lent.rings) fits.1,
    )
