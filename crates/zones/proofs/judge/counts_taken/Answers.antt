-- `zones::judge::counts_taken`: the first zone that does not take its count is the lowest.
-- Assumes nothing.
use Rattle.std.proofs.Common.{rules, ◌≡◌, Err, get_or, ap, ◌∙◌, arith}
use Rattle.refusals.specs.Refused.{number_in}
use Rattle.refusals.proofs.Numbers.{number_not_0}
use Rattle.zones.specs.declared.told.Zoned.{Zoned}
use Rattle.zones.specs.Told.{as_zoned}
use Rattle.zones.specs.Stretches.{zone_at}
use Rattle.zones.specs.Lowest.{taking_refusal}
use Rattle.zones.proofs.RefusalNumbers.{taking_names, err_names}
use Rattle.zones.proofs.LowestFound.{count_found, all_taken}
use Rattle.zones.proofs.judge.counts_taken.Goals as goal

pub of_zone-requires : goal.of_zone-requires
of_zone-requires c =
    let book = zone_at c.args.zones.now c.loop-place.place in
    let count = get_or c.args.counts.now c.loop-place.place 0 in
    err_names c.takes.result (taking_refusal book count) c.takes.ensures (taking_names book count)

pub returns-in_err-of_zone : goal.returns-in_err-of_zone
returns-in_err-of_zone c =
    let refused = c.in_err-of_zone.field-0.0 in
    let back : c.from_residual.result ≡ Err refused = search rules in
    ap as_zoned back ∙ c.in_err-of_zone.ensures
    ∙ count_found c.args.first c.args.zones.now c.args.counts.now c.requires.0 c.loop-place.place c.loop-place-test.true c.loop-place.invariant
    (number_in c.takes.result) c.takes.ensures
    (λ none. number_not_0 refused.refusal (ap (λ (told : Zoned). told.refusal) c.in_err-of_zone.ensures ∙ none))

pub returns : goal.returns
returns c =
    all_taken c.args.first c.args.zones.now c.args.counts.now c.requires.0
    (λ k there. c.loop-place.invariant k (let behind = c.loop-place-test.false in omega arith))
