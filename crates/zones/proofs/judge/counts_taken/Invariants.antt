-- The loop of `zones::judge::counts_taken`: every zone before takes its count.
-- Assumes nothing.
use Rattle.std.proofs.Common.{◌≡◌, ℕ, ◌<◌, get_or}
use Rattle.zones.specs.Stretches.{zone_at}
use Rattle.zones.specs.Lowest.{taking_refusal}
use Rattle.zones.proofs.judge.counts_taken.Given as goal

abbrev pub invariant-loop-place : goal.invariant-loop-place
invariant-loop-place l = (k : ℕ) → k < l.place → taking_refusal (zone_at l.zones k) (get_or l.counts k 0) ≡ 0
