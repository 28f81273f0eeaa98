-- `frozen::rounds`: the calls so far are a run of watch.
use Rattle.frozen.proofs.LoopRuns.{Stands}
use Rattle.frozen.proofs.rounds.Given as goal

abbrev pub invariant-loop : goal.invariant-loop
invariant-loop g l = Stands l.told l.ring l.buf
