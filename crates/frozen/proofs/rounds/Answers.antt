-- `frozen::rounds`: a round's rows are due, the moment after it stands on the desk again, and where it is the last one, the output is whole.
-- Assumes nothing.
use Rattle.std.proofs.Common.{◌≡◌, ◌≤◌, length, arith, rules}
use Rattle.frozen.specs.declared.round.Go.TheVariants.{Done}
use Rattle.frozen.proofs.LoopRuns.{supplied_stands, round_stands, round_due, round_complete}
use Rattle.frozen.proofs.rounds.Goals as goal

pub send-requires : goal.send-requires
send-requires g c = let given = c.supply-given in
    let told = c.take_turns-told in
    let s = supplied_stands c.loop.invariant c.loop.over given.result given.new.buf given.ensures in
    let room : told.result.full ≤ length c.loop.out = omega (arith, told.ensures.1) in
    round_due given.result.over s.0 s.1 told.ensures.0 room

pub returns-then-eq : goal.returns-then-eq
returns-then-eq g c = let given = c.supply-given in
    let told = c.take_turns-told in
    let s = supplied_stands c.loop.invariant c.loop.over given.result given.new.buf given.ensures in
    let room : told.result.full ≤ length c.loop.out = omega (arith, told.ensures.1) in
    let ends : told.result.go ≡ Done = search rules in
    round_complete given.result.over s.0 s.1 told.ensures.0 room ends

pub loop-preserved : goal.loop-preserved
loop-preserved g c = let given = c.supply-given in
    let told = c.take_turns-told in
    let s = supplied_stands c.loop.invariant c.loop.over given.result given.new.buf given.ensures in
    let on : told.result.go ≡ Done → ⊥ = search rules in
    round_stands given.result.over s.0 s.1 told.ensures.0 on
