-- `frozen::round::take_turns`: each turn goes on with the round, or stops it.
-- Assumes nothing.
use Rattle.std.proofs.Common.{◌≡◌, ℕ, suc, ◌+◌, ◌-◌, ◌<◌, arith, rules}
use Rattle.frozen.specs.Round.{turns_most}
use Rattle.frozen.specs.declared.round.Go.TheVariants.{Again}
use Rattle.frozen.proofs.TurnByTurn.{so_far_ends, so_far_goes_on, so_far_stops}
use Rattle.frozen.proofs.round.take_turns.Goals as goal

-- a turn more is one less that is left
one_less : (taken : ℕ) → taken < turns_most → turns_most - taken ≡ suc (turns_most - (taken + 1))
one_less taken some = omega arith

pub turn-told-requires : goal.turn-told-requires
turn-told-requires c = let so = c.loop.invariant in
    (so.fits, omega (arith, so.room, c.loop-test.true, c.loop.auto.out, c.requires.1))

pub returns-then-ne : goal.returns-then-ne
returns-then-ne c = let taken = c.loop.counter in
    let t = c.turn-told in
    let stops : t.result.go ≡ Again → ⊥ = search rules in
    so_far_stops c.loop.invariant (turns_most - (taken + 1)) (one_less taken c.loop-test.true) t.ensures.0 t.ensures.1 stops

pub loop-preserved : goal.loop-preserved
loop-preserved c = let taken = c.loop.counter in
    let t = c.turn-told in
    let goes : t.result.go ≡ Again = search rules in
    so_far_goes_on c.loop.invariant (turns_most - (taken + 1)) (one_less taken c.loop-test.true) t.ensures.0 t.ensures.1 goes t.auto.ring

pub returns : goal.returns
returns c = so_far_ends c.loop.invariant (omega (arith, c.loop-test.false))
