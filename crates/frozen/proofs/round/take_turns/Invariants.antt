-- `frozen::round::take_turns` goes turn by turn as a round does.
-- Assumes nothing.
use Rattle.std.proofs.Common.{◌-◌}
use Rattle.frozen.specs.Round.{round_of, turns_most}
use Rattle.frozen.proofs.TurnByTurn.{SoFar}
use Rattle.frozen.proofs.round.take_turns.Given as goal

abbrev pub invariant-loop : goal.invariant-loop
invariant-loop l =
    SoFar (round_of turns_most l.fn.desk l.fn.ring l.buf l.over) l.buf l.over l.fn.ring l.fn.out l.ring l.out l.told (turns_most - l.counter)
