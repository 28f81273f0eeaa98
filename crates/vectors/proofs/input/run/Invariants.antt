-- `vectors::input::run` keeps no more than the buffer holds.
-- Assumes nothing.
use Rattle.std.proofs.Common.{◌≤◌, length, ◌≡◌}
use Rattle.vectors.proofs.input.run.Given as goal

abbrev pub invariant-loop : goal.invariant-loop
invariant-loop g l = (l.kept.bytes ≤ length l.buf) × (length l.buf ≡ length l.initial.buf)
