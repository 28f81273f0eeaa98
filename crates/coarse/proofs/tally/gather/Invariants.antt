-- `coarse::tally::gather`: after i turns the first i places hold the first i quotients.
-- Assumes nothing.
use Rattle.std.proofs.Common.{◌≡◌, take}
use Rattle.coarse.specs.Quotients.{quotients}
use Rattle.coarse.proofs.tally.gather.Given as goal

abbrev pub invariant-loop-i : goal.invariant-loop-i
invariant-loop-i l = take l.i l.part ≡ take l.i (quotients l.known.book l.ring l.j)
