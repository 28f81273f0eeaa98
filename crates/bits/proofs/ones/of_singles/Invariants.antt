-- Counting bytes one by one: the ones of those that are gone by.
use Rattle.std.proofs.Common.{◌≡◌, take}
use Rattle.bits.specs.Row.{bits}
use Rattle.bits.specs.Ones.{ones_of}
use Rattle.bits.proofs.ones.of_singles.Given as goal

abbrev pub invariant-loop-byte : goal.invariant-loop-byte
invariant-loop-byte l = l.sum ≡ ones_of (bits (take l.byte-index l.bytes))
