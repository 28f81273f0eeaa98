-- `bits::ones::of_part`: the law of a part of a byte.
use Rattle.std.proofs.Common.{ℕ, ◌-◌, ◌%◌, ◌/◌, ◌^◌, get_or, ap, ◌∙◌, arith}
use Rattle.std.proofs.lemmas.Nat.{one_shl}
use lib.Count.{ones}
use Rattle.bits.proofs.CountingOnes.{between_le, part_of_byte}
use Rattle.bits.proofs.ones.of_part.Goals as goal

pub returns-then-to-from : goal.returns-then-to-from
returns-then-to-from c = omega (arith, between_le c.args.row.now c.args.from c.args.to)

pub returns : goal.returns
returns c = let a = c.args in
    rw c.from.ensures (ap (λ (mask : ℕ). ones (get_or a.row.now (a.from / 8) 0 % mask / 2 ^ (8 - a.from % 8 - (a.to - a.from)))) (one_shl (8 - a.from % 8) 32 (omega arith)))
    ∙ part_of_byte a.row.now (λ i. (c.type_inv.row i).fits) (omega arith) c.requires.one c.requires.there
