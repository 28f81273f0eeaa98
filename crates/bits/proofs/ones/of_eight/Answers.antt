-- `bits::ones::of_eight`: the law of a word.
use Rattle.std.proofs.Common.{refl, ap, ◌∙◌, arith, List, ℕ}
use lib.Count.{ones}
use lib.Seq.{take_all}
use Rattle.bits.specs.Row.{bits}
use Rattle.bits.specs.Ones.{ones_of}
use Rattle.bits.proofs.CountingOnes.{low_ones}
use Rattle.bits.proofs.ones.of_eight.Goals as goal

pub returns : goal.returns
returns c = let row = c.args.bytes.now in
    let same = (rw (c.unwrap-eight.ensures) at c.try_into.ensures.1).same in
    ap ones (c.from_le_bytes.ensures ∙ rw same refl)
    ∙ low_ones row (λ i. (c.type_inv.bytes i).fits) 7 (omega (arith, c.requires))
    ∙ ap (λ (l : List ℕ). ones_of (bits l)) (take_all 8 row (omega (arith, c.requires)))
