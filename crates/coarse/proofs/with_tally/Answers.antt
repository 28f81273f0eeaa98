-- `coarse::with_tally`: a phase and a block have at most 4,096 items, so that no product reaches 2^64.
-- Assumes nothing.
use Rattle.std.proofs.Common.{ℕ, ◌*◌, ◌≤◌, arith, le_trans, mul-le-mul}
use Rattle.book.specs.declared.known.Known.{Known}
use Rattle.coarse.proofs.AtHand.{known_sizes}
use Rattle.coarse.proofs.with_tally.Goals as goal

-- the items of so many blocks
items : (known : Known) {blocks : ℕ} → blocks ≤ 4096 → blocks * known.shape.block ≤ 16777216
items known few = mul-le-mul {n₂ = 4096} {m₂ = 4096} few (known_sizes known).block_top

pub overflow_mul-result-3 : goal.overflow_mul-result-3
overflow_mul-result-3 c = omega (arith, items c.args.known c.requires.3)

pub overflow_add-result-2 : goal.overflow_add-result-2
overflow_add-result-2 c = omega (arith, items c.args.known c.requires.3, (known_sizes c.args.known).phase_top)

pub overflow_mul-result-4 : goal.overflow_mul-result-4
overflow_mul-result-4 c = omega (arith, items c.args.known (le_trans c.requires.1 (known_sizes c.args.known).slots_high))

pub overflow_add-result-3 : goal.overflow_add-result-3
overflow_add-result-3 c =
    let sizes = known_sizes c.args.known in
    omega (arith, items c.args.known (le_trans c.requires.1 sizes.slots_high), sizes.phase_top)
