-- `sums::totals::slots_for`: both numbers have few bits, and the quotient is rounded up.
-- Assumes nothing.
use Rattle.std.proofs.Common.{ℕ, ◌+◌, ◌-◌, ◌/◌, sym, ap, ◌∙◌, arith}
use Rattle.book.specs.Record.{block_of}
use Rattle.book.proofs.Promises.{for_is, rounded_up}
use Rattle.sums.proofs.ShapeInUse.{use_block}
use Rattle.sums.proofs.totals.slots_for.Goals as goal

pub overflow_add-up : goal.overflow_add-up
overflow_add-up c = omega (arith, use_block c.args.known.derived c.args.known.sound, c.args.known.sound.kept_high, c.args.known.sound.ranges.length_high)

pub overflow_cast-result : goal.overflow_cast-result
overflow_cast-result c = omega (arith, use_block c.args.known.derived c.args.known.sound, c.args.known.sound.kept_high, c.args.known.sound.ranges.length_high)

pub overflow_cast-result-2 : goal.overflow_cast-result-2
overflow_cast-result-2 c = omega (arith, use_block c.args.known.derived c.args.known.sound)

pub returns : goal.returns
returns c =
    let a = c.args in
    let book = a.known.book in
    ap (λ (b : ℕ). (a.window - book.phase + (b - 1)) / b) (use_block c.args.known.derived c.args.known.sound).0
    ∙ sym (for_is book a.window ∙ rounded_up (a.window - book.phase) (block_of book))
