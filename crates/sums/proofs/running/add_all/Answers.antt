-- `sums::running::add_all`: each part is what head's group takes, or all that is left.
-- Assumes nothing.
use Rattle.std.proofs.Common.{◌≡◌, ℕ, ◌<◌, Bool, false, ◌==◌, length, min, sym, ap, ◌∙◌, arith}
use borrow.Author.Tests.{eqb-false, eqb-true}
use Rattle.sums.proofs.RunTurns.{takes, taking_by, going_start, many_some, these_few, these_taken, going_step, going_end}
use Rattle.sums.proofs.running.add_all.Goals as goal

-- a slice that is not empty has items
some : (n : ℕ) {empty : Bool} → empty ≡ (n == 0) → empty ≡ false → 0 < n
some n e not = let other : n ≡ 0 → ⊥ = eqb-false n 0 (sym e ∙ not) in omega arith

pub loop-left-init : goal.loop-left-init
loop-left-init c = going_start c.args.ring.now c.args.row.now (takes c.args.known c.requires)

pub add_part-after-requires : goal.add_part-after-requires
add_part-after-requires c =
    let g = c.loop-left.invariant in
    let many_is = c.min.ensures ∙ ap (λ (n : ℕ). min n (length c.loop-left.left.now)) c.items_left-most.ensures in
    rw c.split_at.ensures.front (taking_by _ (these_taken g many_is), these_few g many_is, g.from_low, g.stands (some (length c.loop-left.left.now) c.is_empty.ensures c.loop-left-test.true))

pub loop-left-smaller : goal.loop-left-smaller
loop-left-smaller c =
    let g = c.loop-left.invariant in
    let many_is = c.min.ensures ∙ ap (λ (n : ℕ). min n (length c.loop-left.left.now)) c.items_left-most.ensures in
    let more = some (length c.loop-left.left.now) c.is_empty.ensures c.loop-left-test.true in
    omega (arith, c.split_at.ensures.back_len, many_some g many_is more)

pub loop-left-preserved : goal.loop-left-preserved
loop-left-preserved c =
    let g = c.loop-left.invariant in
    let many_is = c.min.ensures ∙ ap (λ (n : ℕ). min n (length c.loop-left.left.now)) c.items_left-most.ensures in
    let part = c.add_part-after in
    rw c.split_at.ensures.back
    (going_step g many_is (rw c.split_at.ensures.front at part.ensures.0) (rw c.split_at.ensures.front at part.ensures.1)
    (rw c.split_at.ensures.front at part.ensures.2) part.auto.row)

pub returns : goal.returns
returns c = going_end c.loop-left.invariant (eqb-true (length c.loop-left.left.now) 0 (sym c.is_empty.ensures ∙ c.loop-left-test.false))
