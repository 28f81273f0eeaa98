-- `score::compare::near_bytes`: a turn counts one block more, and the rest is behind the last.
-- Assumes nothing.
use Rattle.std.proofs.Common.{ℕ, ◌≡◌, ◌+◌, ◌*◌, ◌/◌, length, sym, ap, ◌∙◌, arith}
use Rattle.score.specs.Changed.{counted}
use Rattle.score.specs.Near.{near_at}
use Rattle.score.proofs.Counts.{counted_none, counted_le, counted_behind}
use Rattle.score.proofs.compare.near_bytes.Goals as goal

pub loop-block-init : goal.loop-block-init
loop-block-init c = let a = c.args in
    sym (counted_none (near_at 1 a.threshold a.first.now a.second.now))

pub overflow_add-count : goal.overflow_add-count
overflow_add-count c = let a = c.args in
    let l = c.loop-block in
    let test = near_at 1 a.threshold a.first.now a.second.now in
    omega (
      arith,
      c.from-count.ensures,
      counted_behind test c.near_between-near.result (l.block * 192) (l.block * 192 + 192) l.invariant c.near_between-near.ensures,
      counted_le test (l.block * 192 + 192),
    )

pub loop-block-preserved : goal.loop-block-preserved
loop-block-preserved c = let a = c.args in
    let l = c.loop-block in
    let test = near_at 1 a.threshold a.first.now a.second.now in
    let next : l.block * 192 + 192 ≡ (l.block + 1) * 192 = omega arith in
    ap (λ (n : ℕ). l.count + n) c.from-count.ensures
    ∙ counted_behind test c.near_between-near.result (l.block * 192) (l.block * 192 + 192) l.invariant c.near_between-near.ensures
    ∙ ap (counted test) next

pub overflow_add-result : goal.overflow_add-result
overflow_add-result c = let a = c.args in
    let test = near_at 1 a.threshold a.first.now a.second.now in
    let whole : c.loop-block.block * 192 ≡ length a.first.now / 192 * 192 = omega arith in
    omega (
      arith,
      c.from.ensures,
      counted_behind test c.near_between-near-2.result (length a.first.now / 192 * 192) (length a.first.now) (c.loop-block.invariant ∙ ap (counted test) whole) c.near_between-near-2.ensures,
      counted_le test (length a.first.now),
    )

pub returns : goal.returns
returns c = let a = c.args in
    let test = near_at 1 a.threshold a.first.now a.second.now in
    let whole : c.loop-block.block * 192 ≡ length a.first.now / 192 * 192 = omega arith in
    ap (λ (n : ℕ). c.loop-block.count + n) c.from.ensures
    ∙ counted_behind test c.near_between-near-2.result (length a.first.now / 192 * 192) (length a.first.now) (c.loop-block.invariant ∙ ap (counted test) whole) c.near_between-near-2.ensures
