-- `lit::search::pass`: each turn passes one group more, and the search stops where its laws say.
use Rattle.std.proofs.Common.{◌∙◌, sym, arith}
use Rattle.lit.proofs.Searching.{left_behind, group_le, pass_group, stop_here}
use Rattle.lit.proofs.search.pass.Goals as goal

pub overflow_add-after : goal.overflow_add-after
overflow_add-after c = let l = c.loop-group.invariant in
    let step = c.in-Some.ensures.steps.1 in
    omega (arith, group_le _ _ _ _ l.passed c.requires.few _ _ _ _ (l.left ∙ step.0) (step.1 ∙ l.groups) c.of_bytes.ensures, c.requires.few)

pub returns-then-k-after : goal.returns-then-k-after
returns-then-k-after c = let l = c.loop-group.invariant in
    let step = c.in-Some.ensures.steps.1 in
    stop_here _ _ _ _ l.passed c.requires.few _ _ _ _ (l.left ∙ step.0) (step.1 ∙ l.groups) c.of_bytes.ensures c.if-k-after.true

pub loop-group-preserved : goal.loop-group-preserved
loop-group-preserved c = let l = c.loop-group.invariant in
    let step = c.in-Some.ensures.steps in
    record {
      groups = step.0 ∙ l.groups;
      left = sym (left_behind _ _ _ _ _ (l.left ∙ step.1.0) (step.1.1 ∙ l.groups));
      passed = pass_group _ _ _ _ l.passed c.requires.few _ _ _ _ (l.left ∙ step.1.0) (step.1.1 ∙ l.groups) c.of_bytes.ensures c.if-k-after.false;
    }
