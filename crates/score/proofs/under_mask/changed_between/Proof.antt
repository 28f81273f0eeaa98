-- `score::under_mask::changed_between` meets its contract: the parts of the two rasters are compared as rasters are.
-- Assumes nothing.
use borrow.Author.Rules.{rules}
use Prim.Native.Nat.{ℕ, ◌*◌, ◌≤◌}
use mathlib.Core.Path.{sym, ap, ◌∙◌, subst}
use native.Mathlib.Omega.{arith}
use native.Mathlib.Nat.{mul-le-mul_right}
use lib.ListN.{length}
use Rattle.score.specs.Near.{changed_in}
use Rattle.score.proofs.Runs.{part_of, part_size, part_length, part_changed}
use Rattle.score.proofs.under_mask.changed_between.Statement.{statement}
use Rattle.score.proofs.under_mask.changed_between.Tie as tie

-- where the parts begin and end
module _ (c : tie.After-pixel_bytes-per) where
  abbrev start : tie.Start
  start = c.before.before.before

  abbrev per : ℕ
  per = c.pixel_bytes-per.result

  order : start.args.from * per ≤ start.args.to * per
  order = mul-le-mul_right per start.requires.0

  first_has : start.args.to * per ≤ length start.args.first.now
  first_has = subst (λ (k : ℕ). start.args.to * k ≤ length start.args.first.now) (sym c.pixel_bytes-per.ensures) start.requires.1.first_has

  second_has : start.args.to * per ≤ length start.args.second.now
  second_has = subst (λ (k : ℕ). start.args.to * k ≤ length start.args.second.now) (sym c.pixel_bytes-per.ensures) start.requires.1.second_has

pixel-bytes-requires : tie.Need-pixel_bytes-per-requires
pixel-bytes-requires c κs = search rules

mul-start : tie.Need-overflow_mul-start
mul-start c = omega (arith, order c, first_has c, (start c).requires.1.few)

mul-end : tie.Need-overflow_mul-end
mul-end c = omega (arith, first_has c, (start c).requires.1.few)

sub-changed : tie.Need-slice_bounds-changed-count
sub-changed c = order c

part-changed-start : tie.Need-slice_bounds-changed-start
part-changed-start c = let h = first_has c in let o = order c in
    search rules

part-changed-end : tie.Need-slice_bounds-changed-end
part-changed-end c = let h = first_has c in
    search rules

sub-changed-2 : tie.Need-slice_bounds-changed-count-2
sub-changed-2 c = order c.before

part-changed-start-2 : tie.Need-slice_bounds-changed-start-2
part-changed-start-2 c = let h = second_has c.before in let o = order c.before in
    search rules

part-changed-end-2 : tie.Need-slice_bounds-changed-end-2
part-changed-end-2 c = let h = second_has c.before in
    search rules

changed-requires : tie.Need-changed-requires
changed-requires c κs = let p = c.before.before in
    let a = (start p).args in
    let size = part_length (per p) a.from a.to a.first.now (start p).requires.0 (first_has p) in (
      size ∙ sym (part_length (per p) a.from a.to a.second.now (start p).requires.0 (second_has p)),
      omega (arith, size, part_size (per p) a.from a.to a.first.now (start p).requires.0 (first_has p), first_has p, (start p).requires.1.few),
      (start p).requires.1.maxval_most,
    )

returns : tie.Need-returns
returns c = let p = c.before.before.before in
    let a = (start p).args in
    c.changed.ensures
    ∙ ap (λ (k : ℕ). changed_in a.allowance a.maxval (part_of k a.from a.to a.first.now) (part_of k a.from a.to a.second.now))
    p.pixel_bytes-per.ensures
    ∙ part_changed a.allowance a.maxval a.from a.to a.first.now a.second.now (start p).requires.0 (start p).requires.1

pub changed_between_spec : {M : Type 1} → statement M
changed_between_spec =
    tie.close
    (tie.spec
    pixel-bytes-requires
    mul-start
    mul-end
    sub-changed
    part-changed-start
    part-changed-end
    sub-changed-2
    part-changed-start-2
    part-changed-end-2
    changed-requires
    returns)
