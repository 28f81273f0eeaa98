-- `score::under_mask::changed`: a turn counts one row more.
-- Assumes nothing.
use borrow.Author.Rules.{rules}
use Rattle.std.proofs.Common.{ℕ, ◌≡◌, ◌+◌, ◌*◌, ◌<◌, sym, ap, ◌∙◌, arith}
use mathlib.Core.Bool.{Bool}
use mathlib.Core.List.{List}
use mathlib.Core.Path.{refl}
use native.Mathlib.Nat.{mul_comm}
use Rattle.score.specs.Changed.{counted}
use Rattle.score.specs.Near.{moved_in}
use Rattle.score.specs.Black.{black_at}
use Rattle.score.specs.Masked.{unmasked}
use Rattle.score.specs.Rows.{whites_from}
use Rattle.score.proofs.Counts.{counted_none, counted_le}
use Rattle.score.proofs.Runs.{have_fewer, have_few, row_ends, row_positions, row_length, with_row}
use Rattle.score.proofs.under_mask.changed.Goals as goal

-- which positions count
abbrev test : (allowance maxval width : ℕ) (first second mask : List ℕ) → ℕ → Bool
test allowance maxval width first second mask = unmasked (black_at width mask) (moved_in allowance maxval first second)

pub slice_bounds-whites-end : goal.slice_bounds-whites-end
slice_bounds-whites-end c = refl

pub loop-row-init : goal.loop-row-init
loop-row-init c = let a = c.args in
    let none : 0 * a.width ≡ 0 = omega arith in
    let tests = test a.allowance a.maxval a.width a.first.now a.second.now a.mask.now in
    sym (ap (counted tests) none ∙ counted_none tests)

pub overflow_mul-start : goal.overflow_mul-start
overflow_mul-start c =
    let a = c.args in
    let row = c.loop-row.row in
    let below : row < a.height = omega arith in
    let ends = row_ends a.width a.mask.now row below c.requires.2 in
    search rules

pub overflow_add-start : goal.overflow_add-start
overflow_add-start c =
    let a = c.args in
    let row = c.loop-row.row in
    let below : row < a.height = omega arith in
    let ends = row_ends a.width a.mask.now row below c.requires.2 in
    search rules

pub slice_bounds-in_row-start : goal.slice_bounds-in_row-start
slice_bounds-in_row-start c =
    let a = c.args in
    let row = c.loop-row.row in
    let below : row < a.height = omega arith in
    let ends = row_ends a.width a.mask.now row below c.requires.2 in
    search rules

pub slice_bounds-in_row-end : goal.slice_bounds-in_row-end
slice_bounds-in_row-end c =
    let a = c.args in
    let row = c.loop-row.row in
    let below : row < a.height = omega arith in
    let ends = row_ends a.width a.mask.now row below c.requires.2 in
    search rules

pub overflow_mul-row : goal.overflow_mul-row
overflow_mul-row c = let a = c.args in
    let below : c.loop-row.row < a.height = omega arith in
    omega (arith, row_positions a.width a.mask.now c.loop-row.row below, have_few c.requires.3)

pub in_row-count-requires : goal.in_row-count-requires
unfolding whites_from
in_row-count-requires c = let a = c.args in
    let below : c.loop-row.row < a.height = omega arith in (
      refl,
      c.requires.1,
      row_length a.width a.mask.now c.loop-row.row below c.requires.2,
      have_fewer c.requires.3 (row_positions a.width a.mask.now c.loop-row.row below),
    )

pub overflow_add-count : goal.overflow_add-count
overflow_add-count c = let a = c.args in
    let l = c.loop-row in
    let below : l.row < a.height = omega arith in
    let moves = moved_in a.allowance a.maxval a.first.now a.second.now in
    let tests = test a.allowance a.maxval a.width a.first.now a.second.now a.mask.now in
    omega (
      arith,
      with_row a.width a.mask.now l.row moves l.invariant c.in_row-count.ensures,
      counted_le tests ((l.row + 1) * a.width),
      row_positions a.width a.mask.now l.row below,
      have_few c.requires.3,
    )

pub loop-row-preserved : goal.loop-row-preserved
loop-row-preserved c = let a = c.args in
    with_row a.width a.mask.now c.loop-row.row (moved_in a.allowance a.maxval a.first.now a.second.now) c.loop-row.invariant c.in_row-count.ensures

pub returns : goal.returns
returns c = let a = c.args in
    let last : c.loop-row.row ≡ a.height = omega arith in
    let all : c.loop-row.row * a.width ≡ a.width * a.height = ap (λ (n : ℕ). n * a.width) last ∙ mul_comm a.height a.width in
    c.loop-row.invariant ∙ ap (counted (test a.allowance a.maxval a.width a.first.now a.second.now a.mask.now)) all
