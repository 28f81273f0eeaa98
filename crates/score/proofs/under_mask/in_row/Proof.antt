-- `score::under_mask::in_row` meets its contract: before each byte of the mask the count is that of the columns before it.
-- Assumes nothing.
use borrow.Author.Rules.{rules}
use Prim.Native.Nat.{ℕ, ◌+◌, ◌*◌, ◌-◌, ◌≤◌, ◌<◌, min}
use mathlib.Core.Bool.{Bool, false}
use mathlib.Core.List.{List}
use mathlib.Core.Path.{◌≡◌, sym, ap, ◌∙◌}
use native.Mathlib.Omega.{arith}
use native.Mathlib.Nat.{add-zero}
use lib.ListN.{length, get_or}
use Rattle.score.specs.Changed.{counted}
use Rattle.score.specs.Near.{moved_in}
use Rattle.score.specs.Black.{black_in}
use Rattle.score.specs.Masked.{unmasked}
use Rattle.score.specs.Rows.{black_bit, count_from}
use Rattle.score.proofs.Counts.{counted_none, counted_le}
use Rattle.score.proofs.BlackBits.{black_in_byte, white_before, white_columns}
use Rattle.score.proofs.Runs.{none_in_black, have_fewer, have_few, with_part}
use Rattle.score.proofs.under_mask.in_row.Statement.{statement}
use Rattle.score.proofs.under_mask.in_row.Tie as tie

abbrev invariant-loop : tie.invariant-loop-byte
invariant-loop first second whites row width at allowance maxval count₀ byte₀ count byte =
    (byte ≤ length row) × (count ≡ count_from (black_in row) (moved_in allowance maxval first second) at (min (8 * byte) width))

abbrev decreases-loop : tie.decreases-loop-byte
decreases-loop first second whites row width at allowance maxval count₀ byte₀ count byte = length row - byte

-- the row, its positions, and how many of them count
module _ (s : tie.Start invariant-loop decreases-loop) where
  abbrev row : List ℕ
  row = s.args.row.now

  abbrev moves : ℕ → Bool
  moves = moved_in s.args.allowance s.args.maxval s.args.first.now s.args.second.now

  abbrev count_to : ℕ → ℕ
  count_to = count_from (black_in row) moves s.args.at

  count_le : (columns : ℕ) → count_to columns ≤ columns
  count_le columns = counted_le (unmasked (black_in row) (λ column. moves (s.args.at + column))) columns

-- a turn begins at a column of the row
module _ (c : tie.In-loop-byte invariant-loop decreases-loop) where
  abbrev start : tie.Start invariant-loop decreases-loop
  start = c.before.before.before.before.before.before

  abbrev byte : ℕ
  byte = c.before.loop-byte.byte

  abbrev from : ℕ
  from = 8 * byte

  abbrev next : ℕ
  next = min (8 * (byte + 1)) start.args.width

  inside : from < start.args.width
  inside = omega (arith, start.requires.2)

  so_far : c.before.loop-byte.count ≡ count_to start from
  so_far =
      let here : min from start.args.width ≡ from = omega (arith, inside) in
      c.before.loop-byte.invariant.1 ∙ ap (count_to start) here

  -- with what counts in the byte
  with_byte : {part : ℕ}
      → part ≡ count_from (black_bit (get_or (row start) byte 0)) (moves start) (start.args.at + from) (next - from)
      → c.before.loop-byte.count + part ≡ count_to start next
  with_byte is-part =
      let order : from ≤ next = omega (arith, inside) in
      with_part (black_in (row start)) (black_bit (get_or (row start) byte 0)) (moves start) start.args.at from next order
      (λ column lt. black_in_byte (row start) byte column (omega arith)) so_far is-part

-- white bytes
module _ (c : tie.After-changed_between-count invariant-loop decreases-loop) where
  abbrev turn : tie.In-loop-byte invariant-loop decreases-loop
  turn = c.before.before.before.before.before.before

  abbrev to : ℕ
  to = c.before.columns_before-to.result

  with_run : turn.before.loop-byte.count + c.changed_between-count.result ≡ count_to (start turn) to
  with_run =
      let s = start turn in
      let white = c.before.before.white_end-white.ensures in
      let order : from turn ≤ to = omega (arith, inside turn) in
      let size : s.args.at + to - (s.args.at + from turn) ≡ to - from turn = omega arith in
      with_part (black_in (row s)) (λ column. false) (moves s) s.args.at (from turn) to order
      (λ column lt. white_columns (row s) (byte turn) _ column
      (white_before (row s) (byte turn) _ c.before.before.before.if-value-eq-WHITE.true white.2) (omega arith)) (so_far turn)
      (c.changed_between-count.ensures ∙ ap (counted (λ column. moves s (s.args.at + from turn + column))) size)

-- a byte of two colours
module _ (c : tie.After-in_byte-count invariant-loop decreases-loop) where
  abbrev turn2 : tie.In-loop-byte invariant-loop decreases-loop
  turn2 = c.before.before.before.before.before

  with_mixed : turn2.before.loop-byte.count + c.in_byte-count.result ≡ count_to (start turn2) (next turn2)
  with_mixed = let s = start turn2 in
      with_byte turn2
      (c.in_byte-count.ensures
      ∙ ap (λ (to : ℕ). count_from (black_bit (get_or (row s) (byte turn2) 0)) (moves s) (s.args.at + from turn2) (to - from turn2))
      c.before.columns_before.ensures)

loop-holds : tie.Need-loop-byte-init invariant-loop decreases-loop
loop-holds c = let s = c.before.before.before.before in
    let none : min 0 s.args.width ≡ 0 = omega arith in
    (omega arith, sym (ap (count_to s) none ∙ counted_none (unmasked (black_in (row s)) (λ column. moves s (s.args.at + column)))))

mul-from : tie.Need-overflow_mul-from invariant-loop decreases-loop
mul-from c = omega (arith, inside c)

shared-slice-read-value : tie.Need-bounds-row-byte invariant-loop decreases-loop
shared-slice-read-value c = search rules

add-byte : tie.Need-overflow_add-byte invariant-loop decreases-loop
add-byte c = omega arith

loop-less : tie.Need-loop-byte-smaller-then-value invariant-loop decreases-loop
loop-less c = omega arith

loop-again : tie.Need-loop-byte-preserved-then-value invariant-loop decreases-loop
loop-again c = let t = c.before.before in
    let s = start t in (
      omega arith,
      sym (add-zero t.before.loop-byte.count)
          ∙ with_byte t (sym (none_in_black c.if-value.true (moves s) (s.args.at + from t) (next t - from t) (omega arith))),
    )

add-white-end : tie.Need-overflow_add-byte-then-value-eq-WHITE invariant-loop decreases-loop
add-white-end c = omega arith

white-end-requires : tie.Need-white_end-white-requires invariant-loop decreases-loop
white-end-requires c κs = omega arith

columns-before-requires : tie.Need-columns_before-to-requires invariant-loop decreases-loop
columns-before-requires c κs = omega arith

add-changed-between : tie.Need-overflow_add-at invariant-loop decreases-loop
add-changed-between c = let t = c.before.before.before.before.before in
    omega (arith, inside t, have_few (start t).requires.3)

add-changed-between-2 : tie.Need-overflow_add-at-then-value-eq-WHITE invariant-loop decreases-loop
add-changed-between-2 c = omega (arith, have_few (start c.before.before.before.before.before).requires.3)

changed-between-requires : tie.Need-changed_between-count-requires invariant-loop decreases-loop
changed-between-requires c κs = let t = c.before.before.before.before.before in
    (omega (arith, inside t), have_fewer (start t).requires.3 (omega arith))

add-count : tie.Need-overflow_add-count invariant-loop decreases-loop
add-count c = omega (arith, with_run c, count_le (start (turn c)) (to c))

loop-less-2 : tie.Need-loop-byte-smaller-then-value-eq-WHITE invariant-loop decreases-loop
loop-less-2 c = omega arith

loop-again-2 : tie.Need-loop-byte-preserved-then-value-eq-WHITE invariant-loop decreases-loop
loop-again-2 c = (omega arith, with_run c ∙ ap (count_to (start (turn c))) c.before.columns_before-to.ensures)

add-here : tie.Need-overflow_add-here invariant-loop decreases-loop
add-here c = let t = c.before.before.before in
    omega (arith, inside t, have_few (start t).requires.3)

add-columns-before : tie.Need-overflow_add-byte-else-value-eq-WHITE invariant-loop decreases-loop
add-columns-before c = omega arith

columns-before-requires-2 : tie.Need-columns_before-requires invariant-loop decreases-loop
columns-before-requires-2 c κs = omega arith

sub-span : tie.Need-overflow_sub-span invariant-loop decreases-loop
sub-span c = omega (arith, inside c.before.before.before.before)

in-byte-requires : tie.Need-in_byte-count-requires invariant-loop decreases-loop
in-byte-requires c κs = let t = c.before.before.before.before in
    ((start t).requires.0, omega arith, have_fewer (start t).requires.3 (omega (arith, inside t)))

add-count-2 : tie.Need-overflow_add-count-else-value-eq-WHITE invariant-loop decreases-loop
add-count-2 c = omega (arith, with_mixed c, count_le (start (turn2 c)) (next (turn2 c)))

add-byte-2 : tie.Need-overflow_add-byte-else-value-eq-WHITE-2 invariant-loop decreases-loop
add-byte-2 c = omega arith

loop-less-3 : tie.Need-loop-byte-smaller invariant-loop decreases-loop
loop-less-3 c = omega arith

loop-again-3 : tie.Need-loop-byte-preserved invariant-loop decreases-loop
loop-again-3 c = (omega arith, with_mixed c)

returns : tie.Need-returns invariant-loop decreases-loop
returns c = let s = c.before.before.before.before.before.before in
    let all : min (8 * c.before.loop-byte.byte) s.args.width ≡ s.args.width = omega (arith, s.requires.2) in
    c.before.loop-byte.invariant.1 ∙ ap (count_to s) all

pub in_row_spec : {M : Type 1} → statement M
in_row_spec =
    tie.close
    (tie.spec
    invariant-loop
    decreases-loop
    loop-holds
    mul-from
    shared-slice-read-value
    add-byte
    loop-less
    loop-again
    add-white-end
    white-end-requires
    columns-before-requires
    add-changed-between
    add-changed-between-2
    changed-between-requires
    add-count
    loop-less-2
    loop-again-2
    add-here
    add-columns-before
    columns-before-requires-2
    sub-span
    in-byte-requires
    add-count-2
    add-byte-2
    loop-less-3
    loop-again-3
    returns)
