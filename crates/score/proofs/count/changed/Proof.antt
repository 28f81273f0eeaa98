-- `score::count::changed` meets its contract: what is left of all positions without the near ones, for pixels of either width.
-- Assumes nothing.
use borrow.Author.Rules.{rules}
use Prim.Native.Nat.{ℕ, ◌-◌, ◌/◌, ◌≤◌}
use mathlib.Core.List.{List}
use mathlib.Core.Path.{◌≡◌, ap, ◌∙◌}
use native.Mathlib.Omega.{arith}
use lib.ListN.{length}
use Rattle.image.specs.Pixels.{pixel_bytes}
use Rattle.image.proofs.Promises.{pixel_bytes_one, pixel_bytes_two}
use Rattle.score.specs.Changed.{counted}
use Rattle.score.specs.Near.{threshold_of, near_at, changed_in}
use Rattle.score.proofs.Near.{moved_are_others, threshold_most}
use Rattle.score.proofs.count.changed.Statement.{statement}
use Rattle.score.proofs.count.changed.Tie as tie

-- what the count is, and that it is there to be taken off
abbrev Left : (allowance maxval count near : ℕ) (first second : List ℕ) → Type 0
Left allowance maxval count near first second =
    (near ≤ count) × (count - near ≡ changed_in allowance maxval first second)

left : (allowance maxval per count : ℕ) (first second : List ℕ) {threshold near : ℕ} → pixel_bytes maxval ≡ per → length first / per ≡ count
    → threshold ≡ threshold_of allowance maxval → near ≡ counted (near_at per threshold first second) count
    → Left allowance maxval count near first second
left allowance maxval per count first second {threshold} {near} is_per is-count is-threshold is-near =
    let counted_near : near ≡ counted (near_at per (threshold_of allowance maxval) first second) count =
    is-near ∙ ap (λ (t : ℕ). counted (near_at per t first second) count) is-threshold in
    let all = moved_are_others allowance maxval per count first second in
    (omega (arith, counted_near, all), rw (is_per, is-count) (omega (arith, counted_near, all)))

-- with one byte a pixel
module _ (c : tie.After-near_bytes-near) where
  abbrev small : tie.Then-maxval-le-BYTE_MOST
  small = c.before.before

  abbrev start : tie.Start
  start = small.before.before.before

  left_of_bytes : let a = start.args in
      Left a.allowance a.maxval (length a.first.now) c.near_bytes-near.result a.first.now a.second.now
  left_of_bytes =
      let a = start.args in
      left a.allowance a.maxval 1 (length a.first.now) a.first.now a.second.now
      (pixel_bytes_one a.maxval small.if-maxval-le-BYTE_MOST.true) (omega arith) c.before.byte_threshold.ensures c.near_bytes-near.ensures

-- with two
module _ (c : tie.After-near_pairs-near) where
  abbrev large : tie.Else-maxval-le-BYTE_MOST
  large = c.before.before

  abbrev start2 : tie.Start
  start2 = large.before.before.before

  left_of_pairs : let a = start2.args in
      Left a.allowance a.maxval (length a.first.now / 2) c.near_pairs-near.result a.first.now a.second.now
  left_of_pairs =
      let a = start2.args in
      left a.allowance a.maxval 2 (length a.first.now / 2) a.first.now a.second.now
      (pixel_bytes_two a.maxval large.if-maxval-le-BYTE_MOST.false) (omega arith) c.before.threshold.ensures c.near_pairs-near.ensures

byte-threshold-requires : tie.Need-byte_threshold-requires
byte-threshold-requires c κs = search rules

near-bytes-requires : tie.Need-near_bytes-near-requires
near-bytes-requires c κs = search rules

cast-result : tie.Need-overflow_cast-result
cast-result c = search rules

sub-result : tie.Need-overflow_sub-result
sub-result c = (left_of_bytes c).0

returns : tie.Need-returns-then-maxval-le-BYTE_MOST
returns c = (left_of_bytes c).1

threshold-requires : tie.Need-threshold-requires
threshold-requires c κs = search rules

cast-near-of : tie.Need-overflow_cast-threshold
cast-near-of c = let a = c.before.before.before.before.args in
    omega (arith, c.threshold.ensures, threshold_most a.allowance a.maxval (omega arith))

near-pairs-requires : tie.Need-near_pairs-near-requires
near-pairs-requires c κs = search rules

cast-result-2 : tie.Need-overflow_cast-result-2
cast-result-2 c = search rules

sub-result-2 : tie.Need-overflow_sub-result-2
sub-result-2 c = (left_of_pairs c).0

returns-2 : tie.Need-returns
returns-2 c = (left_of_pairs c).1

pub changed_spec : {M : Type 1} → statement M
changed_spec =
    tie.close
    (tie.spec
    byte-threshold-requires
    near-bytes-requires
    cast-result
    sub-result
    returns
    threshold-requires
    cast-near-of
    near-pairs-requires
    cast-result-2
    sub-result-2
    returns-2)
