-- Counts of the positions that pass a test.
-- Assumes nothing.
use Prim.Native.Nat.{ℕ, zero, suc, ◌+◌, ◌≤◌, ◌<◌}
use mathlib.Core.Bool.{Bool, true, false, not}
use mathlib.Core.Path.{◌≡◌, refl, sym, ap, ◌∙◌}
use native.Mathlib.Omega.{arith}
use native.Mathlib.Nat.{add-zero, add-suc}
use native.Mathlib.Numerals.{add-one}
use Rattle.score.specs.Changed.{one_if, counted}

-- a position counts once at most
pub one_at_most : (holds : Bool) → one_if holds ≤ 1
one_at_most true = omega arith
one_at_most false = omega arith

module _ (test : ℕ → Bool) where
  pub counted_none : counted test 0 ≡ 0
  unfolding counted
  counted_none = refl

  pub counted_more : (count : ℕ) → counted test (suc count) ≡ counted test count + one_if (test count)
  unfolding counted
  counted_more count = refl

  -- a count from any position on, and one position more
  pub counted_on : (from count here step : ℕ) → counted test from + count ≡ counted test here → step ≡ one_if (test here)
      → counted test from + (count + step) ≡ counted test (here + 1)
  counted_on from count here step so_far is-step = rw (add-one here, counted_more here) (omega (arith, so_far, is-step))

  pub counted_next : {count step : ℕ} (here : ℕ) → count ≡ counted test here → step ≡ one_if (test here) → count + step ≡ counted test (here + 1)
  counted_next here so_far is-step = rw (add-one here, counted_more here) (omega (arith, so_far, is-step))

  -- a count with that of the positions behind
  pub counted_behind : (more from to : ℕ) {count : ℕ} → count ≡ counted test from → counted test from + more ≡ counted test to → count + more ≡ counted test to
  counted_behind more from to so_far is-more = (λ i. so_far i + more) ∙ is-more

  -- no more positions than there are
  pub counted_le : (count : ℕ) → counted test count ≤ count
  unfolding counted
  counted_le zero = omega arith
  counted_le (suc count) = omega (arith, counted_le count, one_at_most (test count))

  -- a test that holds nowhere counts nothing
  pub counted_nowhere : (count : ℕ) → ((position : ℕ) → position < count → test position ≡ false) → counted test count ≡ 0
  unfolding counted
  counted_nowhere zero nowhere = refl
  counted_nowhere (suc count) nowhere =
      let before = counted_nowhere count (λ position lt. nowhere position (omega arith)) in
      omega (arith, before, ap one_if (nowhere count (omega arith)))

fewer : (holds holds' : Bool) → (holds ≡ true → holds' ≡ true) → one_if holds ≤ one_if holds'
fewer true holds' so = rw (so refl) (omega arith)
fewer false holds' so = omega arith

-- a test that holds only where another does counts no more
pub counted_fewer : (test test' : ℕ → Bool) (count : ℕ)
    → ((position : ℕ) → position < count → test position ≡ true → test' position ≡ true) → counted test count ≤ counted test' count
unfolding counted
counted_fewer test test' zero only = omega arith
counted_fewer test test' (suc count) only =
    let before = counted_fewer test test' count (λ position lt. only position (omega arith)) in
    omega (arith, before, fewer (test count) (test' count) (only count (omega arith)))

-- so two tests that agree on the positions count the same
pub counted_same : (test test' : ℕ → Bool) (count : ℕ) → ((position : ℕ) → position < count → test position ≡ test' position)
    → counted test count ≡ counted test' count
counted_same test test' count same =
    omega (
      arith,
      counted_fewer test test' count (λ position lt holds. sym (same position lt) ∙ holds),
      counted_fewer test' test count (λ position lt holds. same position lt ∙ holds),
    )

one_if_not : (holds : Bool) → one_if holds + one_if (not holds) ≡ 1
one_if_not true = refl
one_if_not false = refl

-- what does not pass a test are all other positions
pub counted_others : (test others : ℕ → Bool) (count : ℕ) → ((position : ℕ) → others position ≡ not (test position))
    → counted test count + counted others count ≡ count
unfolding counted
counted_others test others zero opposite = refl
counted_others test others (suc count) opposite =
    omega (arith, counted_others test others count opposite, one_if_not (test count), ap one_if (opposite count))

-- a count goes on behind any position
pub counted_onward : (test : ℕ → Bool) (from count : ℕ) → counted test (from + count) ≡ counted test from + counted (λ more. test (from + more)) count
unfolding counted
counted_onward test from zero = rw add-zero (omega arith)
counted_onward test from (suc count) = rw (add-suc from count) (omega (arith, counted_onward test from count))
