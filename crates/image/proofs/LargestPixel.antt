-- The largest of some pixels, and a test that holds at some position, of which "some pixel is above maxval" is one:
-- it is so exactly where the largest pixel is.
-- Assumes nothing.
use Prim.Native.Nat.{ℕ, zero, suc, ◌+◌, ◌*◌, ◌<◌, max}
use mathlib.Core.Bool.{Bool, true, false, ◌||◌}
use mathlib.Core.Path.{◌≡◌, refl, sym, ap, ap₂, ◌∙◌}
use native.Mathlib.Omega.{arith}
use native.Mathlib.Numerals.{add-one}
use native.Mathlib.Nat.{add-zero, add-suc}
use borrow.Author.Tests.{leb-true, leb-false, lt-ltb, le-ltb, ltb-true, ltb-false}
use lib.Dec.{leb, ltb}
use Rattle.image.specs.Pixels.{at_some}
use Rattle.image.specs.Told.{largest}

largest_more : (pixel : ℕ → ℕ) (count : ℕ) → largest pixel (suc count) ≡ max (largest pixel count) (pixel count)
unfolding largest
largest_more pixel count = refl

-- one pixel more
pub largest_on : (pixel : ℕ → ℕ) (count : ℕ) {most last new : ℕ} → new ≡ max most last → most ≡ largest pixel count → last ≡ pixel count
    → new ≡ largest pixel (count + 1)
largest_on pixel count is-new is-most is_last =
    rw (add-one count, largest_more pixel count) (is-new ∙ ap₂ max is-most is_last)

-- the largest pixel of some and of those behind them
pub largest_join : (pixel : ℕ → ℕ) (m n : ℕ) → largest pixel (m + n) ≡ max (largest pixel m) (largest (λ k. pixel (m + k)) n)
unfolding largest
largest_join pixel m zero = rw (add-zero m) (omega arith)
largest_join pixel m (suc n) = rw (add-suc m n) (omega (arith, largest_join pixel m n))

neither : (a b : Bool) → (a || b) ≡ false → (a ≡ false) × (b ≡ false)
neither true b e = (e, cc)
neither false b e = (refl, e)

-- the last of some positions, or one before it
earlier_or_last : (P : ℕ → Type 0) (count i : ℕ) → i < suc count → (i < count → P i) → P count → P i
earlier_or_last P count i h earlier last = by (leb count i) refl
  where
    by : (b : Bool) → leb count i ≡ b → P i
    by true e =
        let at : i ≡ count = omega (arith, leb-true count i e) in
        rw at last
    by false e = earlier (leb-false count i e)

-- a test that holds at no position …
pub at_some_false : (test : ℕ → Bool) (count : ℕ) → at_some test count ≡ false → (i : ℕ) → i < count → test i ≡ false
unfolding at_some
at_some_false test zero e i h = absurd (omega arith)
at_some_false test (suc count) e i h =
    let none = neither (at_some test count) (test count) e in
    earlier_or_last (λ i. test i ≡ false) count i h (at_some_false test count none.0 i) none.1

pub at_some_none : (test : ℕ → Bool) (count : ℕ) → ((i : ℕ) → i < count → test i ≡ false) → at_some test count ≡ false
unfolding at_some
at_some_none test zero none = refl
at_some_none test (suc count) none = rw (at_some_none test count (λ i h. none i (omega arith)), none count (omega arith)) refl

-- … and one that holds at some
pub at_some_true : (test : ℕ → Bool) (count : ℕ) → at_some test count ≡ true → (i : ℕ) × (i < count) × (test i ≡ true)
unfolding at_some
at_some_true test zero e = cc
at_some_true test (suc count) e = by (at_some test count) refl e (at_some_true test count)
  where
    by : (b : Bool) → at_some test count ≡ b → (b || test count) ≡ true
        → (at_some test count ≡ true → (i : ℕ) × (i < count) × (test i ≡ true)) → (i : ℕ) × (i < suc count) × (test i ≡ true)
    by true s e earlier = let found = earlier s in (found.0, omega (arith, found.1), found.2)
    by false s e earlier = (count, omega arith, e)

pub at_some_found : (test : ℕ → Bool) (count i : ℕ) → i < count → test i ≡ true → at_some test count ≡ true
at_some_found test count i h t = by (at_some test count) refl
  where
    by : (b : Bool) → at_some test count ≡ b → b ≡ true
    by true s = refl
    by false s = sym (at_some_false test count s i h) ∙ t

-- the larger of two numbers is above a third exactly where one of them is
max_above : (m a b : ℕ) → (ltb m a || ltb m b) ≡ ltb m (max a b)
max_above m a b = by (ltb m a) (ltb m b) refl refl
  where
    by : (p q : Bool) → ltb m a ≡ p → ltb m b ≡ q → (p || q) ≡ ltb m (max a b)
    by true q e f = sym (lt-ltb m (max a b) (omega (arith, ltb-true m a e)))
    by false true e f = sym (lt-ltb m (max a b) (omega (arith, ltb-true m b f)))
    by false false e f = sym (le-ltb m (max a b) (omega (arith, ltb-false m a e, ltb-false m b f)))

-- some pixel is above maxval exactly where the largest is
pub some_above_lem : (maxval : ℕ) (pixel : ℕ → ℕ) (count : ℕ)
    → at_some (λ position. ltb maxval (pixel position)) count ≡ ltb maxval (largest pixel count)
unfolding at_some largest
some_above_lem maxval pixel zero = sym (le-ltb maxval 0 (omega arith))
some_above_lem maxval pixel (suc count) = rw (some_above_lem maxval pixel count) (max_above maxval (largest pixel count) (pixel count))

-- four quarters side by side
pub largest_quarters : (pixel : ℕ → ℕ) (q : ℕ)
    → max (max (largest pixel q) (largest (λ k. pixel (q + k)) q)) (max (largest (λ k. pixel (2 * q + k)) q) (largest (λ k. pixel (3 * q + k)) q))
    ≡ largest pixel (4 * q)
largest_quarters pixel q =
    let shifted : ℕ → ℕ = λ m. largest (λ k. pixel (m + k)) q in
    let two : 2 * q ≡ q + q = omega arith in
    let three : 3 * q ≡ q + q + q = omega arith in
    let four : 4 * q ≡ q + q + q + q = omega arith in
    let third : largest (λ k. pixel (2 * q + k)) q ≡ shifted (q + q) = ap shifted two in
    let fourth : largest (λ k. pixel (3 * q + k)) q ≡ shifted (q + q + q) = ap shifted three in
    let all : largest pixel (4 * q) ≡ largest pixel (q + q + q + q) = ap (largest pixel) four in
    omega (arith, third, fourth, all, largest_join pixel (q + q + q) q, largest_join pixel (q + q) q, largest_join pixel q q)
