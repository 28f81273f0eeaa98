-- The first window that reaches v, by what it is: the one that reaches it while none before does.
-- Assumes nothing.
use Rattle.std.proofs.Common.{◌≡◌, ℕ, zero, suc, ◌+◌, ◌<◌, ◌≤◌, ◌⊎◌, refl, inl, inr, arith, le-leb}
use borrow.Author.Tests.{lt-leb}
use Rattle.book.specs.HowFar.{first_reaching}
use Rattle.book.proofs.RoundedUp.{le_or_lt}

module _ (figure_of : ℕ → ℕ) (v : ℕ) where
  -- it is i where i reaches v and nothing before it does
  pub first_is : (count from i : ℕ) → from ≤ i → i < from + count → v ≤ figure_of i
      → ((k : ℕ) → from ≤ k → k < i → figure_of k < v) → first_reaching figure_of v count from ≡ i
  unfolding first_reaching
  first_is zero from i low high reach none = absurd (omega arith)
  first_is (suc count) from i low high reach none = by (le_or_lt i from) (λ later. first_is count (suc from) i later (omega arith) reach (λ k l h. none k (omega arith) h))
    where
      by : (i ≤ from) ⊎ (from < i) → (from < i → first_reaching figure_of v count (suc from) ≡ i)
          → first_reaching figure_of v (suc count) from ≡ i
      by (inl here) next =
          let same : from ≡ i = omega arith in
          rw (same, le-leb v (figure_of i) reach)
      by (inr later) next = rw (lt-leb v (figure_of from) (none from (omega arith) later)) (next later)

  -- and 0 where nothing reaches it
  pub first_none : (count from : ℕ) → ((k : ℕ) → from ≤ k → k < from + count → figure_of k < v) → first_reaching figure_of v count from ≡ 0
  unfolding first_reaching
  first_none zero from none = refl
  first_none (suc count) from none =
      rw (lt-leb v (figure_of from) (none from (omega arith) (omega arith)))
      (first_none count (suc from) (λ k l h. none k (omega arith) (omega arith)))

  -- what the first window is, and that there is none where it is 0
  pub record First (count from i : ℕ) : Type 0 where
    pub low : from ≤ i
    pub high : i < from + count
    pub reaches : v ≤ figure_of i
    pub shortest : (k : ℕ) → from ≤ k → k < i → figure_of k < v

  pub first_found : (count from i : ℕ) → 0 < i → 0 < from → first_reaching figure_of v count from ≡ i → First count from i
  unfolding first_reaching
  first_found zero from i pos start e = absurd (omega arith)
  first_found (suc count) from i pos start e =
      by (le_or_lt v (figure_of from)) (λ q. first_found count (suc from) i pos (omega arith) q)
    where
      by : (v ≤ figure_of from) ⊎ (figure_of from < v) → (first_reaching figure_of v count (suc from) ≡ i → First count (suc from) i)
          → First (suc count) from i
      by (inl here) next =
          let same : from ≡ i = rw (le-leb v (figure_of from) here) at e in
          record { low = omega arith; high = omega arith; reaches = rw same at here; shortest = λ k l h. absurd (omega arith) }
      by (inr not_yet) next =
          let r = next (rw (lt-leb v (figure_of from) not_yet) at e) in
          record {
            low = omega (arith, r.low);
            high = omega (arith, r.high);
            reaches = r.reaches;
            shortest = λ k l h. later k l h (le_or_lt k from);
          }
        where
          later : (k : ℕ) → from ≤ k → k < i → (k ≤ from) ⊎ (from < k) → figure_of k < v
          later k l h (inl same) = let e' : k ≡ from = omega arith in rw e' not_yet
          later k l h (inr more) = (next (rw (lt-leb v (figure_of from) not_yet) at e)).shortest k more h

  pub first_never : (count from : ℕ) → 0 < from → first_reaching figure_of v count from ≡ 0
      → (k : ℕ) → from ≤ k → k < from + count → figure_of k < v
  unfolding first_reaching
  first_never zero from start e k l h = absurd (omega arith)
  first_never (suc count) from start e k l h =
      by (le_or_lt v (figure_of from)) (le_or_lt k from) (λ q more. first_never count (suc from) (omega arith) q k more (omega arith))
    where
      by : (v ≤ figure_of from) ⊎ (figure_of from < v) → (k ≤ from) ⊎ (from < k)
          → (first_reaching figure_of v count (suc from) ≡ 0 → from < k → figure_of k < v) → figure_of k < v
      by (inl here) where-k next = absurd (omega (arith, rw (le-leb v (figure_of from) here) at e))
      by (inr not_yet) (inl same) next = let e' : k ≡ from = omega arith in rw e' not_yet
      by (inr not_yet) (inr more) next = next (rw (lt-leb v (figure_of from) not_yet) at e) more
