-- Faults are taken in the order of the bytes: some number of bytes decides the answer. Fewer of them leave the reader waiting for more
-- (14), and with them, or with any number more, the answer is that of the whole slice.
-- Assumes nothing.
use Prim.Native.Nat.{ℕ, zero, suc, ◌≤◌, ◌<◌}
use mathlib.Core.Bool.{Bool, true, false}
use mathlib.Core.List.{List, ◌++◌}
use mathlib.Core.Path.{◌≡◌, refl, sym, ap, ◌∙◌}
use mathlib.Core.Logic.{◌⊎◌, inl, inr}
use native.Mathlib.Omega.{arith}
use borrow.Author.Tests.{leb-true, leb-false, eqb-true, eqb-false}
use lib.Dec.{leb, eqb}
use lib.ListN.{length, take, drop, take-append-drop}
use lib.Seq.{take-take, take-length}
use Rattle.refusals.specs.Numbers.{ends_too_early}
use Rattle.image.specs.Kinds.{Kind}
use Rattle.image.specs.Reading.{reading_of}
use Rattle.image.specs.Promised.{DecidedAfter}
use Rattle.image.proofs.PrefixLaw.{prefix_law_of}

module _ (kind : Kind) (s : List ℕ) where
  -- the first so many bytes leave the reader waiting
  Waits : ℕ → Type 0
  Waits n = (reading_of kind (take n s)).refusal ≡ ends_too_early

  -- of the first k prefixes all wait, or there is a first one that does not
  record Stops (k : ℕ) : Type 0 where
    at : ℕ
    below : at < k
    goes : Waits at → ⊥
    waits : (n : ℕ) → n < at → Waits n

  search_stop : (k : ℕ) → ((n : ℕ) → n < k → Waits n) ⊎ Stops k
  unfolding Waits
  search_stop zero = inl (λ n lt. absurd (omega arith))
  search_stop (suc k) = by (search_stop k) (eqb (reading_of kind (take k s)).refusal ends_too_early) refl
    where
      by : ((n : ℕ) → n < k → Waits n) ⊎ Stops k → (b : Bool) → eqb (reading_of kind (take k s)).refusal ends_too_early ≡ b
          → ((n : ℕ) → n < suc k → Waits n) ⊎ Stops (suc k)
      by (inr st) b e = inr record { at = st.at; below = omega (arith, st.below); goes = st.goes; waits = st.waits }
      by (inl all) false e =
          inr record { at = k; below = omega arith; goes = eqb-false (reading_of kind (take k s)).refusal ends_too_early e; waits = all }
      by (inl all) true e = inl (λ n lt. last n lt (leb k n) refl)
        where
          last : (n : ℕ) → n < suc k → (b : Bool) → leb k n ≡ b → Waits n
          last n lt true h =
              let same : n ≡ k = omega (arith, leb-true k n h) in
              ap (λ (m : ℕ). (reading_of kind (take m s)).refusal) same ∙ eqb-true (reading_of kind (take k s)).refusal ends_too_early e
          last n lt false h = all n (leb-false k n h)

  -- from the bytes that decide on, nothing changes
  same_from : (m n : ℕ) → (Waits m → ⊥) → m ≤ n → reading_of kind (take n s) ≡ reading_of kind (take m s)
  unfolding Waits
  same_from m n goes h =
      ap (reading_of kind) (sym (take-append-drop m (take n s)) ∙ ap (λ (l : List ℕ). l ++ drop m (take n s)) (take-take m n s h))
      ∙ prefix_law_of kind (take m s) (drop m (take n s)) goes

  pub decided : ((reading_of kind s).refusal ≡ ends_too_early → ⊥) → DecidedAfter kind s
  unfolding Waits
  decided goes = by (search_stop (suc (length s)))
    where
      by : ((n : ℕ) → n < suc (length s) → Waits n) ⊎ Stops (suc (length s)) → DecidedAfter kind s
      by (inl all) =
          absurd (goes (ap (λ (l : List ℕ). (reading_of kind l).refusal) (sym (take-length s)) ∙ all (length s) (omega arith)))
      by (inr st) =
          let whole : reading_of kind s ≡ reading_of kind (take st.at s) =
          ap (reading_of kind) (sym (take-length s)) ∙ same_from st.at (length s) st.goes (omega (arith, st.below)) in
          record {
            bytes = st.at;
            there = omega (arith, st.below);
            waits = st.waits;
            decides = λ n h. same_from st.at n st.goes h ∙ sym whole;
          }
