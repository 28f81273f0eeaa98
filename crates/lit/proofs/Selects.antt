-- Select: bit by bit, in two rows one behind the other, from a place on, and in the first bits of a row.
-- Assumes nothing.
use Prim.Native.Nat.{ℕ, zero, suc, ◌+◌, ◌-◌, ◌<◌, ◌≤◌}
use native.Mathlib.Nat.{add_comm}
use native.Mathlib.Omega.{arith}
use mathlib.Core.List.{List, [], ◌∷◌, ◌++◌}
use mathlib.Core.Logic.{◌⊎◌, inl, inr}
use mathlib.Core.Path.{◌≡◌, refl, sym, ap, ◌∙◌}
use lib.ListN.{length, get_or, take, drop, length-take, take-append-drop, get_or-append, get_or-eq_default}
use lib.Seq.{get_or-append-add, length-take-le, take_all}
use Rattle.std.proofs.lemmas.Bool.{cases_lt}
use Rattle.bits.specs.Ones.{ones_of}
use Rattle.bits.proofs.Promises.{ones_none, ones_dark, ones_lit}
use Rattle.lit.specs.RankSelect.{rank_of, one_places, select_of}
use Rattle.lit.proofs.Places.{length_places, places_append, places_from}
use Rattle.lit.proofs.Ranks.{rank_join, rank_rest}

-- where there is no k-th one the place is 0
pub select_none : (k : ℕ) (row : List ℕ) → ones_of row < k → select_of k row ≡ 0
select_none zero row h = absurd (omega arith)
select_none (suc j) row h = get_or-eq_default (one_places 1 row) 0 (omega (arith, length_places 1 row))

-- a bit that is 0 puts each one a place further
pub select_dark : (k : ℕ) (later : List ℕ) → 0 < k → k ≤ ones_of later → select_of k (0 ∷ later) ≡ suc (select_of k later)
unfolding one_places
select_dark zero later pos h = absurd (omega arith)
select_dark (suc j) later pos h = omega (arith, places_from 1 1 later j (omega arith))

-- and so does one that is not 0, which is the first one itself
pub select_lit : (k more : ℕ) (later : List ℕ) → k ≤ ones_of later → select_of (suc k) (suc more ∷ later) ≡ suc (select_of k later)
unfolding one_places
select_lit zero more later h = refl
select_lit (suc j) more later h = omega (arith, places_from 1 1 later j (omega arith))

-- a one that is there has a place in the row
pub select_place : (k : ℕ) (row : List ℕ) → 0 < k → k ≤ ones_of row → (0 < select_of k row) × (select_of k row ≤ length row)
select_place k [] pos h = absurd (omega (arith, ones_none))
select_place k (zero ∷ later) pos h =
    let h' : k ≤ ones_of later = omega (arith, ones_dark later) in
    let own = select_place k later pos h' in
    rw (select_dark k later pos h') (omega arith, omega arith)
select_place zero (suc more ∷ later) pos h = elim pos [ ]
select_place (suc zero) (suc more ∷ later) pos h = rw (select_lit 0 more later (omega arith)) (omega arith, omega arith)
select_place (suc (suc j)) (suc more ∷ later) pos h =
    let h' : suc j ≤ ones_of later = omega (arith, ones_lit more later) in
    let own = select_place (suc j) later (omega arith) h' in
    rw (select_lit (suc j) more later h') (omega arith, omega arith)

-- of two rows one behind the other: a one of the first
pub select_first : (k : ℕ) (a b : List ℕ) → k ≤ ones_of a → select_of k (a ++ b) ≡ select_of k a
select_first zero a b h = refl
select_first (suc j) a b h =
    ap (λ (l : List ℕ). get_or l j 0) (places_append 1 a b)
    ∙ get_or-append (one_places 1 a) (one_places (1 + length a) b) 0 j (omega (arith, length_places 1 a))

-- and a one of the second, by the ones that are passed
pub select_behind : (j : ℕ) (a b : List ℕ) → j < ones_of b → select_of (suc (ones_of a + j)) (a ++ b) ≡ length a + select_of (suc j) b
select_behind j a b h =
    ap (λ (l : List ℕ). get_or l (ones_of a + j) 0) (places_append 1 a b)
    ∙ ap (λ (n : ℕ). get_or (one_places 1 a ++ one_places (1 + length a) b) (n + j) 0) (sym (length_places 1 a))
    ∙ get_or-append-add (one_places 1 a) (one_places (1 + length a) b) j 0
    ∙ ap (λ (n : ℕ). get_or (one_places n b) j 0) (add_comm 1 (length a))
    ∙ places_from (length a) 1 b j h

-- the same in one row that is cut at a place m
module _ (m : ℕ) (row : List ℕ) where
  -- a one that is passed at m is a one of the first m bits
  pub select_passed : (k : ℕ) → k ≤ rank_of m row → select_of k row ≡ select_of k (take m row)
  select_passed k h =
      ap (select_of k) (sym (take-append-drop m row)) ∙ select_first k (take m row) (drop m row) h

  -- and its place is not past m
  pub select_le : (k : ℕ) → k ≤ rank_of m row → select_of k row ≤ m
  select_le zero h = omega arith
  select_le (suc j) h =
      omega (arith, select_passed (suc j) h, (select_place (suc j) (take m row) (omega arith) h).1, length-take m row)

  -- so that one whose place is past m is not passed at m
  pub select_ahead : (k : ℕ) → m < select_of k row → rank_of m row < k
  select_ahead k ahead = by (cases_lt (rank_of m row) k)
    where
      by : (rank_of m row < k) ⊎ (k ≤ rank_of m row) → rank_of m row < k
      by (inr passed) = absurd (omega (arith, select_le k passed))
      by (inl not) = not

  -- a one that is not passed at m is one of the rest
  pub select_past : (k : ℕ) → m ≤ length row → rank_of m row < k → k ≤ ones_of row
      → select_of k row ≡ m + select_of (k - rank_of m row) (drop m row)
  select_past k within low high =
      let j : ℕ = k - rank_of m row - 1 in
      let ek : k ≡ suc (rank_of m row + j) = omega arith in
      let ej : suc j ≡ k - rank_of m row = omega arith in
      ap (select_of k) (sym (take-append-drop m row))
      ∙ ap (λ (n : ℕ). select_of n (take m row ++ drop m row)) ek
      ∙ select_behind j (take m row) (drop m row) (omega (arith, rank_rest m row))
      ∙ ap (λ (n : ℕ). n + select_of (suc j) (drop m row)) (length-take-le m row within)
      ∙ ap (λ (n : ℕ). m + select_of n (drop m row)) ej

-- from a place on: what is passed is counted
pub select_within : (m n : ℕ) (row : List ℕ) (k : ℕ) → m ≤ length row → rank_of m row < k → k ≤ rank_of (m + n) row
    → select_of k row ≡ m + select_of (k - rank_of m row) (take n (drop m row))
select_within m n row k within low high =
    select_past m row k within low (omega (arith, rank_rest (m + n) row))
    ∙ ap (λ (p : ℕ). m + p) (select_passed n (drop m row) (k - rank_of m row) (omega (arith, rank_join m n row)))

-- a one within the first n bits has its place in them
pub select_take_in : (k n : ℕ) (row : List ℕ) → select_of k row ≤ n → select_of k (take n row) ≡ select_of k row
select_take_in k n row h = by (cases_lt (rank_of n row) k) (cases_lt (ones_of row) k) (cases_lt n (length row))
  where
    by : (rank_of n row < k) ⊎ (k ≤ rank_of n row) → (ones_of row < k) ⊎ (k ≤ ones_of row) → (n < length row) ⊎ (length row ≤ n)
        → select_of k (take n row) ≡ select_of k row
    by (inr passed) there short = sym (select_passed n row k passed)
    by (inl not) (inl none) short = select_none k (take n row) not ∙ sym (select_none k row none)
    by (inl not) (inr there) (inr short) = ap (select_of k) (take_all n row short)
    by (inl not) (inr there) (inl long) =
        absurd
        (omega (
          arith,
          select_past n row k (omega arith) not there,
          (select_place (k - rank_of n row) (drop n row) (omega arith) (omega (arith, rank_rest n row))).0,
        ))

-- and one behind them has none
pub select_take_out : (k n : ℕ) (row : List ℕ) → n < select_of k row → select_of k (take n row) ≡ 0
select_take_out k n row h = select_none k (take n row) (select_ahead n row k h)
