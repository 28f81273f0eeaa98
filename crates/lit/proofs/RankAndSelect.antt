-- Rank and select undo each other, and select is what its name says: the place of the k-th one, the first place whose rank is k.
-- Assumes nothing.
use Prim.Native.Nat.{ℕ, zero, suc, ◌-◌, ◌<◌, ◌≤◌}
use native.Mathlib.Omega.{arith}
use mathlib.Core.List.{List, [], ◌∷◌}
use mathlib.Core.Logic.{◌⊎◌, inl, inr}
use mathlib.Core.Path.{◌≡◌, ap, ◌∙◌}
use lib.ListN.{get_or, take}
use Rattle.std.proofs.lemmas.Bool.{cases_lt}
use Rattle.bits.specs.Ones.{ones_of}
use Rattle.bits.proofs.Promises.{ones_none, ones_dark, ones_lit}
use Rattle.lit.specs.RankSelect.{rank_of, select_of}
use Rattle.lit.proofs.Ranks.{rank_rest, rank_grows}
use Rattle.lit.proofs.Selects.{select_dark, select_lit, select_place, select_ahead}

-- RANK UNDOES SELECT: up to the place of the k-th one there are k ones. (For k = 0 the place is 0.)
pub rank_of_select : (k : ℕ) (row : List ℕ) → k ≤ ones_of row → rank_of (select_of k row) row ≡ k
rank_of_select zero row h = ones_none
rank_of_select (suc j) [] h = absurd (omega (arith, ones_none))
rank_of_select (suc j) (zero ∷ later) h =
    let h' : suc j ≤ ones_of later = omega (arith, ones_dark later) in
    ap (λ (p : ℕ). rank_of p (0 ∷ later)) (select_dark (suc j) later (omega arith) h')
    ∙ ones_dark (take (select_of (suc j) later) later)
    ∙ rank_of_select (suc j) later h'
rank_of_select (suc j) (suc more ∷ later) h =
    let h' : j ≤ ones_of later = omega (arith, ones_lit more later) in
    ap (λ (p : ℕ). rank_of p (suc more ∷ later)) (select_lit j more later h')
    ∙ ones_lit more (take (select_of j later) later)
    ∙ ap suc (rank_of_select j later h')

-- a one counts in the rank behind it
pub rank_counts : (i : ℕ) (row : List ℕ) → 0 < get_or row i 0 → 0 < rank_of (suc i) row
rank_counts i [] lit = absurd (omega arith)
rank_counts zero (zero ∷ later) lit = absurd (omega arith)
rank_counts i (suc more ∷ later) lit = omega (arith, ones_lit more (take i later))
rank_counts (suc i) (zero ∷ later) lit = omega (arith, ones_dark (take (suc i) later), rank_counts i later lit)

-- SELECT UNDOES RANK at the ones: where bit i, counted from 0, is a one, its place i + 1 is found again by the rank up to it
pub select_of_rank : (i : ℕ) (row : List ℕ) → 0 < get_or row i 0 → select_of (rank_of (suc i) row) row ≡ suc i
select_of_rank i [] lit = absurd (omega arith)
select_of_rank zero (zero ∷ later) lit = absurd (omega arith)
select_of_rank zero (suc more ∷ later) lit =
    ap (λ (k : ℕ). select_of k (suc more ∷ later)) (ones_lit more [] ∙ ap suc ones_none) ∙ select_lit 0 more later (omega arith)
select_of_rank (suc i) (zero ∷ later) lit =
    ap (λ (k : ℕ). select_of k (0 ∷ later)) (ones_dark (take (suc i) later))
    ∙ select_dark (rank_of (suc i) later) later (rank_counts i later lit) (omega (arith, rank_rest (suc i) later))
    ∙ ap suc (select_of_rank i later lit)
select_of_rank (suc i) (suc more ∷ later) lit =
    ap (λ (k : ℕ). select_of k (suc more ∷ later)) (ones_lit more (take (suc i) later))
    ∙ select_lit (rank_of (suc i) later) more later (omega (arith, rank_rest (suc i) later))
    ∙ ap suc (select_of_rank i later lit)

-- with one more bit before it a one stands a place further
further : (bit : ℕ) (later : List ℕ) (p : ℕ) → 0 < p → 0 < get_or later (p - 1) 0 → 0 < get_or (bit ∷ later) (suc p - 1) 0
further bit later p pos h = let e : suc p - 1 ≡ suc (p - 1) = omega arith in rw e h

-- SELECT FINDS A ONE: at the place of the k-th one, counted from 1, a one stands
pub select_is_lit : (k : ℕ) (row : List ℕ) → 0 < k → k ≤ ones_of row → 0 < get_or row (select_of k row - 1) 0
select_is_lit k [] pos h = absurd (omega (arith, ones_none))
select_is_lit k (zero ∷ later) pos h =
    let h' : k ≤ ones_of later = omega (arith, ones_dark later) in
    rw (select_dark k later pos h')
    (further 0 later (select_of k later) (select_place k later pos h').0 (select_is_lit k later pos h'))
select_is_lit zero (suc more ∷ later) pos h = elim pos [ ]
select_is_lit (suc zero) (suc more ∷ later) pos h = rw (select_lit 0 more later (omega arith)) (omega arith)
select_is_lit (suc (suc j)) (suc more ∷ later) pos h =
    let h' : suc j ≤ ones_of later = omega (arith, ones_lit more later) in
    rw (select_lit (suc j) more later h')
    (further (suc more) later (select_of (suc j) later) (select_place (suc j) later (omega arith) h').0
    (select_is_lit (suc j) later (omega arith) h'))

-- SELECT IS THE FIRST SUCH PLACE: at every place before that of the k-th one the rank is below k
pub select_least : (k : ℕ) (row : List ℕ) (p : ℕ) → p < select_of k row → rank_of p row < k
select_least k row p before = select_ahead p row k before

-- SELECT GROWS: a later one has a later place
pub select_grows : (row : List ℕ) (j k : ℕ) → j < k → k ≤ ones_of row → select_of j row < select_of k row
select_grows row j k less h = by (cases_lt (select_of j row) (select_of k row))
  where
    by : (select_of j row < select_of k row) ⊎ (select_of k row ≤ select_of j row) → select_of j row < select_of k row
    by (inr back) =
        absurd (omega (arith, rank_grows row back, rank_of_select k row h, rank_of_select j row (omega arith)))
    by (inl on) = on
