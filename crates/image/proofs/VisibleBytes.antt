-- The bytes that are seen and the bytes of the slice: where the ones are parted, the others are too. What a comment is stays open here.
-- Assumes nothing.
use Prim.Native.Nat.{ℕ, suc, ◌+◌, ◌≤◌, ◌<◌}
use mathlib.Core.Bool.{Bool, true, false, cond, ◌||◌}
use mathlib.Core.List.{List, [], ◌∷◌, ◌++◌}
use mathlib.Core.Path.{◌≡◌, refl, sym, ap, ◌∙◌}
use native.Mathlib.Omega.{arith}
use lib.ListN.{length, take, drop}
use lib.Seq.{drop-append_seam}
use Rattle.image.specs.Seen.{Seen, comments, visible, reach}

-- whether one stands inside a comment behind some bytes
unfoldable pub inside_after : (inside : Bool) (used : ℕ) → List ℕ → Bool
inside_after inside used [] = inside
inside_after inside used (byte ∷ later) = inside_after (comments inside used byte) (suc used) later

-- a byte that is seen behind `used` bytes
abbrev shown : (byte used : ℕ) → Seen
shown byte used = record { byte = byte; upto = suc used }

suc_moves : (k n : ℕ) → suc k + n ≡ k + suc n
suc_moves k n = omega arith

-- what is seen of two lists, one behind the other
pub visible_append : (inside : Bool) (used : ℕ) (a b : List ℕ)
    → visible inside used (a ++ b) ≡ visible inside used a ++ visible (inside_after inside used a) (used + length a) b
unfolding visible inside_after
visible_append inside used [] b = ap (λ (k : ℕ). visible inside k b) (nothing used)
  where
    nothing : (k : ℕ) → k ≡ k + 0
    nothing k = omega arith
visible_append inside used (byte ∷ a) b =
    let goes_on = comments inside used byte in
    by (inside || goes_on) (visible goes_on (suc used) (a ++ b)) (visible goes_on (suc used) a)
    (visible (inside_after goes_on (suc used) a) (used + suc (length a)) b)
    (visible_append goes_on (suc used) a b
    ∙ ap (λ (k : ℕ). visible goes_on (suc used) a ++ visible (inside_after goes_on (suc used) a) k b) (suc_moves used (length a)))
  where
    by : (hidden : Bool) (both front back : List Seen) → both ≡ front ++ back
        → cond hidden both (shown byte used ∷ both) ≡ cond hidden front (shown byte used ∷ front) ++ back
    by true both front back e = e
    by false both front back e = ap (λ (l : List Seen). shown byte used ∷ l) e

-- the bytes, of a list that starts after `used` bytes, behind which all that was taken is taken, and just that
record Parted (inside : Bool) (used : ℕ) (raw : List ℕ) (taken rest : List Seen) : Type 0 where
  passed : ℕ
  some : 0 < passed
  there : passed ≤ length raw
  reaches : reach taken ≡ used + passed
  front : visible inside used (take passed raw) ≡ taken
  behind : rest ≡ visible false (used + passed) (drop passed raw)

-- one byte more before such bytes: a hidden one, or one that is seen
module _ (inside : Bool) (used byte : ℕ) (later : List ℕ) where
  one_more : (taken taken' rest : List Seen) (p : Parted (comments inside used byte) (suc used) later taken rest)
      → reach taken' ≡ reach taken → visible inside used (byte ∷ take p.passed later) ≡ taken'
      → Parted inside used (byte ∷ later) taken' rest
  one_more taken taken' rest p as-far front =
      record {
        passed = suc p.passed;
        some = omega arith;
        there = omega arith;
        reaches = as-far ∙ p.reaches ∙ suc_moves used p.passed;
        front = front;
        behind = p.behind ∙ ap (λ (k : ℕ). visible false k (drop p.passed later)) (suc_moves used p.passed);
      }

  hidden_before : (taken rest : List Seen) → (inside || comments inside used byte) ≡ true
      → Parted (comments inside used byte) (suc used) later taken rest → Parted inside used (byte ∷ later) taken rest
  unfolding visible
  hidden_before taken rest h p = one_more taken taken rest p refl (rw h p.front)

  seen_before : (next : Seen) (taken rest : List Seen) → (inside || comments inside used byte) ≡ false
      → Parted (comments inside used byte) (suc used) later (next ∷ taken) rest
      → Parted inside used (byte ∷ later) (shown byte used ∷ next ∷ taken) rest
  unfolding visible
  seen_before next taken rest h p =
      one_more (next ∷ taken) (shown byte used ∷ next ∷ taken) rest p refl (rw h (ap (λ (l : List Seen). shown byte used ∷ l) p.front))

  -- the last one that is taken: no comment goes on behind it
  seen_last : (inside || comments inside used byte) ≡ false
      → Parted inside used (byte ∷ later) (shown byte used ∷ []) (visible (comments inside used byte) (suc used) later)
  unfolding visible
  seen_last h =
      record {
        passed = 1;
        some = omega arith;
        there = omega arith;
        reaches = omega arith;
        front = rw h;
        behind = λ i. visible (no_more inside (comments inside used byte) h i) (next used i) later;
      }
    where
      no_more : (i g : Bool) → (i || g) ≡ false → g ≡ false
      no_more true g e = cc
      no_more false g e = e

      next : (k : ℕ) → suc k ≡ k + 1
      next k = omega arith

parted : (inside : Bool) (used : ℕ) (raw : List ℕ) (first : Seen) (taken rest : List Seen)
    → visible inside used raw ≡ (first ∷ taken) ++ rest → Parted inside used raw (first ∷ taken) rest
unfolding visible
parted inside used [] first taken rest e = cc
parted inside used (byte ∷ later) first taken rest e =
    by (inside || comments inside used byte) refl taken e (parted (comments inside used byte) (suc used) later)
  where
    goes_on : Bool
    goes_on = comments inside used byte

    own : Seen
    own = shown byte used

    by : (hidden : Bool) → (inside || goes_on) ≡ hidden → (taken : List Seen)
        → cond hidden (visible goes_on (suc used) later) (own ∷ visible goes_on (suc used) later) ≡ (first ∷ taken) ++ rest
        → ((x : Seen) (l r : List Seen) → visible goes_on (suc used) later ≡ (x ∷ l) ++ r → Parted goes_on (suc used) later (x ∷ l) r)
        → Parted inside used (byte ∷ later) (first ∷ taken) rest
    by true h taken e again = hidden_before inside used byte later (first ∷ taken) rest h (again first taken rest e)
    by false h [] e again =
        let one : own ≡ first = cc in
        let behind : visible goes_on (suc used) later ≡ rest = cc in
        rw (sym one, sym behind) (seen_last inside used byte later h)
    by false h (next ∷ taken) e again =
        let one : own ≡ first = cc in
        rw (sym one) (seen_before inside used byte later next taken rest h (again next taken rest (cc)))

-- what was taken ends with a byte of the slice that is seen, and lies behind so many bytes as it reaches
pub record Cut (raw : List ℕ) (taken rest : List Seen) : Type 0 where
  pub some : 0 < reach taken
  pub there : reach taken ≤ length raw
  pub front : visible false 0 (take (reach taken) raw) ≡ taken
  pub behind : rest ≡ visible false (reach taken) (drop (reach taken) raw)

cut_of : (raw : List ℕ) (taken rest : List Seen) → Parted false 0 raw taken rest → Cut raw taken rest
cut_of raw taken rest p =
    let at : p.passed ≡ reach taken = omega arith in
    record {
      some = omega arith;
      there = omega arith;
      front = ap (λ (k : ℕ). visible false 0 (take k raw)) (sym at) ∙ p.front;
      behind = p.behind ∙ λ i. visible false (sym p.reaches i) (drop (at i) raw);
    }

pub visible_cut : (raw : List ℕ) (taken rest : List Seen) → 0 < length taken → visible false 0 raw ≡ taken ++ rest → Cut raw taken rest
visible_cut raw [] rest some e = absurd (omega arith)
visible_cut raw (first ∷ taken) rest some e = cut_of raw (first ∷ taken) rest (parted false 0 raw first taken rest e)

-- bytes of which the last one is seen: what comes behind them is seen by itself, but for the bytes used
pub visible_behind : (h rest : List ℕ) → 0 < length h → reach (visible false 0 h) ≡ length h
    → visible false 0 (h ++ rest) ≡ visible false 0 h ++ visible false (length h) rest
visible_behind h rest some ends =
    let later = visible (inside_after false 0 h) (0 + length h) rest in
    let c = visible_cut (h ++ rest) (visible false 0 h) later (reaching (visible false 0 h) (omega arith)) (visible_append false 0 h rest) in
    visible_append false 0 h rest
    ∙ ap (λ (l : List Seen). visible false 0 h ++ l)
    (c.behind ∙ (λ i. visible false (ends i) (drop (ends i) (h ++ rest))) ∙ ap (visible false (length h)) (drop-append_seam h rest))
  where
    reaching : (l : List Seen) → 0 < reach l → 0 < length l
    reaching [] r = absurd (omega arith)
    reaching (seen ∷ l) r = omega arith
