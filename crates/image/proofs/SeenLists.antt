-- The bytes of seen lists, and how far they reach, over lists that are put together.
-- Assumes nothing.
use Prim.Native.Nat.{ℕ}
use mathlib.Core.List.{List, [], ◌∷◌, ◌++◌}
use mathlib.Core.Path.{◌≡◌, refl, ap}
use Rattle.image.specs.Seen.{Seen, bytes_of, reach}

pub bytes_append : (a b : List Seen) → bytes_of (a ++ b) ≡ bytes_of a ++ bytes_of b
bytes_append [] b = refl
bytes_append (seen ∷ a) b = ap (λ (l : List ℕ). seen.byte ∷ l) (bytes_append a b)

-- bytes as they are seen anywhere
abbrev pub seen_as : List ℕ → List Seen
seen_as [] = []
seen_as (byte ∷ later) = record { byte = byte; upto = 0 } ∷ seen_as later

pub bytes_seen_lem : (bytes : List ℕ) → bytes_of (seen_as bytes) ≡ bytes
bytes_seen_lem [] = refl
bytes_seen_lem (byte ∷ later) = ap (λ (l : List ℕ). byte ∷ l) (bytes_seen_lem later)

-- a list whose bytes are put together is put together
pub record Parted (l : List Seen) (a b : List ℕ) : Type 0 where
  pub first : List Seen
  pub second : List Seen
  pub split : l ≡ first ++ second
  pub first_is : bytes_of first ≡ a
  pub second_is : bytes_of second ≡ b

pub parted : (l : List Seen) (a b : List ℕ) → bytes_of l ≡ a ++ b → Parted l a b
parted l [] b e = record { first = []; second = l; split = refl; first_is = refl; second_is = e }
parted [] (byte ∷ a) b e = cc
parted (seen ∷ l) (byte ∷ a) b e =
    let same : seen.byte ≡ byte = cc in
    let p = parted l a b (cc) in
    record {
      first = seen ∷ p.first;
      second = p.second;
      split = ap (λ (m : List Seen). seen ∷ m) p.split;
      first_is = λ i. same i ∷ p.first_is i;
      second_is = p.second_is;
    }

-- how far a list reaches behind `used` bytes
abbrev pub reach_from : ℕ → List Seen → ℕ
reach_from used [] = used
reach_from used (seen ∷ rest) = reach_from seen.upto rest

pub reach_is : (l : List Seen) → reach_from 0 l ≡ reach l
reach_is [] = refl
reach_is (seen ∷ []) = refl
reach_is (seen ∷ next ∷ rest) = reach_is (next ∷ rest)

pub reach_append : (used : ℕ) (a b : List Seen) → reach_from used (a ++ b) ≡ reach_from (reach_from used a) b
reach_append used [] b = refl
reach_append used (seen ∷ a) b = reach_append seen.upto a b
