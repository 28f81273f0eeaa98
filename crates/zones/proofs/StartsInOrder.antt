-- Where the stretches start: each right behind the one before it, and all of them within what all zones take.
-- Assumes nothing.
use Prim.Native.Nat.{ℕ, zero, suc, ◌+◌, ◌≤◌, ◌<◌}
use native.Mathlib.Nat.{le_of_suc-le-suc}
use native.Mathlib.Omega.{arith}
use mathlib.Core.List.{List, [], ◌∷◌}
use mathlib.Core.Logic.{⊎_elim}
use mathlib.Core.Path.{◌≡◌, refl, ap}
use lib.ListN.{length, set}
use Rattle.book.specs.declared.Book.{Book}
use Rattle.book.specs.Record.{bytes_of}
use Rattle.book.proofs.Promises.{le_or_lt}
use Rattle.zones.specs.Stretches.{zone_at, stretch_start, all_bytes}

-- the first stretch starts at 0
pub start_first : (zones : List Book) → stretch_start zones 0 ≡ 0
unfolding stretch_start
start_first zones = refl

-- the next stretch starts where this one ends
pub start_next : (zones : List Book) (k : ℕ) → k < length zones → stretch_start zones (suc k) ≡ stretch_start zones k + bytes_of (zone_at zones k)
unfolding stretch_start
start_next [] k there = absurd (omega arith)
start_next (book ∷ zones) zero there = omega arith
start_next (book ∷ zones) (suc k) there = omega (arith, start_next zones k (le_of_suc-le-suc there))

-- past the last zone all stretches are over
pub start_past : (zones : List Book) (k : ℕ) → length zones ≤ k → stretch_start zones k ≡ all_bytes zones
unfolding stretch_start
start_past [] zero past = refl
start_past [] (suc k) past = refl
start_past (book ∷ zones) zero past = absurd (omega arith)
start_past (book ∷ zones) (suc k) past = ap (λ (n : ℕ). bytes_of book + n) (start_past zones k (le_of_suc-le-suc past))

-- a later zone starts no earlier
pub start_later : (zones : List Book) (k j : ℕ) → k ≤ j → stretch_start zones k ≤ stretch_start zones j
unfolding stretch_start
start_later zones zero j later = omega arith
start_later zones (suc k) zero later = absurd (omega arith)
start_later [] (suc k) (suc j) later = omega arith
start_later (book ∷ zones) (suc k) (suc j) later = omega (arith, start_later zones k j (le_of_suc-le-suc later))

module _ (zones : List Book) (k : ℕ) where
  -- every start lies within what all take
  pub start_within : stretch_start zones k ≤ all_bytes zones
  start_within =
      ⊎_elim (λ before. start_later zones k (length zones) before) (λ past. omega (arith, start_past zones k (omega arith)))
      (le_or_lt k (length zones))

  module _ (there : k < length zones) where
    -- a stretch ends before every later one starts
    pub end_before_lem : (j : ℕ) → k < j → stretch_start zones k + bytes_of (zone_at zones k) ≤ stretch_start zones j
    end_before_lem j later = omega (arith, start_next zones k there, start_later zones (suc k) j later)

    -- and within what all take
    pub end_within : stretch_start zones k + bytes_of (zone_at zones k) ≤ all_bytes zones
    end_within = end_before_lem (length zones) there

-- a record with another one in its place that takes as many bytes leaves every start
pub start_with : (zones : List Book) (zone : ℕ) (book : Book) → bytes_of book ≡ bytes_of (zone_at zones zone) → (k : ℕ)
    → stretch_start (set zones zone book) k ≡ stretch_start zones k
unfolding stretch_start
start_with [] zone book same k = refl
start_with (first ∷ zones) zone book same zero = refl
start_with (first ∷ zones) zero book same (suc k) = ap (λ (n : ℕ). n + stretch_start zones k) same
start_with (first ∷ zones) (suc zone) book same (suc k) = ap (λ (n : ℕ). bytes_of first + n) (start_with zones zone book same k)
