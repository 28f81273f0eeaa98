-- Every reading, of an image of any kind: refused with nothing but its refusal, or taken with a raster of the size that its numbers say;
-- and the part that it names lies in the slice.
-- Assumes nothing.
use Prim.Native.Nat.{ℕ, ◌-◌, ◌≤◌}
use mathlib.Core.List.{List}
use mathlib.Core.Logic.{inl, inr, ⊎_elim}
use mathlib.Core.Path.{◌≡◌, refl}
use native.Mathlib.Omega.{arith}
use lib.ListN.{length, take, drop, length-drop}
use lib.Seq.{length-take-le}
use Rattle.image.specs.Kinds.{Kind, pgm}
use Rattle.image.specs.Reading.{refused_reading, reading_of, numbers_of}
use Rattle.image.specs.Promised.{Sized, Lies}
use Rattle.image.proofs.RasterFaults.{raster_cases}
use Rattle.image.proofs.ReadingCases.{reading_cases}

pub reading_sized : (kind : Kind) (s : List ℕ) → Sized kind (reading_of kind s)
reading_sized kind s =
    reading_cases kind s (Sized kind) (λ refusal e. inl refl) λ numbers start rest e.
    raster_cases kind s numbers start (Sized kind) (λ _. inl refl) (λ _ _. inl refl) (λ _ _ _. inl refl) (λ _ _ _. inr (refl, refl))

-- promise 1.3: a refused reading has nothing but its refusal
pub refused_reading_lem : (kind : Kind) (s : List ℕ) → ((reading_of kind s).refusal ≡ 0 → ⊥)
    → reading_of kind s ≡ refused_reading (reading_of kind s).refusal
refused_reading_lem kind s ne = ⊎_elim (λ zeros. zeros) (λ taken. absurd (ne taken.0)) (reading_sized kind s)

refused_lies : (s : List ℕ) → Lies s 0 0
refused_lies s = record { order = omega arith; there = omega arith; within = omega arith }

pub reading_lies_in : (kind : Kind) (s : List ℕ) → Lies s (reading_of kind s).start (reading_of kind s).used
reading_lies_in kind s =
    reading_cases kind s (λ r. Lies s r.start r.used) (λ refusal e. refused_lies s) λ numbers start rest e.
    raster_cases kind s numbers start (λ r. Lies s r.start r.used) (λ _. refused_lies s) (λ _ _. refused_lies s) (λ _ _ _. refused_lies s)
    (λ h k _. record { order = omega arith; there = k; within = h })

-- so that part has as many bytes
pub lies_length : (s : List ℕ) {start used : ℕ} → Lies s start used → length (take (used - start) (drop start s)) ≡ used - start
lies_length s {start} {used} lies =
    let fits : used - start ≤ length (drop start s) = rw (length-drop start s) (omega (arith, lies.order, lies.there)) in
    length-take-le (used - start) (drop start s) fits

-- of a PGM
pub reading_lies : (s : List ℕ) → Lies s (numbers_of s).start (numbers_of s).used
unfolding numbers_of
reading_lies s = reading_lies_in pgm s
