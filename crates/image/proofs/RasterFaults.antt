-- What the faults of a raster make of a header, for an image of any kind: one equation for each of the four outcomes, all of them together;
-- and what holds where its end gives none.
-- Assumes nothing.
use Prim.Native.Nat.{ℕ, ◌≤◌, ◌<◌}
use mathlib.Core.Bool.{Bool, true, false}
use mathlib.Core.List.{List}
use mathlib.Core.Path.{◌≡◌, refl, sym, ap}
use borrow.Author.Tests.{lt-ltb, le-ltb, ltb-true, ltb-false}
use lib.Dec.{ltb}
use lib.ListN.{length}
use Rattle.refusals.specs.Numbers.{image_too_large, ends_too_early, pixel_too_large}
use Rattle.refusals.specs.First.{first_of}
use Rattle.refusals.proofs.Calls.{written_out, nothing_holds}
use Rattle.image.specs.Seen.{limit}
use Rattle.image.specs.Pixels.{at_some}
use Rattle.image.specs.Kinds.{Kind}
use Rattle.image.specs.Reading.{Reading, refused_reading, used_with, raster_at, size_faults, raster_refusal, with_raster, named}

-- whether a position of the raster is at fault
abbrev pub some_faulty : Kind → List ℕ → List ℕ → ℕ → Bool
some_faulty kind s numbers start = at_some (kind.faulty numbers (raster_at kind s numbers start)) (kind.positions numbers)

-- a reading that is taken
abbrev pub taken_reading : Kind → List ℕ → ℕ → Reading
taken_reading kind numbers start = record { refusal = 0; numbers = numbers; start = start; used = used_with kind numbers start }

module _ (kind : Kind) (s numbers : List ℕ) (start : ℕ) where
  pub raster_over : limit < used_with kind numbers start → with_raster kind s numbers start ≡ refused_reading image_too_large
  unfolding with_raster raster_refusal
  raster_over h = rw (lt-ltb limit (used_with kind numbers start) h)

  pub raster_short : used_with kind numbers start ≤ limit → length s < used_with kind numbers start
      → with_raster kind s numbers start ≡ refused_reading ends_too_early
  unfolding with_raster raster_refusal
  raster_short h k = rw (le-ltb limit (used_with kind numbers start) h, lt-ltb (length s) (used_with kind numbers start) k)

  pub raster_faulty : used_with kind numbers start ≤ limit → used_with kind numbers start ≤ length s
      → some_faulty kind s numbers start ≡ true → with_raster kind s numbers start ≡ refused_reading pixel_too_large
  unfolding with_raster raster_refusal
  raster_faulty h k b = rw (le-ltb limit (used_with kind numbers start) h, le-ltb (length s) (used_with kind numbers start) k, b)

  pub raster_taken : used_with kind numbers start ≤ limit → used_with kind numbers start ≤ length s
      → some_faulty kind s numbers start ≡ false → with_raster kind s numbers start ≡ taken_reading kind numbers start
  unfolding with_raster raster_refusal
  raster_taken h k b = rw (le-ltb limit (used_with kind numbers start) h, le-ltb (length s) (used_with kind numbers start) k, b)

  -- what holds of each outcome holds of the reading
  pub raster_cases : (P : Reading → Type 0)
      → (limit < used_with kind numbers start → P (refused_reading image_too_large))
      → (used_with kind numbers start ≤ limit → length s < used_with kind numbers start → P (refused_reading ends_too_early))
      → (used_with kind numbers start ≤ limit → used_with kind numbers start ≤ length s → some_faulty kind s numbers start ≡ true
      → P (refused_reading pixel_too_large))
      → (used_with kind numbers start ≤ limit → used_with kind numbers start ≤ length s → some_faulty kind s numbers start ≡ false
      → P (taken_reading kind numbers start))
      → P (with_raster kind s numbers start)
  raster_cases P over short faulty taken = by₁ (ltb limit used) refl
    where
      used : ℕ
      used = used_with kind numbers start

      by₃ : used ≤ limit → used ≤ length s → (b : Bool) → some_faulty kind s numbers start ≡ b → P (with_raster kind s numbers start)
      by₃ h k true e = rw (raster_faulty h k e) (faulty h k e)
      by₃ h k false e = rw (raster_taken h k e) (taken h k e)

      by₂ : used ≤ limit → (b : Bool) → ltb (length s) used ≡ b → P (with_raster kind s numbers start)
      by₂ h true e = let k = ltb-true (length s) used e in rw (raster_short h k) (short h k)
      by₂ h false e = by₃ h (ltb-false (length s) used e) (some_faulty kind s numbers start) refl

      by₁ : (b : Bool) → ltb limit used ≡ b → P (with_raster kind s numbers start)
      by₁ true e = let h = ltb-true limit used e in rw (raster_over h) (over h)
      by₁ false e = by₂ (ltb-false limit used e) (ltb (length s) used) refl

  -- where its end gives no refusal the raster is there
  pub raster_there : first_of (size_faults kind s numbers start) ≡ 0 → (used_with kind numbers start ≤ limit) × (used_with kind numbers start ≤ length s)
  raster_there e =
      let faults = size_faults kind s numbers start in
      let none = nothing_holds faults (written_out faults tt) e in
      (ltb-false limit _ none.0, ltb-false (length s) _ none.1.0)

-- what is decided, by name
pub answers : {answer decided : Reading} → decided ≡ answer → named answer ≡ named decided
answers e = ap named (sym e)
