-- A reading goes by its header: it is refused where the header stops, and elsewhere the raster behind the header decides.
-- Assumes nothing.
use Prim.Native.Nat.{ℕ}
use mathlib.Core.List.{List}
use mathlib.Core.Path.{◌≡◌, refl}
use Rattle.image.specs.Seen.{Seen}
use Rattle.image.specs.Step.{Step, stopped, found}
use Rattle.image.specs.Kinds.{Kind}
use Rattle.image.specs.Reading.{Reading, refused_reading, with_raster, header_of, reading_of}

module _ (kind : Kind) (s : List ℕ) where
  pub reading_stopped : {refusal : ℕ} → header_of kind s ≡ stopped refusal → reading_of kind s ≡ refused_reading refusal
  unfolding reading_of
  reading_stopped e = rw e

  pub reading_found : {numbers : List ℕ} {start : ℕ} {rest : List Seen} → header_of kind s ≡ found numbers start rest
      → reading_of kind s ≡ with_raster kind s numbers start
  unfolding reading_of
  reading_found e = rw e

  -- what holds in either case holds of the reading
  pub reading_cases : (P : Reading → Type 0) → ((refusal : ℕ) → header_of kind s ≡ stopped refusal → P (refused_reading refusal))
      → ((numbers : List ℕ) (start : ℕ) (rest : List Seen) → header_of kind s ≡ found numbers start rest → P (with_raster kind s numbers start))
      → P (reading_of kind s)
  reading_cases P stop go = by (header_of kind s) refl
    where
      by : (step : Step (List ℕ)) → header_of kind s ≡ step → P (reading_of kind s)
      by (stopped refusal) e = rw (reading_stopped e) (stop refusal e)
      by (found numbers start rest) e = rw (reading_found e) (go numbers start rest e)
