-- The answers of the page in numbers, as the rows of its calls give them (specs/Calls.antt): with a refusal it is neither picture, and zeros.
use Rattle.std.specs.Prelude.{ℕ}

pub data Picture : Type 0 where
  Neither : Picture
  Newest : Picture
  Older : Picture

-- a refusal, 0 for none; which picture is shown; where its raster lies in its own slice; and its age in ticks
pub record Choice : Type 0 where
  pub refusal : ℕ
  pub picture : Picture
  pub offset : ℕ
  pub length : ℕ
  pub age : ℕ

-- the same before its age is known: its raster by the two places between which it lies
pub record Picked : Type 0 where
  pub refusal : ℕ
  pub picture : Picture
  pub start : ℕ
  pub end : ℕ
