-- A row of frames that no fault of its own has (SCOPE, Lit frames), by the bytes that are lent and its length.
use Rattle.std.specs.Prelude.{ℕ, ◌*◌, ◌≤◌}
use Rattle.lit.specs.Limits.{most_frames}

pub record Held (bytes count : ℕ) : Type 0 where
  -- there are not too many frames
  pub few : count ≤ most_frames
  -- and a bit for each of them
  pub there : count ≤ bytes * 8
