-- How many frames a row can have (SCOPE, Lit frames).
use Rattle.std.specs.Prelude.{ℕ}

-- the most frames
abbrev pub most_frames : ℕ
most_frames = 65536
