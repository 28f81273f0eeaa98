-- How old a picture is, by the ticks of a counter that goes on with 0 after its largest value (SCOPE, Page: its age).
use Rattle.std.specs.Prelude.{ℕ, ◌+◌, ◌-◌, ◌%◌}
use Rattle.page.specs.declared.Ticks.{Ticks}

-- a full turn of the counter: 2^32 ticks
abbrev pub full_turn : ℕ
full_turn = 4294967296

-- the tick now less the picture's own, and a turn more where that would be below 0: the turn is added in any case, and the remainder taken
abbrev pub age_of : (present own : ℕ) → ℕ
age_of present own = (present + full_turn - own) % full_turn

-- TRUE TIMES are counted on without end, and the tick is the remainder
abbrev pub tick_at : ℕ → ℕ
tick_at time = time % full_turn

-- the ticks at the times at which two pictures were taken, and now
abbrev pub ticks_at : (newest older present : ℕ) → Ticks
ticks_at newest older present = record { newest = tick_at newest; older = tick_at older; present = tick_at present }
