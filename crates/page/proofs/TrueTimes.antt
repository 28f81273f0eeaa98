-- The age by two ticks, over true times.
-- Assumes nothing.
use Rattle.std.proofs.Common.{◌≡◌, ℕ, ◌+◌, ◌-◌, ◌%◌, ◌<◌, ◌≤◌, arith}
use Rattle.page.specs.Ages.{full_turn, age_of, tick_at}

-- it is the time that has passed, as long as that is less than a full turn of the counter …
pub age_true : (own time : ℕ) → own ≤ time → time < own + full_turn → age_of (tick_at time) (tick_at own) ≡ time - own
age_true own time before within = omega arith

-- … and from a full turn on it is short of that by whole turns
pub age_by_turns : (own time : ℕ) → own ≤ time → age_of (tick_at time) (tick_at own) ≡ (time - own) % full_turn
age_by_turns own time before = omega arith
