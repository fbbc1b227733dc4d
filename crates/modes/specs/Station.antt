-- The numbers that a station record holds.
use Rattle.std.specs.Prelude.{ℕ, ◌≤◌}

-- a station number of 30 bits, an hour of the day, a minute, and a duration in minutes
abbrev pub Allowed : ℕ → ℕ → ℕ → ℕ → Type 0
Allowed station hour minute duration = (station ≤ 1073741823) × (hour ≤ 23) × (minute ≤ 59) × (duration ≤ 59)
