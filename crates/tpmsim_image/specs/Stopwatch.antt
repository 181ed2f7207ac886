-- The elapsed time of each command of a served device.
use Rattle.std.specs.Prelude.{ℕ, ◌-◌, ◌/◌, Option, Some, min, max, unwrap_or}

-- the state of a stopwatch: the arrival time of the first command, in nanoseconds of the host's
-- clock; and how many of the milliseconds since then have been reported as elapsed time, or dropped
pub record StopwatchState : Type 0 where
  pub first : Option ℕ
  pub passed : ℕ

-- the whole milliseconds since the first command, at a time of the host's clock
abbrev pub since_first : (now : ℕ) → StopwatchState → ℕ
since_first now s = (now - unwrap_or s.first now) / 1_000_000

-- the elapsed time of a command that arrives at this time: all milliseconds since the first command
-- that have not yet been reported or dropped, at most 2^32 - 1
abbrev pub reported_time : (now : ℕ) → StopwatchState → ℕ
reported_time now s = min (since_first now s - s.passed) 0xffff_ffff

-- the stopwatch after a command that arrives at this time: all milliseconds until then were
-- reported or dropped
abbrev pub after_command : (now : ℕ) → StopwatchState → StopwatchState
after_command now s =
    record { first = Some (unwrap_or s.first now); passed = max s.passed (since_first now s) }
