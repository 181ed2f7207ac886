-- The sum of the elapsed times of commands, as a stopwatch measures them.
use Rattle.std.specs.Prelude.{ℕ, ◌+◌, ◌-◌, ◌/◌, ◌≤◌, List, [], ◌∷◌, None}
use Rattle.std.specs.List.{AllByRecursion}
use Rattle.tpmsim_image.specs.Stopwatch.{StopwatchState, after_command, reported_time}

-- the sum of the elapsed milliseconds of commands that arrive at these times, one after another
abbrev pub told_together : StopwatchState → (times : List ℕ) → ℕ
told_together s [] = 0
told_together s (now ∷ times) = reported_time now s + told_together (after_command now s) times

-- a stopwatch before the first command
abbrev pub new_stopwatch : StopwatchState
new_stopwatch = record { first = None; passed = 0 }

-- The sum of all elapsed times is at most the time from the first command to the latest, even if
-- the clock was set back.
abbrev pub TellsNoTimeTwice : Type 0
TellsNoTimeTwice = (first latest : ℕ) (times : List ℕ) → AllByRecursion (λ now. now ≤ latest) times
    → told_together new_stopwatch (first ∷ times) ≤ (latest - first) / 1_000_000
