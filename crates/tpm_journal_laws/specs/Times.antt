-- How the time of a journal follows the host's clock, in milliseconds since 1970.
use Rattle.std.specs.Prelude.{◌≡◌, ℕ, ◌+◌, ◌-◌, ◌^◌, ◌<◌, ◌≤◌, Bool, List, [], ◌∷◌}
use Rattle.std.specs.List.{AllByRecursion}
use Rattle.tpm_completion.specs.Execution.{Seen}
use Rattle.tpm_journal.specs.Command.{command_at, elapsed_of, entry_of}
use Rattle.tpm_journal.specs.State.{journal_after, journal_begun, time_after}
use Rattle.tpm_journal.specs.declared.journal.Journal.{Journal}

-- The time of a new journal is the clock in its head.
abbrev pub BeginsAtClock : Type 0
BeginsAtClock = (clock : ℕ) (image : List ℕ) → (journal_begun clock image).time ≡ clock

-- After a command, the time of a journal equals the host's clock at the arrival of that command,
-- provided that the clock has not gone back and that less than 2^32 milliseconds have passed.
abbrev pub GoesWithClock : Type 0
GoesWithClock = (j : Journal) (now : ℕ) (buffer : List ℕ) (locality : ℕ) (completes : Bool)
    (random : List ℕ) (seen : Seen) → j.time ≤ now → now - j.time < 2 ^ 32 → now < 2 ^ 64
    → let c = command_at buffer locality (elapsed_of now j.time) completes random in
    (journal_after j (entry_of c seen) seen.layer).time ≡ now

-- the total number of milliseconds that elapse for the device while commands arrive at these times
-- of the host's clock, one after another; `time` is the journal's time before them
abbrev pub told_together : (time : ℕ) → (clocks : List ℕ) → ℕ
told_together time [] = 0
told_together time (now ∷ clocks) =
    elapsed_of now time + told_together (time_after time (elapsed_of now time)) clocks

-- No millisecond counts twice. If no command arrives after `latest`, no more milliseconds elapse
-- for the device than lie between the journal's time and `latest`, even if the clock goes back.
abbrev pub TellsNoTimeTwice : Type 0
TellsNoTimeTwice = (time latest : ℕ) (clocks : List ℕ) → time ≤ latest → latest < 2 ^ 64
    → AllByRecursion (λ now. now ≤ latest) clocks → time + told_together time clocks ≤ latest
