-- Says which buffers a journal records whole, and what it records of longer buffers.
use Rattle.std.specs.Prelude.{◌≡◌, ℕ, ◌<◌, ◌≤◌, Bool, List, length}
use Rattle.tpm_record.specs.Record.{Record}
use Rattle.tpm_step.specs.step.Events.{Given}
use Rattle.tpm_step.specs.step.Step.{step_where}
use Rattle.tpm_journal.specs.Command.{command_at, command_event}

-- A buffer of up to 4,096 bytes is recorded whole.
abbrev pub IsRecordedWhole : Type 0
IsRecordedWhole = (buffer : List ℕ) (locality elapsed : ℕ) (completes : Bool) (random : List ℕ)
    → length buffer ≤ 4096 → (command_at buffer locality elapsed completes random).buffer ≡ buffer

-- For a buffer of more than 4,096 bytes, executing the part that the journal records takes the same
-- step as executing the whole buffer, whether or not an allocation fails.
abbrev pub LongerAreRefusedAlike : Type 0
LongerAreRefusedAlike = (refused : Bool) (r : Record) (buffer : List ℕ) (locality elapsed : ℕ)
    (completes : Bool) (random : List ℕ) → 4096 < length buffer
    → step_where refused r (command_event (command_at buffer locality elapsed completes random))
    ≡ step_where refused r (Given buffer locality elapsed random)
