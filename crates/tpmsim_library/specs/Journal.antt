-- How a device uses its journal.
use Rattle.std.specs.Prelude.{◌≡◌, ◌==◌, ◌≤◌, ◌<◌, ℕ, Bool, false, if◌then◌else◌, List, length, take, Option, Some, None, Result, Ok, Err}
use Rattle.tpm_journal.specs.Execution.{Seen}
use Rattle.tpm_machine.specs.Follows.{After, Follows}
use Rattle.tpm_image_text.specs.Image.{device_image}
use Rattle.tpm_journal.specs.Checkpoint.{checkpointed_journal, state_beside}
use Rattle.tpm_journal.specs.Command.{Command, Executed, command_at, elapsed_of, entry_of}
use Rattle.tpm_journal.specs.Opening.{IsJournal, OpensJournal}
use Rattle.tpm_journal.specs.Starting.{start_by}
use Rattle.tpm_journal.specs.State.{journal_after, journal_begun}
use Rattle.tpm_completion.specs.declared.completion.Completion.{Completion}
use Rattle.tpm_journal.specs.declared.journal.Journal.{Journal}
use Rattle.tpm_journal.specs.declared.opening.OpenFault.{OpenFault}
use Rattle.tpm_journal_text.specs.Entry.{entry_text}
use Rattle.tpm_journal_text.specs.Head.{head_text}
use Rattle.tpm_journal_text.specs.declared.head.HeadKind.TheVariants.{State}
use Rattle.tpm_record.specs.Cycle.{after_cycle}
use Rattle.tpm_record.specs.Record.{Record}
use Rattle.tpm_step.specs.step.Events.{Cycled}
use Rattle.tpm_step.specs.step.Execution.{Executes}
use Rattle.tpm_state_text.specs.State.{state_text}
use Rattle.tpmsim_library.specs.State.{command_seen, cycle_seen, record_of}
use Rattle.tpmsim_library.specs.declared.device.Answered.{Answered}
use Rattle.tpmsim_library.specs.declared.device.Device.{Device}

-- the image of a device when power comes on
abbrev pub image_at_power : Device → List ℕ
image_at_power device = device_image (after_cycle (record_of device))

-- The device was power-cycled, and its new journal starts at the time `now`.
pub record BeginsJournal (before : Device) (now : ℕ) (after : Device) : Type 0 where
  pub executes : Executes false (record_of before) Cycled (cycle_seen after)
  pub history : After Follows (record_of before) Cycled (cycle_seen after)
  pub journal : after.journal ≡ journal_begun now (image_at_power before)

-- A device has the same record and journal as before.
abbrev pub IsAsBefore : (before after : Device) → Type 0
IsAsBefore before after = (record_of after ≡ record_of before) × (after.journal ≡ before.journal)

-- The device starts its journal if the head (`size` bytes) fits in the buffer (`room` bytes);
-- otherwise the device is unchanged.
abbrev pub BeginsIfRoom : (before : Device) → (now room size : ℕ) → (after : Device) → Type 0
BeginsIfRoom before now room size after =
    (size ≤ room → BeginsJournal before now after) × (room < size → IsAsBefore before after)

-- the clock that a checkpoint at the time `now` stores. It is the journal's clock, so that no time
-- is lost. If no journal has been started yet (the checksum is then 0), it is `now`
abbrev pub checkpoint_clock : Device → (now : ℕ) → ℕ
checkpoint_clock device now = if device.journal.sum == 0 then now else device.journal.time

-- the head of a device's checkpoint
abbrev pub checkpoint_head : Device → (now : ℕ) → List ℕ
checkpoint_head device now =
    head_text State (checkpoint_clock device now)
    (state_text (state_beside device.journal (record_of device)))

-- The device's journal restarts with a checkpoint. Opening a journal that begins with this
-- checkpoint yields the same journal and the same device. The device and its completing layer are
-- unchanged.
pub record Checkpoints (before : Device) (now : ℕ) (after : Device) : Type 0 where
  pub device : record_of after ≡ record_of before
  pub journal : after.journal
      ≡ checkpointed_journal before.journal (checkpoint_clock before now) (record_of before)
  pub starts : start_by State (checkpoint_clock before now)
      (state_text (state_beside before.journal (record_of before)))
      ≡ Ok (record { journal = after.journal; device = record_of after })

-- If the head fits in the buffer, the device's journal restarts with a checkpoint; otherwise the
-- device and its journal are unchanged.
abbrev pub CheckpointsIfFits : (before : Device) → (now space size : ℕ) → (after : Device) → Type 0
CheckpointsIfFits before now space size after =
    (size ≤ space → Checkpoints before now after) × (space < size → IsAsBefore before after)

-- the command that a device executes when this buffer arrives at this time, with or without the
-- completing layer
abbrev pub command_by : Device → (buffer : List ℕ) → (locality now : ℕ) → (completes : Bool)
    → (random : List ℕ) → Command
command_by device buffer locality now completes random =
    command_at buffer locality (elapsed_of now device.journal.time) completes random

-- the effect of a command whose response is at the start of a buffer
abbrev pub seen_in : (room : List ℕ) → Answered → (after : Device) → Seen
seen_in room answered after = record {
  step = command_seen room answered after;
  layer = after.journal.layer;
  drawn = answered.drawn;
}

-- a journal with its layer replaced; its checksum and time are unchanged
abbrev pub journal_with : Journal → Completion → Journal
journal_with journal layer = record journal { layer = layer }

-- A device executed a command, with or without its completing layer. The response is at the start
-- of one buffer. The entry, of `size` bytes, is at the start of another buffer. `executes` states
-- what the device executed, and its history after that.
pub record Records (before : Device) (c : Command) (response : List ℕ) (answered : Answered)
    (size : ℕ) (entry : List ℕ) (after : Device) : Type 0
  where
    pub executes : Executed false before.journal.layer (record_of before) c
        (seen_in response answered after)
    pub written : take size entry ≡ entry_text before.journal.sum
        (entry_of c (seen_in response answered after))
    pub fits : size ≤ length entry
    pub journal : after.journal ≡ journal_after before.journal
        (entry_of c (seen_in response answered after)) after.journal.layer

-- These bytes can be opened as a journal, which results in this device. The journal's head and
-- entries are `taken` bytes long.
abbrev pub IsOfJournal : List ℕ → (taken : ℕ) → Device → Type 0
IsOfJournal text taken device =
    IsJournal text (record { journal = device.journal; taken = taken }) (record_of device)

-- The bytes cannot be opened as a journal, because of this error.
abbrev pub HasFault : List ℕ → OpenFault → Type 0
HasFault text fault = (new : Record) × OpensJournal text (Err fault) new

-- Either a device was opened from a journal whose head and entries are `taken` bytes long; or the
-- journal has this error, or an allocation failed, and then `taken` has its old value.
abbrev pub OpensDevice : {B : Type 0} → (B → Device) → List ℕ → (old : ℕ)
    → Option (Result B OpenFault) → (taken : ℕ) → Type 0
OpensDevice device_in text old (Some (Ok opened)) taken = IsOfJournal text taken (device_in opened)
OpensDevice device_in text old (Some (Err fault)) taken = HasFault text fault × (taken ≡ old)
OpensDevice device_in text old None taken = taken ≡ old
