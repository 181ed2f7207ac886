-- Converts values of Rust types to plain values, without references to memory.
use Rattle.std.specs.Prelude.{◌≡◌, ℕ, List, Option, Some, None}
use Rattle.tpm_completion.specs.Execution.{Seen, seen_of}
use Rattle.tpm_keeping.specs.Journal.{Spot}
use Rattle.tpm_slots.specs.SlotRecord.{slot_record}
use Rattle.tpm_types_common.specs.Locality.{locality_number}
use Rattle.tpm_kept_journal.specs.Command.{After, At, Begins, Cycles, Executes, KeptCommand, Moment}
use Rattle.tpm_kept_journal.specs.Effect.{report_and_response}
use Rattle.tpm_kept_journal.specs.Seed.{Seed}
use Rattle.tpm_kept_journal.specs.State.{DeviceState, spot_of, state_in}
use Rattle.tpm_kept_device.specs.declared.command.Command.{Command}
use Rattle.tpm_kept_device.specs.declared.command.Command.TheVariants as command
use Rattle.tpm_kept_device.specs.declared.command.Moment as declared_moment
use Rattle.tpm_kept_device.specs.declared.command.Moment.TheVariants as moment
use Rattle.tpm_kept_device.specs.declared.seed.Seed as declared
use Rattle.tpm_kept_device.specs.declared.parts.Parts.{Parts}

abbrev pub plain_moment : declared_moment.Moment → Moment
plain_moment (moment.At now) = At now
plain_moment (moment.After elapsed) = After elapsed

-- a `Command` as a plain value
abbrev pub plain_command : Command → KeptCommand
plain_command (command.Execute moment locality completes random buffer) =
    Executes (plain_moment moment) (locality_number locality) completes random.now buffer.now
plain_command (command.Cycle now start) = Cycles now start
plain_command (command.Begin seed) = Begins seed.now

-- a `Seed` as a plain value
abbrev pub plain_seed : declared.Seed → Seed
plain_seed seed = record {
  kind = seed.kind;
  now = seed.now_ms;
  start = seed.start;
  content = seed.content.now;
}

-- the state of a device
abbrev pub state_of : Parts → DeviceState
state_of parts = state_in parts.journal (slot_record parts.machine.keep)

-- the position of a device, which contains the device's state and its journal's checksum
abbrev pub spot_in : Parts → Spot
spot_in parts = spot_of parts.journal (slot_record parts.machine.keep)

-- the effect of a device's latest command
abbrev pub seen_in : Parts → Seen
seen_in parts = seen_of slot_record parts.machine parts.journal.layer parts.outcome

-- the report on a device's latest command, followed by the device's response
abbrev pub answer_in : Parts → List ℕ
answer_in parts = report_and_response (seen_in parts)

-- A device was created in this state, or there is neither a state nor a device.
abbrev pub BeginsAs : {B : Type 0} → (B → Parts) → Option DeviceState → Option B → Type 0
BeginsAs parts_in state (Some b) = state ≡ Some (state_of (parts_in b))
BeginsAs parts_in state None = state ≡ None
