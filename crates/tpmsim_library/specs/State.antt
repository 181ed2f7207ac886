-- The record of a device, its whole state, and the effect of an event on it.
use Rattle.std.specs.Prelude.{List, [], take, ℕ, Some}
use Rattle.tpm_record.specs.Record.{Record}
use Rattle.tpm_slots.specs.SlotRecord.{slot_record}
use Rattle.tpm_snapshot.specs.Layer.{layer_of}
use Rattle.tpm_state_text.specs.Body.{WholeState}
use Rattle.tpm_step.specs.step.Step.{Stepped}
use Rattle.tpmsim_library.specs.declared.device.Answered.{Answered}
use Rattle.tpmsim_library.specs.declared.device.Device.{Device}

-- the record of a device, from the contents of its fixed slots
abbrev pub record_of : Device → Record
record_of device = slot_record device.machine.keep

-- the whole state of a device, which always includes its completing layer
abbrev pub whole_state : Device → WholeState
whole_state device = record {
  device = record_of device;
  layer = Some (layer_of device.journal.layer);
}

-- the effect of a command: the response at the start of its buffer, the row, and the record after
-- the command
abbrev pub command_seen : List ℕ → Answered → Device → Stepped
command_seen room answered after = record {
  response = take answered.size room;
  row = record { code = answered.code; check = answered.check };
  after = record_of after;
}

-- the effect of a power cycle, which has no response, and whose row contains no command
abbrev pub cycle_seen : Device → Stepped
cycle_seen after =
    record { response = []; row = record { code = 0; check = 0 }; after = record_of after }
