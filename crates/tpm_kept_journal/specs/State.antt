-- The state of a kept device, and its encoding: the time of its journal, and the state text of the
-- device and its completing layer.
use Rattle.std.specs.Prelude.{ℕ, ◌<◌, ◌^◌, List, ◌++◌, drop, take, Option, Some, None, Result, Ok, Err}
use Rattle.std.specs.Int.{w64, from_be_bytes, to_be_bytes}
use Rattle.tpm_completion.specs.declared.completion.Completion.{Completion}
use Rattle.tpm_journal.specs.declared.journal.Journal.{Journal}
use Rattle.tpm_keeping.specs.Journal.{Spot}
use Rattle.tpm_record.specs.Record.{Record}
use Rattle.tpm_snapshot.specs.Layer.{completion_of, layer_of}
use Rattle.tpm_state_text.specs.Body.{IsWholeState, WholeState}
use Rattle.tpm_state_text.specs.State.{state_of_text, state_text}
use Rattle.tpm_state_text.specs.declared.fault.StateFault.{StateFault}
use Rattle.tpm_state_text.specs.declared.layer.Layer.{Layer}

-- the state of a kept device: the time of its journal in milliseconds, its completing layer, and
-- the device
pub record DeviceState : Type 0 where
  pub time : ℕ
  pub layer : Completion
  pub device : Record

-- the device and its layer, in the form that a state text encodes
abbrev pub whole_of : DeviceState → WholeState
whole_of s = record { device = s.device; layer = Some (layer_of s.layer) }

-- A state that a device can have: each part has the right size, and each number fits its integer
-- type.
pub record IsDeviceState (s : DeviceState) : Type 0 where
  pub time : s.time < 2 ^ 64
  pub whole : IsWholeState (whole_of s)

-- the encoding of a state: the time in eight bytes, then the state text
unfoldable pub bytes_of : DeviceState → List ℕ
bytes_of s = to_be_bytes w64 s.time ++ state_text (whole_of s)

-- the state with this time, device and layer; None if there is no layer
abbrev pub state_with : (time : ℕ) → Record → Option Layer → Option DeviceState
state_with time device (Some layer) =
    Some (record { time = time; layer = completion_of (Some layer); device = device })
state_with time device None = None

abbrev pub state_by : (time : ℕ) → Result WholeState StateFault → Option DeviceState
state_by time (Ok whole) = state_with time whole.device whole.layer
state_by time (Err why) = None

-- the first part of an encoded state: the time
abbrev pub time_in : List ℕ → ℕ
time_in text = from_be_bytes w64 (take 8 text)

-- the second part of an encoded state: the state text
abbrev pub content_in : List ℕ → List ℕ
content_in text = drop 8 text

unfoldable pub state_of_bytes : List ℕ → Option DeviceState
state_of_bytes text = state_by (time_in text) (state_of_text (content_in text))

-- the state of a device with this journal
abbrev pub state_in : Journal → Record → DeviceState
state_in journal device =
    record { time = journal.time; layer = journal.layer; device = device }

-- the position of a device in its journal: the device's encoded state, and the journal's checksum
abbrev pub spot_of : Journal → Record → Spot
spot_of journal device =
    record { state = bytes_of (state_in journal device); chain = journal.sum }
