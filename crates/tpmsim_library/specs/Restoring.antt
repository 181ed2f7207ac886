-- What restoring a device from a state text returns, and the device that results.
use Rattle.std.specs.Prelude.{◌≡◌, ℕ, List, Option, Result, Ok, Err}
use Rattle.tpm_journal.specs.declared.journal.Journal.{Journal}
use Rattle.tpm_snapshot.specs.Layer.{completion_of}
use Rattle.tpm_state_text.specs.Filling.{state_of}
use Rattle.tpm_state_text.specs.State.{state_of_text}
use Rattle.tpm_state_text.specs.declared.fault.RestoreFault.{RestoreFault}
use Rattle.tpm_state_text.specs.declared.fault.RestoreFault.TheVariants as unrestored
use Rattle.tpm_state_text.specs.declared.layer.Layer.{Layer}
use Rattle.tpmsim_library.specs.State.{record_of}
use Rattle.tpmsim_library.specs.declared.device.Device.{Device}

-- the journal of a restored device. The journal is not started yet, and its completing layer comes
-- from the state text
abbrev pub journal_restored : Option Layer → Journal
journal_restored layer = record { sum = 0; time = 0; layer = completion_of layer }

-- The bytes are a state text with the state of this device. The device's journal is not started
-- yet.
abbrev pub IsOfState : List ℕ → Device → Type 0
IsOfState text device =
    (layer : Option Layer) × (state_of_text text ≡ Ok (state_of (record_of device) layer))
    × (device.journal ≡ journal_restored layer)

-- A device was restored from the state text, or the returned error is the first error in the bytes,
-- or an allocation failed.
abbrev pub RestoresDevice : {B : Type 0} → (B → Device) → List ℕ → Result B RestoreFault → Type 0
RestoresDevice device_in text (Ok restored) = IsOfState text (device_in restored)
RestoresDevice device_in text (Err (unrestored.Text fault)) = state_of_text text ≡ Err fault
RestoresDevice device_in text (Err unrestored.NoMemory) = Unit {0}
