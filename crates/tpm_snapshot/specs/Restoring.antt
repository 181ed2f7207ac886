-- The result of restoring a machine from the state text of a device, and the machine afterwards.
use Rattle.std.specs.Prelude.{◌≡◌, Bool, true, Option, Result, Ok, Err}
use Rattle.tpm_record.specs.Record.{Record}
use Rattle.tpm_state_text.specs.Body.{WholeState}
use Rattle.tpm_state_text.specs.Filling.{state_of}
use Rattle.tpm_state_text.specs.declared.fault.RestoreFault.{RestoreFault}
use Rattle.tpm_state_text.specs.declared.fault.RestoreFault.TheVariants as unrestored
use Rattle.tpm_state_text.specs.declared.layer.Layer.{Layer}

-- The machine and the returned layer have exactly this state, or an allocation failed.
abbrev pub HasState : Bool → WholeState → Record → Result (Option Layer) RestoreFault → Type 0
HasState can state device (Ok layer) = state_of device layer ≡ state
HasState can state device (Err (unrestored.Text fault)) = ⊥
HasState can state device (Err unrestored.NoMemory) = can ≡ true
