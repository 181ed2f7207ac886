-- If a state text of a device is restored, the result is that device, with its layer and its
-- history. If the bytes are not a state text, the reported error is the first error in the bytes.
use Rattle.std.proofs.Common.{◌≡◌, ◌≢◌, ℕ, List, Err, sym, ap, subst, ◌∙◌}
use Rattle.tpm_machine.specs.Follows.{Follows}
use Rattle.tpm_machine.specs.History.{History}
use Rattle.tpm_record.specs.Record.{Record}
use Rattle.tpm_snapshot.proofs.Layers.{layer_again}
use Rattle.tpm_snapshot.proofs.Restoring.{no_fault, read_again}
use Rattle.tpm_state_text.specs.Body.{IsWholeState, WholeState}
use Rattle.tpm_state_text.specs.Filling.{state_of}
use Rattle.tpm_state_text.specs.State.{state_of_text, state_text}
use Rattle.tpm_state_text.specs.declared.fault.RestoreFault.{RestoreFault}
use Rattle.tpm_state_text.specs.declared.fault.RestoreFault.TheVariants as unrestored
use Rattle.tpm_state_text.specs.declared.fault.StateFault.{StateFault}
use Rattle.tpmsim_library.specs.Restoring.{IsOfState, RestoresDevice, journal_restored}
use Rattle.tpmsim_library.specs.State.{record_of, whole_state}
use Rattle.tpmsim_library.specs.Told.{no_memory, restore_number, state_number}
use Rattle.tpmsim_library.specs.declared.device.Device.{Device}

-- Unless memory runs out, the returned number is the number of the first error in the bytes.
pub fault_told : {B : Type 0} (device_in : B → Device) (text : List ℕ) (fault : RestoreFault)
    (told : ℕ) → told ≡ restore_number fault → RestoresDevice device_in text (Err fault)
    → told ≢ no_memory → (f : StateFault) × (told ≡ state_number f) × (state_of_text text ≡ Err f)
fault_told device_in text (unrestored.Text f) told is read other = (f, is, read)
fault_told device_in text unrestored.NoMemory told is read other = absurd (other is)

-- If restoring from the state text of a device fails, the reason is a failed allocation.
pub only_memory : {B : Type 0} (device_in : B → Device) (text : List ℕ) (fault : RestoreFault)
    (told : ℕ) (state : WholeState) → told ≡ restore_number fault
    → RestoresDevice device_in text (Err fault) → IsWholeState state → text ≡ state_text state
    → told ≡ no_memory
only_memory device_in text (unrestored.Text f) told state number read is same =
    absurd (no_fault state text is same f read)
only_memory device_in text unrestored.NoMemory told state number read is same = number

module _ (text : List ℕ) (device : Device) (restored : IsOfState text device) where
  -- the restored state equals the saved state
  read_state : (state : WholeState) → IsWholeState state → text ≡ state_text state
      → state_of (record_of device) restored.0 ≡ state
  read_state state is same = read_again state text is same (state_of (record_of device) restored.0)
      restored.1

  pub same_record : (state : WholeState) → IsWholeState state → text ≡ state_text state
      → record_of device ≡ state.device
  same_record state is same = ap (λ (s : WholeState). s.device) (read_state state is same)

  pub same_layer : (before : Device) → IsWholeState (whole_state before)
      → text ≡ state_text (whole_state before) → device.journal.layer ≡ before.journal.layer
  same_layer before is same =
      ap (λ j. j.layer) restored.2
      ∙ ap (λ (s : WholeState). (journal_restored s.layer).layer)
      (read_state (whole_state before) is same)
      ∙ layer_again before.journal.layer

  pub same_history : (state : WholeState) (history : History) → IsWholeState state
      → Follows state.device history → text ≡ state_text state → Follows (record_of device) history
  same_history state history is follows same =
      subst (λ (r : Record). Follows r history) (sym (same_record state is same)) follows
