-- If a state text of a device is restored, the result is that device, with its layer and its
-- history. If the bytes are not a state text, the reported error is the first error in the bytes.
use Rattle.std.proofs.Common.{◌≡◌, ℕ, List, Err, sym, ap, subst, ◌∙◌}
use Rattle.tpm_machine.specs.Follows.{Follows}
use Rattle.tpm_machine.specs.History.{History}
use Rattle.tpm_record.specs.Record.{Record}
use Rattle.tpm_snapshot.proofs.Layers.{layer_again}
use Rattle.tpm_snapshot.proofs.Restoring.{no_fault, read_again}
use Rattle.tpm_state_text.specs.Body.{IsWholeState, WholeState}
use Rattle.tpm_state_text.specs.Filling.{state_of}
use Rattle.tpm_state_text.specs.State.{state_of_text, state_text}
use Rattle.tpm_state_text.specs.declared.fault.RestoreFault.{RestoreFault}
use Rattle.tpm_state_text.specs.declared.fault.RestoreFault.TheVariants as unrestored
use Rattle.tpm_state_text.specs.declared.fault.StateFault.{StateFault}
use Rattle.tpmsim_web.specs.Restoring.{IsOfState, RestoresDevice, journal_restored}
use Rattle.tpmsim_web.specs.State.{record_of, whole_state}
use Rattle.tpmsim_web.specs.Told.{restore_number, state_number}
use Rattle.tpmsim_web.specs.declared.device.Device.{Device}

-- The reported number is the number of the first error in the bytes.
pub fault_told : (device : Device) (text : List ℕ) (fault : RestoreFault) (told : ℕ)
    → told ≡ restore_number fault → RestoresDevice device text (Err fault)
    → (f : StateFault) × (told ≡ state_number f) × (state_of_text text ≡ Err f)
fault_told device text (unrestored.Text f) told is read = (f, is, read)
fault_told device text unrestored.NoMemory told is never = absurd never

-- The state text of a device has no error.
pub never_faulty : (device : Device) (text : List ℕ) (fault : RestoreFault) (state : WholeState)
    → RestoresDevice device text (Err fault) → IsWholeState state → text ≡ state_text state → ⊥
never_faulty device text (unrestored.Text f) state read is same = no_fault state text is same f read
never_faulty device text unrestored.NoMemory state never is same = never

module _ (text : List ℕ) (device : Device) (restored : IsOfState text device) where
  -- the restored state equals the saved state
  read_state : (state : WholeState) → IsWholeState state → text ≡ state_text state
      → state_of (record_of device) restored.0 ≡ state
  read_state state is same = read_again state text is same (state_of (record_of device) restored.0)
      restored.1

  pub same_record : (state : WholeState) → IsWholeState state → text ≡ state_text state
      → record_of device ≡ state.device
  same_record state is same = ap (λ (s : WholeState). s.device) (read_state state is same)

  pub same_layer : (before : Device) → IsWholeState (whole_state before)
      → text ≡ state_text (whole_state before) → device.journal.layer ≡ before.journal.layer
  same_layer before is same =
      ap (λ j. j.layer) restored.2
      ∙ ap (λ (s : WholeState). (journal_restored s.layer).layer)
      (read_state (whole_state before) is same)
      ∙ layer_again before.journal.layer

  pub same_history : (state : WholeState) (history : History) → IsWholeState state
      → Follows state.device history → text ≡ state_text state → Follows (record_of device) history
  same_history state history is follows same =
      subst (λ (r : Record). Follows r history) (sym (same_record state is same)) follows
