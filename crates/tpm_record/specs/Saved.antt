-- The state that the last TPM2_Shutdown saved for the next TPM2_Startup. TPM 2.0 Library, Part 1,
-- section 12.2.3, and Part 3, sections 9.3 and 9.4.
use Rattle.std.specs.Prelude.{Option, Some, None}
use Rattle.tpm_pcr.specs.Saved.{IsSaved, SavedValues, restored_in, saved_of}
use Rattle.tpm_pcr.specs.Values.{BankValues}
use Rattle.tpm_types_common.specs.declared.startup_type.StartupType.{StartupType}
use Rattle.tpm_types_common.specs.declared.startup_type.StartupType.TheVariants as type
use Rattle.tpm_record.specs.declared.saved.SavedKind.{SavedKind}
use Rattle.tpm_record.specs.declared.saved.SavedKind.TheVariants as kind

-- the state that TPM2_Shutdown saved
pub data SavedState : Type 0 where
  -- there was no TPM2_Shutdown, or the state that it saved was discarded
  Nothing : SavedState
  -- a shutdown with CLEAR, which saves only the fact that it happened
  Clear : SavedState
  -- a shutdown with STATE, which saves the values of PCRs
  State : SavedValues → SavedState

-- the state that a TPM2_Shutdown of this type saves
abbrev pub saved_by : StartupType → BankValues → SavedState
saved_by type.Clear banks = Clear
saved_by type.State banks = State (saved_of banks)

-- the saved state that a kind and stored values represent; the values are ignored unless the kind
-- is STATE
abbrev pub state_kept : SavedKind → SavedValues → SavedState
state_kept kind.Nothing values = Nothing
state_kept kind.Clear values = Clear
state_kept kind.State values = State values

-- the kind of the saved state
abbrev pub kind_of : SavedState → SavedKind
kind_of Nothing = kind.Nothing
kind_of Clear = kind.Clear
kind_of (State values) = kind.State

-- the saved values, if there are any
abbrev pub values_of : SavedState → Option SavedValues
values_of Nothing = None
values_of Clear = None
values_of (State values) = Some values

-- the banks after the saved PCR values, if there are any, were restored
abbrev pub restored_from : SavedState → BankValues → BankValues
restored_from Nothing banks = banks
restored_from Clear banks = banks
restored_from (State values) banks = restored_in values banks

-- The invariant of every saved state: saved PCR values satisfy `IsSaved`, that is, each bank has
-- sixteen values of the right size.
abbrev pub IsSavedState : SavedState → Type 0
IsSavedState Nothing = Unit {0}
IsSavedState Clear = Unit {0}
IsSavedState (State values) = IsSaved values
