-- Defines the check that a state text must pass before the device in it replaces another device.
use Rattle.std.specs.Prelude.{◌≡◌, List, ℕ, Result, Ok, Err}
use Rattle.tpm_state_text.specs.Body.{WholeState}
use Rattle.tpm_state_text.specs.State.{state_of_text}
use Rattle.tpmsim.specs.declared.fault.Fault.{Fault}
use Rattle.tpmsim.specs.declared.fault.Fault.TheVariants.{State}

-- If the check succeeds, the bytes are the state text of a device. Otherwise the result is their
-- first fault, or a fault that the system caused.
abbrev pub IsChecked : List ℕ → Result (Unit {0}) Fault → Type 0
IsChecked text (Ok done) = (state : WholeState) × (state_of_text text ≡ Ok state)
IsChecked text (Err (State fault)) = state_of_text text ≡ Err fault
IsChecked text (Err _) = Unit {0}
