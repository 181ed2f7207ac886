-- The result of a call that reads a device from a state text, and the device after the call.
use Rattle.std.specs.Prelude.{◌≡◌, ℕ, Bool, true, List, Option, Some, None, Result, Ok, Err, slice_set}
use Rattle.tpm_image_text.specs.Fields.{malformed_fault}
use Rattle.tpm_image_text.specs.declared.fault.FillFault.{FillFault}
use Rattle.tpm_image_text.specs.declared.fault.FillFault.TheVariants as unfilled
use Rattle.tpm_image_text.specs.declared.fault.Malformed.{Malformed}
use Rattle.tpm_record.specs.Record.{Record}
use Rattle.tpm_state_text.specs.Body.{WholeState}
use Rattle.tpm_state_text.specs.State.{state_of_text}
use Rattle.tpm_state_text.specs.declared.fault.RestoreFault.{RestoreFault}
use Rattle.tpm_state_text.specs.declared.fault.RestoreFault.TheVariants as unrestored
use Rattle.tpm_state_text.specs.declared.fault.StateFault.{StateFault}
use Rattle.tpm_state_text.specs.declared.layer.Layer.{Layer}

-- the state of this device with this layer
abbrev pub state_of : Record → Option Layer → WholeState
state_of device layer = record { device = device; layer = layer }

-- the slots after an optional value is stored in one of them; the slots are unchanged if there is
-- no value
abbrev pub with_value : {X : Type 0} → List (Option X) → ℕ → Option X → List (Option X)
with_value places place None = places
with_value places place (Some x) = slice_set places place (Some x)

-- On success, the slot contains the value that the bytes encode, or stays free if they encode no
-- value. On error, either the bytes are malformed, or an allocation failed (NoMemory), which can
-- happen no matter what the bytes are.
abbrev pub FillsPlace : {X : Type 0}
    → Bool → Result (Option X × List ℕ) Malformed → (old : List (Option X)) → (place : ℕ)
    → Result (Unit {0}) FillFault → (new : List (Option X)) → List ℕ → Type 0
FillsPlace {X} can read old place (Ok done) new rest =
    (value : Option X) × (read ≡ Ok (value, rest)) × (new ≡ with_value old place value)
FillsPlace can read old place (Err unfilled.Malformed) new rest = read ≡ Err malformed_fault
FillsPlace can read old place (Err unfilled.NoMemory) new rest = can ≡ true

-- On success, the device has the state that the body encodes, and its layer is returned. On error,
-- either the body is malformed, or an allocation failed (NoMemory), which can happen no matter what
-- the body is.
abbrev pub FillsState : Bool → Result WholeState Malformed → Record
    → Result (Option Layer) FillFault → Type 0
FillsState can read device (Ok layer) = read ≡ Ok (state_of device layer)
FillsState can read device (Err unfilled.Malformed) = read ≡ Err malformed_fault
FillsState can read device (Err unfilled.NoMemory) = can ≡ true

-- On success, the new device has the state `read`, and its layer is returned. On error, the result
-- is the first fault found in the bytes, or NoMemory if an allocation failed.
abbrev pub RestoresNew : Bool → (read : Result WholeState StateFault) → Record
    → Result (Option Layer) RestoreFault → Type 0
RestoresNew can read device (Ok layer) = read ≡ Ok (state_of device layer)
RestoresNew can read device (Err (unrestored.Text fault)) = read ≡ Err fault
RestoresNew can read device (Err unrestored.NoMemory) = can ≡ true

-- On success, the result is the device that the bytes encode, with its layer. On error, the result
-- is the first fault found in the bytes, or NoMemory if an allocation failed.
abbrev pub Restores : {K : Type 0} → (K → Record) → Bool → List ℕ
    → Result (K × Option Layer) RestoreFault → Type 0
Restores record_of can text (Ok made) = state_of_text text ≡ Ok (state_of (record_of made.0) made.1)
Restores record_of can text (Err (unrestored.Text fault)) = state_of_text text ≡ Err fault
Restores record_of can text (Err unrestored.NoMemory) = can ≡ true

-- Restoring a device from the state text of a state returned exactly that state, or an allocation
-- failed.
abbrev pub RestoresAgain : {K : Type 0} → (K → Record) → Bool → WholeState
    → Result (K × Option Layer) RestoreFault → Type 0
RestoresAgain record_of can state (Ok made) = state_of (record_of made.0) made.1 ≡ state
RestoresAgain record_of can state (Err (unrestored.Text fault)) = ⊥
RestoresAgain record_of can state (Err unrestored.NoMemory) = can ≡ true

-- On success, the device has the state that the bytes encode, and its layer is returned. On error,
-- the device is unchanged, and the result is the first fault found in the bytes, or NoMemory if an
-- allocation failed.
abbrev pub RestoresInto : Bool → List ℕ → (old : Record) → Result (Option Layer) RestoreFault
    → (new : Record) → Type 0
RestoresInto can text old (Ok layer) new = state_of_text text ≡ Ok (state_of new layer)
RestoresInto can text old (Err (unrestored.Text fault)) new =
    (state_of_text text ≡ Err fault) × (new ≡ old)
RestoresInto can text old (Err unrestored.NoMemory) new = (can ≡ true) × (new ≡ old)
