-- TPM2_GetCapability. TPM 2.0 Library, Part 3, section 30.2.
use Rattle.tpm_types_common.specs.declared.action_check.ActionCheck.TheVariants as action
use Rattle.std.specs.Prelude.{◌≡◌, ℕ, ◌==◌, ◌||◌, ◌/◌, ◌%◌, ◌^◌, Bool, List, [], ◌∷◌, ◌++◌, if◌then◌else◌, Result, Ok, Err}
use Rattle.std.specs.Int.{w32, to_be_bytes}
use Rattle.tpm_bytes.specs.Reading.{◌>>=◌, number_at, or_fault}
use Rattle.tpm_mac.specs.declared.algorithm.HashAlg.TheVariants as alg
use Rattle.tpm_types_common.specs.PcrSelection.{selection_text}
use Rattle.tpm_types_common.specs.Rc.{plain}
use Rattle.tpm_types_common.specs.declared.pcr_selection.BankSelection.{BankSelection}
use Rattle.tpm_types_common.specs.declared.rc.ResponseCode.TheVariants as code
use Rattle.tpm_types_common.specs.declared.refused.Refused.{Refused}
use Rattle.tpm_commands.specs.declared.profile.Profile.{Profile}
use Rattle.tpm_commands.specs.declared.profile.Profile.TheVariants.{Complete, Symmetric}
use Rattle.tpm_record.specs.Record.{Record}
use Rattle.tpm_record.specs.rows.Answer.{Plain, answer_of}
use Rattle.tpm_record.specs.rows.Refusals.{parameter_refusal}
use Rattle.tpm_record.specs.rows.Request.{Request}
use Rattle.tpm_record.specs.rows.Rows.{Success, all_read, parameter, unchanged_success}
use Rattle.tpm_actions_capability.specs.Algorithms.{algorithm_elements}
use Rattle.tpm_actions_capability.specs.Element.{listing}
use Rattle.tpm_actions_capability.specs.Elements.{command_elements, index_elements, object_elements, pcr_elements, permanent_elements, persistent_elements, session_elements}
use Rattle.tpm_actions_capability.specs.PcrProperties.{pcr_property_elements}
use Rattle.tpm_actions_capability.specs.Properties.{property_elements}
use Rattle.tpm_actions_capability.specs.declared.element.Element.{Element}
use Rattle.tpm_actions_capability.specs.declared.element.Telling.TheVariants as tell
use Rattle.tpm_actions_capability.specs.declared.get_capability.CapabilityParameters.{CapabilityParameters}
use Rattle.tpm_actions_capability.specs.declared.get_capability.Capability.{Capability}
use Rattle.tpm_actions_capability.specs.declared.get_capability.Capability.TheVariants as capability

-- the parameters of TPM2_GetCapability: capability, property, propertyCount
unfoldable pub capability_parameters : List ℕ → Result CapabilityParameters Refused
capability_parameters text = do
  capability ← parameter 1 (or_fault (number_at w32 text) (plain code.Insufficient))
  property ← parameter 2 (or_fault (number_at w32 capability.1) (plain code.Insufficient))
  count ← parameter 3 (or_fault (number_at w32 property.1) (plain code.Insufficient))
  ended ← all_read count.1
  Ok (record { capability = capability.0; property = property.0; count = count.0 })

-- whether a device of the complete profile answers this capability with an empty list: it requires
-- no physical presence (3), audits no command (4), and has no elliptic curve (8)
abbrev pub is_empty : (capability : ℕ) → Bool
is_empty capability = (capability == 3) || ((capability == 4) || (capability == 8))

-- the capability with this number, if only the complete profile has it. Refused by check A1 if it
-- is not supported
abbrev pub further_capability_of : Profile → ℕ → Result Capability Refused
further_capability_of Symmetric number =
    Err (parameter_refusal action.First 1 code.Value)
further_capability_of Complete number =
    if number == 0 then Ok capability.Algorithms
    else (if number == 7 then Ok capability.PcrProperties
    else (if is_empty number then Ok capability.Nothing
    else Err (parameter_refusal action.First 1 code.Value)))

-- the capability with this number. Refused by check A1 if a device of this profile does not support
-- it
abbrev pub capability_of : Profile → ℕ → Result Capability Refused
capability_of profile number =
    if number == 1 then Ok capability.Handles
    else (if number == 2 then Ok capability.Commands
    else (if number == 5 then Ok capability.Pcrs
    else (if number == 6 then Ok capability.Properties
    else further_capability_of profile number)))

-- the handles with this most significant byte; the list of saved sessions (03) is always empty.
-- Refused by check A2 if no handle type has this byte
abbrev pub handle_elements : Record → (kind : ℕ) → Result (List Element) Refused
handle_elements r kind =
    if kind == 0x00 then Ok pcr_elements
    else (if kind == 0x01 then Ok (index_elements r)
    else (if kind == 0x02 then Ok (session_elements r)
    else (if kind == 0x03 then Ok []
    else (if kind == 0x40 then Ok permanent_elements
    else (if kind == 0x80 then Ok (object_elements r)
    else (if kind == 0x81 then Ok (persistent_elements r)
    else Err (parameter_refusal action.Second 2 code.Handle)))))))

-- the number at which the list of handles starts: for sessions a slot number, otherwise a handle
abbrev pub first_handle_of : ℕ → ℕ
first_handle_of property = if property / 2 ^ 24 == 0x02 then property % 2 ^ 24 else property

-- all PCRs of the device, in both banks; TPM2_GetCapability returns them for every requested
-- property
abbrev pub all_banks : List BankSelection
all_banks =
    record { hash = alg.Sha1; select = 0xff_ffff }
    ∷ record { hash = alg.Sha256; select = 0xff_ffff }
    ∷ []

abbrev pub pcrs_text : List ℕ
pcrs_text = 0 ∷ to_be_bytes w32 5 ++ selection_text all_banks

-- the answer of TPM2_GetCapability: moreData, and the capability with its elements
abbrev pub told_of : Record → CapabilityParameters → Capability → Result (List ℕ) Refused
told_of r p capability.Handles = do
  elements ← handle_elements r (p.property / 2 ^ 24)
  Ok (listing tell.Value 1 (first_handle_of p.property) p.count elements)
told_of r p capability.Commands =
    Ok (listing tell.Value 2 p.property p.count (command_elements r.fixed.profile))
told_of r p capability.Pcrs = Ok pcrs_text
told_of r p capability.Properties =
    Ok (listing tell.NumberAndValue 6 p.property p.count (property_elements r.fixed.profile r))
told_of r p capability.Algorithms =
    Ok (listing tell.Algorithm 0 p.property p.count algorithm_elements)
told_of r p capability.PcrProperties =
    Ok (listing tell.Selection 7 p.property p.count pcr_property_elements)
told_of r p capability.Nothing = Ok (listing tell.Value p.capability p.property p.count [])

unfoldable pub get_capability_row : Record → Request → Result Success Refused
get_capability_row r q = do
  p ← capability_parameters q.parameters
  capability ← capability_of r.fixed.profile p.capability
  text ← told_of r p capability
  Ok (unchanged_success r (answer_of (Plain text)))

-- The code wrote the bytes or elements that the definition returns, or it returned the same refusal
-- as the definition.
abbrev pub Tells : {X : Type 0} → Result X Refused → Result (Unit {0}) Refused → X → Type 0
Tells (Ok wanted) (Ok done) new = new ≡ wanted
Tells (Ok wanted) (Err e) new = ⊥
Tells (Err refused) (Ok done) new = ⊥
Tells (Err refused) (Err e) new = e ≡ refused
