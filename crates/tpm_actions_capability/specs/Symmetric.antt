-- TPM2_GetCapability on a device of the symmetric profile. TPM 2.0 Library, Part 3, section 30.2.
use Rattle.tpm_types_common.specs.declared.action_check.ActionCheck.TheVariants as action
use Rattle.std.specs.Prelude.{◌≡◌, ℕ, ◌==◌, ◌/◌, ◌^◌, List, if◌then◌else◌, Result, Ok, Err}
use Rattle.tpm_bytes.specs.Reading.{◌>>=◌}
use Rattle.tpm_types_common.specs.declared.rc.ResponseCode.TheVariants as code
use Rattle.tpm_types_common.specs.declared.refused.Refused.{Refused}
use Rattle.tpm_commands.specs.declared.profile.Profile.TheVariants.{Symmetric}
use Rattle.tpm_record.specs.Record.{Record}
use Rattle.tpm_record.specs.rows.Answer.{Plain, answer_of}
use Rattle.tpm_record.specs.rows.Refusals.{parameter_refusal}
use Rattle.tpm_record.specs.rows.Request.{Request}
use Rattle.tpm_record.specs.rows.Rows.{Success, unchanged_success}
use Rattle.tpm_actions_capability.specs.Element.{listing}
use Rattle.tpm_actions_capability.specs.Elements.{command_elements}
use Rattle.tpm_actions_capability.specs.GetCapability.{capability_parameters, first_handle_of, get_capability_row, handle_elements, pcrs_text}
use Rattle.tpm_actions_capability.specs.Properties.{symmetric_elements}
use Rattle.tpm_actions_capability.specs.declared.element.Telling.TheVariants as tell
use Rattle.tpm_actions_capability.specs.declared.get_capability.CapabilityParameters.{CapabilityParameters}

-- the list of handles (1), commands (2), PCRs (5) or properties (6). Refused by check A1 for every
-- other capability, and by check A2 if no handle type has the first byte of the property
abbrev pub symmetric_told_of : Record → CapabilityParameters → Result (List ℕ) Refused
symmetric_told_of r p =
    if p.capability == 1 then
    (handle_elements r (p.property / 2 ^ 24) >>= λ elements.
    Ok (listing tell.Value 1 (first_handle_of p.property) p.count elements))
    else (if p.capability == 2 then
    Ok (listing tell.Value 2 p.property p.count (command_elements Symmetric))
    else (if p.capability == 5 then Ok pcrs_text
    else (if p.capability == 6 then
    Ok (listing tell.NumberAndValue 6 p.property p.count (symmetric_elements r.fixed.lockout))
    else Err (parameter_refusal action.First 1 code.Value))))

unfoldable pub symmetric_get_capability_row : Record → Request → Result Success Refused
symmetric_get_capability_row r q = do
  p ← capability_parameters q.parameters
  text ← symmetric_told_of r p
  Ok (unchanged_success r (answer_of (Plain text)))

-- On a device of the symmetric profile, this is the row of TPM2_GetCapability.
abbrev pub IsSymmetricRow : Type 0
IsSymmetricRow =
    (r : Record) (q : Request) → r.fixed.profile ≡ Symmetric
    → get_capability_row r q ≡ symmetric_get_capability_row r q
