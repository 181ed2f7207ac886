-- TPM2_Unseal. TPM 2.0 Library, Part 3, section 12.7.
use Rattle.tpm_types_common.specs.declared.action_check.ActionCheck.TheVariants as action
use Rattle.std.specs.Prelude.{Result, Ok, not}
use Rattle.tpm_bytes.specs.Reading.{◌>>=◌, refused_if}
use Rattle.tpm_object.specs.Object.{is_keyed_hash}
use Rattle.tpm_types_object.specs.declared.object_attributes.ObjectAttribute.TheVariants as attribute
use Rattle.tpm_types_common.specs.declared.rc.Place.TheVariants as place
use Rattle.tpm_types_common.specs.declared.rc.ResponseCode.TheVariants as code
use Rattle.tpm_types_object.specs.ObjectAttributes.{has}
use Rattle.tpm_types_common.specs.Rc.{at, plain}
use Rattle.tpm_record.specs.Record.{Record}
use Rattle.tpm_types_common.specs.declared.refused.Refused.{Refused}
use Rattle.tpm_record.specs.rows.Request.{Request, first_handle}
use Rattle.tpm_record.specs.rows.Answer.{Sized, answer_of}
use Rattle.tpm_record.specs.rows.Rows.{Success, all_read, unchanged_success}
use Rattle.tpm_record.specs.rows.Refusals.{action_refusal}
use Rattle.tpm_actions_object.specs.Loaded.{loaded_at}

-- the row of TPM2_Unseal. Parameters: none. Answer: the sealed data. Refused by check A1 if the
-- object is not a KEYEDHASH object; by A2 if it is a signing key
unfoldable pub unseal_row : Record → Request → Result Success Refused
unseal_row r q = do
  handle ← first_handle q.handles
  object ← loaded_at r handle
  ended ← all_read q.parameters
  a1 ← refused_if (not (is_keyed_hash object.public))
      (action_refusal action.First (at (place.Handle 1) (plain code.Type)))
  a2 ← refused_if (has object.public.attributes attribute.Sign)
      (action_refusal action.Second (at (place.Handle 1) (plain code.Attributes)))
  Ok (unchanged_success r (answer_of (Sized object.sensitive)))
