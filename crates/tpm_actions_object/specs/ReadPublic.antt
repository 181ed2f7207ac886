-- TPM2_ReadPublic. TPM 2.0 Library, Part 3, section 12.4.
use Rattle.std.specs.Prelude.{◌++◌, Result, Ok}
use Rattle.tpm_bytes.specs.Reading.{◌>>=◌}
use Rattle.tpm_bytes.specs.Writing.{sized_text}
use Rattle.tpm_name.specs.ObjectName.{object_name}
use Rattle.tpm_object.specs.declared.object.Object.{Object}
use Rattle.tpm_types_object.specs.Public.{public_text}
use Rattle.tpm_record.specs.Record.{Record}
use Rattle.tpm_types_common.specs.declared.refused.Refused.{Refused}
use Rattle.tpm_record.specs.rows.Request.{Request, first_handle}
use Rattle.tpm_record.specs.rows.Answer.{Body, SizedFirst, answer_of}
use Rattle.tpm_record.specs.rows.Rows.{Success, all_read, unchanged_success}
use Rattle.tpm_actions_object.specs.Loaded.{loaded_at}

-- the answer of TPM2_ReadPublic: an object's public area, its Name and its qualified Name
abbrev pub public_body : Object → Body
public_body object =
    SizedFirst (public_text object.public)
    (sized_text (object_name object.public) ++ sized_text object.qualified_name)

-- the row of TPM2_ReadPublic. Parameters: none. Answer: the object's public area and its two Names
unfoldable pub read_public_row : Record → Request → Result Success Refused
read_public_row r q = do
  handle ← first_handle q.handles
  object ← loaded_at r handle
  ended ← all_read q.parameters
  Ok (unchanged_success r (answer_of (public_body object)))
