-- TPM2_NV_ReadPublic. TPM 2.0 Library, Part 3, section 31.6.
use Rattle.std.specs.Prelude.{Result, Ok}
use Rattle.tpm_bytes.specs.Reading.{◌>>=◌}
use Rattle.tpm_bytes.specs.Writing.{sized_text}
use Rattle.tpm_types_common.specs.declared.refused.Refused.{Refused}
use Rattle.tpm_name.specs.NvName.{nv_name}
use Rattle.tpm_types_nv.specs.NvPublic.{nv_public_text}
use Rattle.tpm_nv.specs.Index.{NvIndex}
use Rattle.tpm_record.specs.Record.{Record}
use Rattle.tpm_record.specs.rows.Answer.{Body, SizedFirst, answer_of}
use Rattle.tpm_record.specs.rows.Request.{Request, first_handle}
use Rattle.tpm_record.specs.rows.Rows.{Success, all_read, unchanged_success}
use Rattle.tpm_record.specs.rows.Target.{index_or_refusal}

-- the answer of TPM2_NV_ReadPublic: the public area of an index, and its Name
abbrev pub public_body : NvIndex → Body
public_body index =
    SizedFirst (nv_public_text index.public) (sized_text (nv_name index.public))

-- the row of TPM2_NV_ReadPublic. Handle: nvIndex. Answer: the public area and the Name of the
-- index
unfoldable pub nv_read_public_row : Record → Request → Result Success Refused
nv_read_public_row r q = do
  handle ← first_handle q.handles
  index ← index_or_refusal r handle
  ended ← all_read q.parameters
  Ok (unchanged_success r (answer_of (public_body index)))
