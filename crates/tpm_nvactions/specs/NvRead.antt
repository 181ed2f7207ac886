-- TPM2_NV_Read. TPM 2.0 Library, Part 3, section 31.13.
use Rattle.tpm_types_common.specs.declared.action_check.ActionCheck.TheVariants as action
use Rattle.tpm_types_common.specs.Limits.{data_limit}
use Rattle.std.specs.Prelude.{ℕ, nat_lt, List, Result, Ok}
use Rattle.std.specs.Int.{w16}
use Rattle.tpm_bytes.specs.Reading.{◌>>=◌, number_at, or_fault, refused_if}
use Rattle.tpm_types_common.specs.Rc.{plain}
use Rattle.tpm_types_common.specs.declared.rc.ResponseCode.TheVariants as code
use Rattle.tpm_types_common.specs.declared.refused.Refused.{Refused}
use Rattle.tpm_nv.specs.Access.{read_at}
use Rattle.tpm_record.specs.Record.{Record}
use Rattle.tpm_record.specs.rows.Answer.{Sized, answer_of}
use Rattle.tpm_record.specs.rows.Refusals.{action_refusal, fault_refusal, or_refusal, parameter_refusal}
use Rattle.tpm_record.specs.rows.Request.{Request}
use Rattle.tpm_record.specs.rows.Rows.{Success, all_read, parameter, unchanged_success}
use Rattle.tpm_nvactions.specs.declared.nv_read.ReadParameters.{ReadParameters}
use Rattle.tpm_record.specs.rows.Target.{reading_passes, target_of}

-- the parameters size and offset
unfoldable pub parameters_in : List ℕ → Result ReadParameters Refused
parameters_in text = do
  size ← parameter 1 (or_fault (number_at w16 text) (plain code.Insufficient))
  offset ← parameter 2 (or_fault (number_at w16 size.1) (plain code.Insufficient))
  ended ← all_read offset.1
  Ok (record { size = size.0; offset = offset.0 })

-- the row of TPM2_NV_Read. Handles: authHandle and nvIndex. Refused by A1 to A3, the checks of
-- every command that reads an index; by A4 if the command requests more bytes than the data limit;
-- by A5 if the bytes extend past the end of the index's data. Once checks A1 to A4 have passed, the
-- read can fail for no other reason (reading_laws of tpm_record). Answer: the bytes that were read
unfoldable pub nv_read_row : Record → Request → Result Success Refused
nv_read_row r q = do
  target ← target_of r q
  p ← parameters_in q.parameters
  readable ← or_refusal fault_refusal (reading_passes target)
  a4 ← refused_if (nat_lt data_limit p.size) (parameter_refusal action.Fourth 1 code.Value)
  bytes ← or_fault (read_at r.nv target.handle p.offset p.size)
      (action_refusal action.Fifth (plain code.NvRange))
  Ok (unchanged_success r (answer_of (Sized bytes)))
