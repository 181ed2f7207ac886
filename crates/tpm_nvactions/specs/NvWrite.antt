-- TPM2_NV_Write. TPM 2.0 Library, Part 3, section 31.7.
use Rattle.tpm_types_common.specs.Limits.{data_limit}
use Rattle.std.specs.Prelude.{ℕ, List, Result, Ok}
use Rattle.std.specs.Int.{w16}
use Rattle.tpm_bytes.specs.Reading.{◌>>=◌, number_at, or_fault}
use Rattle.tpm_types_common.specs.Buffer.{buffer_at}
use Rattle.tpm_types_common.specs.Rc.{plain}
use Rattle.tpm_types_common.specs.declared.rc.ResponseCode.TheVariants as code
use Rattle.tpm_types_common.specs.declared.refused.Refused.{Refused}
use Rattle.tpm_nv.specs.Access.{contents_after_write}
use Rattle.tpm_record.specs.Record.{Record}
use Rattle.tpm_record.specs.rows.Request.{Request}
use Rattle.tpm_record.specs.rows.Rows.{Success, all_read, parameter}
use Rattle.tpm_nvactions.specs.declared.nv_write.WriteParameters.{WriteParameters}
use Rattle.tpm_nvactions.specs.Access.{write_row}

-- the parameters data (at most `data_limit` bytes) and offset
pub record Parameters : Type 0 where
  pub bytes : List ℕ
  pub offset : ℕ

unfoldable pub parameters_in : List ℕ → Result Parameters Refused
parameters_in text = do
  bytes ← parameter 1 (buffer_at data_limit text)
  offset ← parameter 2 (or_fault (number_at w16 bytes.1) (plain code.Insufficient))
  ended ← all_read offset.1
  Ok (record { bytes = bytes.0; offset = offset.0 })

abbrev pub parameters_of : WriteParameters → Parameters
parameters_of asked = record { bytes = asked.bytes.now; offset = asked.offset }

-- the row of TPM2_NV_Write. Handles: authHandle and nvIndex. Refused by check A1 if authHandle may
-- not write the index; by A2 if the index is locked; by A3 if it is not an ordinary index; by A4 if
-- the bytes extend past the end of its data, or do not cover all of it although WRITEALL is set
unfoldable pub nv_write_row : Record → Request → Result Success Refused
nv_write_row r q =
    write_row r q (parameters_in q.parameters)
    (λ p handle. contents_after_write r.nv handle p.offset p.bytes)
