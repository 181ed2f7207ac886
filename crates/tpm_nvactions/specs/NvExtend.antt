-- TPM2_NV_Extend. TPM 2.0 Library, Part 3, section 31.9.
use Rattle.tpm_types_common.specs.Limits.{data_limit}
use Rattle.std.specs.Prelude.{Result}
use Rattle.tpm_types_common.specs.Buffer.{buffer_at}
use Rattle.tpm_types_common.specs.declared.refused.Refused.{Refused}
use Rattle.tpm_nv.specs.Access.{contents_after_extend}
use Rattle.tpm_record.specs.Record.{Record}
use Rattle.tpm_record.specs.rows.Request.{Request}
use Rattle.tpm_record.specs.rows.Rows.{Success, only}
use Rattle.tpm_nvactions.specs.Access.{write_row}

-- the row of TPM2_NV_Extend. Handles: authHandle and nvIndex. Parameter: data, at most `data_limit`
-- bytes. Refused by check A1 if authHandle may not write the index; by A2 if the index is locked;
-- by A3 if it is not an extend index
unfoldable pub nv_extend_row : Record → Request → Result Success Refused
nv_extend_row r q =
    write_row r q (only (buffer_at data_limit q.parameters))
    (λ bytes handle. contents_after_extend r.nv handle bytes)
