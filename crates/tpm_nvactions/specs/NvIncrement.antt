-- TPM2_NV_Increment. TPM 2.0 Library, Part 3, section 31.8.
use Rattle.std.specs.Prelude.{Result}
use Rattle.tpm_types_common.specs.declared.refused.Refused.{Refused}
use Rattle.tpm_nv.specs.Access.{contents_after_increment}
use Rattle.tpm_record.specs.Record.{Record}
use Rattle.tpm_record.specs.rows.Request.{Request}
use Rattle.tpm_record.specs.rows.Rows.{Success, all_read}
use Rattle.tpm_nvactions.specs.Access.{write_row}

-- the row of TPM2_NV_Increment. Handles: authHandle and nvIndex. Refused by check A1 if authHandle
-- may not write the index; by A2 if the index is locked; by A3 if it is not a counter; by A4 if its
-- value would exceed 2^64 - 1
unfoldable pub nv_increment_row : Record → Request → Result Success Refused
nv_increment_row r q =
    write_row r q (all_read q.parameters) (λ ended handle. contents_after_increment r.nv handle)
