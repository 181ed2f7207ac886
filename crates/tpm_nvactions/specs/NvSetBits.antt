-- TPM2_NV_SetBits. TPM 2.0 Library, Part 3, section 31.10.
use Rattle.std.specs.Prelude.{Result}
use Rattle.std.specs.Int.{w64}
use Rattle.tpm_bytes.specs.Reading.{number_at, or_fault}
use Rattle.tpm_types_common.specs.Rc.{plain}
use Rattle.tpm_types_common.specs.declared.rc.ResponseCode.TheVariants as code
use Rattle.tpm_types_common.specs.declared.refused.Refused.{Refused}
use Rattle.tpm_nv.specs.Access.{bits_set}
use Rattle.tpm_record.specs.Record.{Record}
use Rattle.tpm_record.specs.rows.Request.{Request}
use Rattle.tpm_record.specs.rows.Rows.{Success, only}
use Rattle.tpm_nvactions.specs.Access.{write_row}

-- the row of TPM2_NV_SetBits. Handles: authHandle and nvIndex. Parameter: bits. Refused by check A1
-- if authHandle may not write the index; by A2 if the index is locked; by A3 if it is not a bit
-- field
unfoldable pub nv_set_bits_row : Record → Request → Result Success Refused
nv_set_bits_row r q =
    write_row r q (only (or_fault (number_at w64 q.parameters) (plain code.Insufficient)))
    (λ bits handle. bits_set r.nv handle bits)
