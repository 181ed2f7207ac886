-- TPM2_StirRandom. TPM 2.0 Library, Part 3, section 16.2, and Part 2, section 11.1.14
-- (TPM2B_SENSITIVE_DATA).
use Rattle.std.specs.Prelude.{Result, Ok}
use Rattle.tpm_bytes.specs.Reading.{◌>>=◌}
use Rattle.tpm_types_common.specs.Buffer.{buffer_at}
use Rattle.tpm_types_common.specs.declared.refused.Refused.{Refused}
use Rattle.tpm_record.specs.Record.{Record}
use Rattle.tpm_record.specs.rows.Answer.{nothing}
use Rattle.tpm_record.specs.rows.Request.{Request}
use Rattle.tpm_record.specs.rows.Rows.{Success, only, unchanged_success}

-- the row of TPM2_StirRandom. Parameter: inData, at most 128 bytes. The host supplies the random
-- bytes of each event, so the command does nothing
unfoldable pub stir_random_row : Record → Request → Result Success Refused
stir_random_row r q = do
  bytes ← only (buffer_at 128 q.parameters)
  Ok (unchanged_success r nothing)
