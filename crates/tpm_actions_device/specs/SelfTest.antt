-- TPM2_SelfTest. TPM 2.0 Library, Part 3, section 10.2.
use Rattle.std.specs.Prelude.{Result, Ok}
use Rattle.tpm_bytes.specs.Reading.{◌>>=◌}
use Rattle.tpm_types_common.specs.YesNo.{yes_no_at}
use Rattle.tpm_types_common.specs.declared.refused.Refused.{Refused}
use Rattle.tpm_record.specs.Record.{Record}
use Rattle.tpm_record.specs.rows.Answer.{nothing}
use Rattle.tpm_record.specs.rows.Request.{Request}
use Rattle.tpm_record.specs.rows.Rows.{Success, only, unchanged_success}

-- the row of TPM2_SelfTest. Parameter: fullTest. All tests have already passed, so the command
-- does nothing
unfoldable pub self_test_row : Record → Request → Result Success Refused
self_test_row r q = do
  full_test ← only (yes_no_at q.parameters)
  Ok (unchanged_success r nothing)
