-- TPM2_GetTestResult. TPM 2.0 Library, Part 3, section 10.4.
use Rattle.std.specs.Prelude.{[], Result, Ok}
use Rattle.std.specs.Int.{w32, to_be_bytes}
use Rattle.tpm_bytes.specs.Reading.{◌>>=◌}
use Rattle.tpm_types_common.specs.declared.refused.Refused.{Refused}
use Rattle.tpm_record.specs.Record.{Record}
use Rattle.tpm_record.specs.rows.Answer.{SizedFirst, answer_of}
use Rattle.tpm_record.specs.rows.Request.{Request}
use Rattle.tpm_record.specs.rows.Rows.{Success, all_read, unchanged_success}

-- the row of TPM2_GetTestResult. Parameters: none. Answer: outData, which is empty, and testResult,
-- which is TPM_RC_SUCCESS, because all tests have passed
unfoldable pub get_test_result_row : Record → Request → Result Success Refused
get_test_result_row r q = do
  ended ← all_read q.parameters
  Ok (unchanged_success r (answer_of (SizedFirst [] (to_be_bytes w32 0))))
