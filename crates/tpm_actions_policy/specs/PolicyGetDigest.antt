-- TPM2_PolicyGetDigest. TPM 2.0 Library, Part 3, section 23.19.
use Rattle.std.specs.Prelude.{Result, Ok}
use Rattle.tpm_bytes.specs.Reading.{◌>>=◌}
use Rattle.tpm_record.specs.Record.{Record}
use Rattle.tpm_types_common.specs.declared.refused.Refused.{Refused}
use Rattle.tpm_record.specs.rows.Answer.{Sized, answer_of}
use Rattle.tpm_record.specs.rows.Request.{Request, first_handle}
use Rattle.tpm_record.specs.rows.Rows.{Success, all_read, unchanged_success}
use Rattle.tpm_actions_policy.specs.Assertions.{policy_session}

-- the row of TPM2_PolicyGetDigest. Parameters: none. Answer: the session's policy digest
unfoldable pub policy_get_digest_row : Record → Request → Result Success Refused
policy_get_digest_row r q = do
  handle ← first_handle q.handles
  ended ← all_read q.parameters
  s ← policy_session r.sessions handle
  Ok (unchanged_success r (answer_of (Sized s.policy.digest)))
