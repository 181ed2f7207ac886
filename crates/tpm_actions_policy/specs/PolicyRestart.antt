-- TPM2_PolicyRestart. TPM 2.0 Library, Part 3, section 11.2.
use Rattle.std.specs.Prelude.{Result, Ok}
use Rattle.tpm_bytes.specs.Reading.{◌>>=◌}
use Rattle.tpm_policy.specs.State.{starting}
use Rattle.tpm_session.specs.Sessions.{with_session_policy}
use Rattle.tpm_record.specs.Record.{Record}
use Rattle.tpm_types_common.specs.declared.refused.Refused.{Refused}
use Rattle.tpm_record.specs.rows.Answer.{nothing}
use Rattle.tpm_record.specs.rows.Request.{Request, first_handle}
use Rattle.tpm_record.specs.rows.Rows.{Success, all_read}
use Rattle.tpm_actions_policy.specs.Assertions.{policy_session}

-- the row of TPM2_PolicyRestart. Parameters: none. Effect: resets the session's policy to its
-- initial state
unfoldable pub policy_restart_row : Record → Request → Result Success Refused
policy_restart_row r q = do
  handle ← first_handle q.handles
  ended ← all_read q.parameters
  s ← policy_session r.sessions handle
  Ok (record {
    answer = nothing;
    after = record r { sessions = with_session_policy r.sessions handle (starting s.hash) };
  })
