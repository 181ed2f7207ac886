-- TPM2_DictionaryAttackLockReset. TPM 2.0 Library, Part 3, section 25.2.
use Rattle.std.specs.Prelude.{Result, Ok}
use Rattle.tpm_bytes.specs.Reading.{◌>>=◌}
use Rattle.tpm_lockout.specs.Tries.{with_tries}
use Rattle.tpm_types_common.specs.declared.refused.Refused.{Refused}
use Rattle.tpm_record.specs.Record.{Record, with_lockout}
use Rattle.tpm_record.specs.rows.Answer.{nothing}
use Rattle.tpm_record.specs.rows.Request.{Request}
use Rattle.tpm_record.specs.rows.Rows.{Success, all_read}

-- the row of TPM2_DictionaryAttackLockReset. Handle: lockHandle, with authorization. Parameters:
-- none. Effect: sets failedTries to 0; the elapsed parts of recoveryTime and lockoutRecovery are
-- unchanged
unfoldable pub dictionary_attack_lock_reset_row : Record → Request → Result Success Refused
dictionary_attack_lock_reset_row r q = do
  ended ← all_read q.parameters
  Ok (record { answer = nothing; after = with_lockout r (with_tries 0 r.fixed.lockout) })
