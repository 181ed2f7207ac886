-- TPM2_DictionaryAttackParameters. TPM 2.0 Library, Part 3, section 25.3.
use Rattle.std.specs.Prelude.{ℕ, List, Result, Ok}
use Rattle.std.specs.Int.{w32}
use Rattle.tpm_bytes.specs.Reading.{◌>>=◌, number_at, or_fault}
use Rattle.tpm_lockout.specs.Lockout.{with_parameters}
use Rattle.tpm_types_common.specs.Rc.{plain}
use Rattle.tpm_types_common.specs.declared.rc.ResponseCode.TheVariants as code
use Rattle.tpm_types_common.specs.declared.refused.Refused.{Refused}
use Rattle.tpm_record.specs.Record.{Record, with_lockout}
use Rattle.tpm_record.specs.rows.Answer.{nothing}
use Rattle.tpm_record.specs.rows.Request.{Request}
use Rattle.tpm_record.specs.rows.Rows.{Success, all_read, parameter}
use Rattle.tpm_actions_device.specs.declared.dictionary_attack_parameters.AttackParameters.{AttackParameters}

-- the parameters newMaxTries, newRecoveryTime and lockoutRecovery
unfoldable pub lockout_parameters : List ℕ → Result AttackParameters Refused
lockout_parameters text = do
  max_tries ← parameter 1 (or_fault (number_at w32 text) (plain code.Insufficient))
  recovery_time ← parameter 2 (or_fault (number_at w32 max_tries.1) (plain code.Insufficient))
  lockout_recovery ← parameter 3
      (or_fault (number_at w32 recovery_time.1) (plain code.Insufficient))
  ended ← all_read lockout_recovery.1
  Ok (record {
    max_tries = max_tries.0;
    recovery_time = recovery_time.0;
    lockout_recovery = lockout_recovery.0;
  })

-- the row of TPM2_DictionaryAttackParameters. Handle: lockHandle, with authorization. Effect: sets
-- the three parameters, and sets the elapsed parts of recoveryTime and lockoutRecovery to 0
unfoldable pub dictionary_attack_parameters_row : Record → Request → Result Success Refused
dictionary_attack_parameters_row r q = do
  p ← lockout_parameters q.parameters
  Ok (record {
    answer = nothing;
    after = with_lockout r
        (with_parameters p.max_tries p.recovery_time p.lockout_recovery r.fixed.lockout);
  })
