-- TPM2_Clear. TPM 2.0 Library, Part 3, section 24.6. The command prepares the computer for a new
-- owner.
use Rattle.tpm_types_common.specs.declared.action_check.ActionCheck.TheVariants as action
use Rattle.std.specs.Prelude.{ℕ, false, List, Result, Ok}
use Rattle.tpm_bytes.specs.Reading.{◌>>=◌, refused_if}
use Rattle.tpm_lockout.specs.Lockout.{LockoutState}
use Rattle.tpm_lockout.specs.Recovery.{with_closed}
use Rattle.tpm_lockout.specs.Tries.{with_tries}
use Rattle.tpm_nv.specs.Clear.{contents_after_clear}
use Rattle.tpm_pcr.specs.Changes.{clear_counted}
use Rattle.tpm_pcr.specs.Values.{BankValues}
use Rattle.tpm_types_common.specs.Rc.{plain}
use Rattle.tpm_types_common.specs.declared.rc.ResponseCode.TheVariants as code
use Rattle.tpm_types_common.specs.declared.refused.Refused.{Refused}
use Rattle.tpm_record.specs.Clear.{cleared_objects, cleared_persistent}
use Rattle.tpm_record.specs.Hierarchy.{cleared_hierarchies}
use Rattle.tpm_record.specs.Record.{Record}
use Rattle.tpm_record.specs.declared.fixed.Fixed.{Fixed}
use Rattle.tpm_record.specs.rows.Answer.{nothing}
use Rattle.tpm_record.specs.rows.Refusals.{action_refusal, or_refusal}
use Rattle.tpm_record.specs.rows.Request.{Request}
use Rattle.tpm_record.specs.rows.Rows.{Success, all_read}

-- the lockout state after TPM2_Clear: lockoutAuth is enabled, and failedTries is 0; the parameters
-- and the times are unchanged
abbrev pub cleared_lockout : LockoutState → LockoutState
cleared_lockout s = with_closed false (with_tries 0 s)

-- the fixed part of the record after TPM2_Clear. The hierarchies and lockout are cleared; Clock,
-- resetCount and restartCount are 0; the PCR update counter is incremented. Time and disableClear
-- are unchanged
abbrev pub cleared_fixed : BankValues → List ℕ → Fixed → Fixed
cleared_fixed banks random f = record f {
  hierarchies = cleared_hierarchies f.hierarchies random;
  lockout = cleared_lockout f.lockout;
  banks = banks;
  clock = 0;
  reset_count = 0;
  restart_count = 0;
}

-- the row of TPM2_Clear. Handle: authHandle (lockout or the platform), with authorization.
-- Parameters: none. Refused by check A1 if TPM2_Clear is disabled, whichever handle authorizes it;
-- by A2 if the PCR update counter is at its maximum. Effect: removes the owner's objects and
-- indices, and the endorsement hierarchy's objects; sessions and everything that belongs to the
-- platform are unchanged
unfoldable pub clear_row : Record → Request → Result Success Refused
clear_row r q = do
  ended ← all_read q.parameters
  a1 ← refused_if r.fixed.disable_clear (action_refusal action.First (plain code.Disabled))
  banks ← or_refusal (λ fault. action_refusal action.Second (plain code.Failure)) (clear_counted r.fixed.banks)
  Ok (record {
    answer = record nothing { drawn = 96 };
    after = record r {
      fixed = cleared_fixed banks q.random r.fixed;
      objects = cleared_objects r.objects;
      persistent = cleared_persistent r.persistent;
      nv = contents_after_clear r.nv;
    };
  })
