-- TPM2_ClearControl. TPM 2.0 Library, Part 3, section 24.7.
use Rattle.tpm_types_common.specs.declared.action_check.ActionCheck.TheVariants as action
use Rattle.std.specs.Prelude.{◌==◌, ◌&&◌, not, Bool, Result, Ok}
use Rattle.tpm_bytes.specs.Reading.{◌>>=◌, refused_if}
use Rattle.tpm_types_common.specs.Handle.{lockout_handle}
use Rattle.tpm_types_common.specs.Rc.{plain}
use Rattle.tpm_types_common.specs.YesNo.{yes_no_at}
use Rattle.tpm_types_common.specs.declared.handle.Handle.{Handle}
use Rattle.tpm_types_common.specs.declared.rc.ResponseCode.TheVariants as code
use Rattle.tpm_types_common.specs.declared.refused.Refused.{Refused}
use Rattle.tpm_record.specs.Record.{Record}
use Rattle.tpm_record.specs.rows.Answer.{nothing}
use Rattle.tpm_record.specs.rows.Refusals.{action_refusal}
use Rattle.tpm_record.specs.rows.Request.{Request, first_handle}
use Rattle.tpm_record.specs.rows.Rows.{Success, only}

-- the record after TPM2_Clear was disabled (if `disables`) or enabled
abbrev pub with_disable_clear : Record → Bool → Record
with_disable_clear r disables = record r { fixed = record r.fixed { disable_clear = disables } }

-- whether TPM_RH_LOCKOUT is used to enable TPM2_Clear; only the platform may enable it
abbrev pub is_enabled_by_lockout : Handle → (disables : Bool) → Bool
is_enabled_by_lockout handle disables = handle.number == lockout_handle.number && not disables

-- the row of TPM2_ClearControl. Handle: authHandle (lockout or the platform), with authorization.
-- Parameter: disable. Refused by check A1 if TPM_RH_LOCKOUT is used to enable TPM2_Clear; this
-- refusal does not count as a failed try
unfoldable pub clear_control_row : Record → Request → Result Success Refused
clear_control_row r q = do
  handle ← first_handle q.handles
  disables ← only (yes_no_at q.parameters)
  a1 ← refused_if (is_enabled_by_lockout handle disables) (action_refusal action.First (plain code.AuthFail))
  Ok (record { answer = nothing; after = with_disable_clear r disables })
