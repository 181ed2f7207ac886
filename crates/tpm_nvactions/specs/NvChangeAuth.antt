-- TPM2_NV_ChangeAuth. TPM 2.0 Library, Part 3, section 31.15.
use Rattle.tpm_types_common.specs.declared.action_check.ActionCheck.TheVariants as action
use Rattle.std.specs.Prelude.{nat_lt, length, Result, Ok}
use Rattle.tpm_bytes.specs.Reading.{◌>>=◌, refused_if}
use Rattle.tpm_mac.specs.Digest.{digest_size}
use Rattle.tpm_types_common.specs.AuthValue.{auth_value_at}
use Rattle.tpm_types_common.specs.declared.rc.ResponseCode.TheVariants as code
use Rattle.tpm_types_common.specs.declared.refused.Refused.{Refused}
use Rattle.tpm_nv.specs.Access.{with_auth_value}
use Rattle.tpm_record.specs.Record.{Record}
use Rattle.tpm_record.specs.rows.Refusals.{handle_refusal, or_refusal, parameter_refusal}
use Rattle.tpm_record.specs.rows.Request.{Request, first_handle}
use Rattle.tpm_record.specs.rows.Rows.{Success, only}
use Rattle.tpm_record.specs.rows.Target.{index_or_refusal}
use Rattle.tpm_nvactions.specs.Access.{changed_nv}

-- the row of TPM2_NV_ChangeAuth. Handle: nvIndex, with authorization in the ADMIN role. Parameter:
-- newAuth, at most 32 bytes, whose trailing zeros are removed. Refused by check A1 if newAuth is
-- longer than a digest of nameAlg
unfoldable pub nv_change_auth_row : Record → Request → Result Success Refused
nv_change_auth_row r q = do
  handle ← first_handle q.handles
  index ← index_or_refusal r handle
  value ← only (auth_value_at q.parameters)
  a1 ← refused_if (nat_lt (digest_size index.public.name_alg) (length value))
      (parameter_refusal action.First 1 code.Size)
  nv ← or_refusal (λ absence. handle_refusal) (with_auth_value r.nv handle value)
  Ok (changed_nv r nv)
