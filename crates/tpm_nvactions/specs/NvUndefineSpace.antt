-- TPM2_NV_UndefineSpace. TPM 2.0 Library, Part 3, section 31.4.
use Rattle.tpm_types_common.specs.declared.action_check.ActionCheck.TheVariants as action
use Rattle.std.specs.Prelude.{◌==◌, ◌&&◌, Bool, Result, Ok}
use Rattle.tpm_bytes.specs.Reading.{◌>>=◌, refused_if}
use Rattle.tpm_types_common.specs.Handle.{owner_handle}
use Rattle.tpm_types_common.specs.Rc.{plain}
use Rattle.tpm_types_common.specs.declared.rc.ResponseCode.TheVariants as code
use Rattle.tpm_types_common.specs.declared.refused.Refused.{Refused}
use Rattle.tpm_types_nv.specs.NvAttributes.{has}
use Rattle.tpm_types_nv.specs.declared.nv_attributes.NvAttribute.TheVariants as attribute
use Rattle.tpm_nv.specs.Index.{without_index}
use Rattle.tpm_record.specs.Record.{Record}
use Rattle.tpm_record.specs.rows.Refusals.{action_refusal}
use Rattle.tpm_record.specs.rows.Request.{Request}
use Rattle.tpm_record.specs.rows.Rows.{Success, all_read}
use Rattle.tpm_record.specs.declared.rows.target.Target.{Target}
use Rattle.tpm_record.specs.rows.Target.{target_of}
use Rattle.tpm_nvactions.specs.Access.{changed_nv}

-- whether the owner asks to remove an index that the platform defined
abbrev pub is_kept_from : Target → Bool
is_kept_from target =
    target.auth_handle.number == owner_handle.number && has target.attributes attribute.PlatformCreate

-- the row of TPM2_NV_UndefineSpace. Handles: authHandle (the owner or the platform), with
-- authorization, and nvIndex. Refused by check A1 if the owner would remove an index that the
-- platform defined
unfoldable pub nv_undefine_space_row : Record → Request → Result Success Refused
nv_undefine_space_row r q = do
  target ← target_of r q
  ended ← all_read q.parameters
  a1 ← refused_if (is_kept_from target) (action_refusal action.First (plain code.NvAuthorization))
  Ok (changed_nv r (without_index r.nv target.handle))
