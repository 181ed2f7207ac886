-- TPM2_NV_ReadLock. TPM 2.0 Library, Part 3, section 31.14.
use Rattle.std.specs.Prelude.{Result, Ok}
use Rattle.tpm_bytes.specs.Reading.{◌>>=◌}
use Rattle.tpm_types_common.specs.declared.refused.Refused.{Refused}
use Rattle.tpm_nv.specs.Access.{read_locked}
use Rattle.tpm_record.specs.Record.{Record}
use Rattle.tpm_record.specs.rows.Refusals.{or_refusal}
use Rattle.tpm_record.specs.rows.Request.{Request}
use Rattle.tpm_record.specs.rows.Rows.{Success, all_read}
use Rattle.tpm_record.specs.rows.Target.{target_of}
use Rattle.tpm_nvactions.specs.Access.{changed_nv, lock_refusal, reader_passes}

-- the row of TPM2_NV_ReadLock. Handles: authHandle and nvIndex. Refused by check A1 if authHandle
-- may not read the index; by A2 if the index does not have the attribute READ_STCLEAR
unfoldable pub nv_read_lock_row : Record → Request → Result Success Refused
nv_read_lock_row r q = do
  target ← target_of r q
  ended ← all_read q.parameters
  a1 ← reader_passes target
  nv ← or_refusal lock_refusal (read_locked r.nv target.handle)
  Ok (changed_nv r nv)
