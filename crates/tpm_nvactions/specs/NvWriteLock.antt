-- TPM2_NV_WriteLock. TPM 2.0 Library, Part 3, section 31.11.
use Rattle.std.specs.Prelude.{Result, Ok}
use Rattle.tpm_bytes.specs.Reading.{◌>>=◌}
use Rattle.tpm_types_common.specs.declared.refused.Refused.{Refused}
use Rattle.tpm_nv.specs.Access.{write_locked}
use Rattle.tpm_record.specs.Record.{Record}
use Rattle.tpm_record.specs.rows.Refusals.{or_refusal}
use Rattle.tpm_record.specs.rows.Request.{Request}
use Rattle.tpm_record.specs.rows.Rows.{Success, all_read}
use Rattle.tpm_record.specs.rows.Target.{target_of}
use Rattle.tpm_nvactions.specs.Access.{changed_nv, lock_refusal, writer_passes}

-- the row of TPM2_NV_WriteLock. Handles: authHandle and nvIndex. Refused by check A1 if authHandle
-- may not write the index; by A2 if the index has neither WRITEDEFINE nor WRITE_STCLEAR
unfoldable pub nv_write_lock_row : Record → Request → Result Success Refused
nv_write_lock_row r q = do
  target ← target_of r q
  ended ← all_read q.parameters
  a1 ← writer_passes target
  nv ← or_refusal lock_refusal (write_locked r.nv target.handle)
  Ok (changed_nv r nv)
