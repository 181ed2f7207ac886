-- TPM2_Shutdown. TPM 2.0 Library, Part 3, section 9.4.
use Rattle.std.specs.Prelude.{Result, Ok}
use Rattle.tpm_bytes.specs.Reading.{◌>>=◌}
use Rattle.tpm_types_common.specs.StartupType.{startup_type_at}
use Rattle.tpm_types_common.specs.declared.refused.Refused.{Refused}
use Rattle.tpm_record.specs.Record.{Record, with_saved}
use Rattle.tpm_record.specs.Saved.{saved_by}
use Rattle.tpm_record.specs.rows.Answer.{nothing}
use Rattle.tpm_record.specs.rows.Request.{Request}
use Rattle.tpm_record.specs.rows.Rows.{Success, only}

-- the row of TPM2_Shutdown. Parameter: shutdownType. Effect: the newly saved state replaces the
-- previously saved state
unfoldable pub shutdown_row : Record → Request → Result Success Refused
shutdown_row r q = do
  type ← only (startup_type_at q.parameters)
  Ok (record { answer = nothing; after = with_saved r (saved_by type r.fixed.banks) })
