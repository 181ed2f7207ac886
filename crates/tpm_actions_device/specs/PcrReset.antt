-- TPM2_PCR_Reset. TPM 2.0 Library, Part 3, section 22.8.
use Rattle.std.specs.Prelude.{ℕ, Result, Ok}
use Rattle.tpm_bytes.specs.Reading.{◌>>=◌}
use Rattle.tpm_pcr.specs.Changes.{reset_of}
use Rattle.tpm_pcr.specs.Values.{BankValues}
use Rattle.tpm_types_common.specs.declared.handle.Handle.{Handle}
use Rattle.tpm_types_common.specs.Handle.{pcr_of}
use Rattle.tpm_record.specs.Record.{Record}
use Rattle.tpm_types_common.specs.declared.refused.Refused.{Refused}
use Rattle.tpm_record.specs.rows.Request.{Request, first_handle}
use Rattle.tpm_actions_device.specs.PcrChange.{on_pcr, with_banks}
use Rattle.tpm_record.specs.rows.Answer.{nothing}
use Rattle.tpm_record.specs.rows.Rows.{Success, all_read}

-- the banks after a PCR is reset to zeros from this locality
abbrev pub made_zeros : Handle → (locality : ℕ) → BankValues → Result BankValues Refused
made_zeros handle locality = on_pcr (pcr_of handle) (λ pcr. reset_of pcr locality)

-- the row of TPM2_PCR_Reset. Handle: pcrHandle, with authorization. Parameters: none
unfoldable pub pcr_reset_row : Record → Request → Result Success Refused
pcr_reset_row r q = do
  handle ← first_handle q.handles
  ended ← all_read q.parameters
  banks ← made_zeros handle q.locality r.fixed.banks
  Ok (record { answer = nothing; after = with_banks r banks })
