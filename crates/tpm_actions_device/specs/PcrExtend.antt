-- TPM2_PCR_Extend. TPM 2.0 Library, Part 3, section 22.2.
use Rattle.std.specs.Prelude.{ℕ, List, Result, Ok}
use Rattle.tpm_bytes.specs.Reading.{◌>>=◌}
use Rattle.tpm_pcr.specs.Changes.{extend_of}
use Rattle.tpm_pcr.specs.Values.{BankValues}
use Rattle.tpm_types_common.specs.declared.digest_values.DigestValue.{DigestValue}
use Rattle.tpm_types_common.specs.declared.handle.Handle.{Handle}
use Rattle.tpm_types_common.specs.DigestValues.{digest_values_at}
use Rattle.tpm_types_common.specs.Handle.{pcr_of}
use Rattle.tpm_record.specs.Record.{Record}
use Rattle.tpm_types_common.specs.declared.refused.Refused.{Refused}
use Rattle.tpm_record.specs.rows.Request.{Request, first_handle}
use Rattle.tpm_actions_device.specs.PcrChange.{on_pcr, with_banks}
use Rattle.tpm_record.specs.rows.Answer.{nothing}
use Rattle.tpm_record.specs.rows.Rows.{Success, only}

-- the banks after a PCR is extended from this locality with each digest in turn
abbrev pub extended_banks : Handle → (locality : ℕ) → List DigestValue
    → BankValues → Result BankValues Refused
extended_banks handle locality digests =
    on_pcr (pcr_of handle) (λ pcr. extend_of pcr locality digests)

-- the row of TPM2_PCR_Extend. Handle: pcrHandle, with authorization. Parameter: digests
unfoldable pub pcr_extend_row : Record → Request → Result Success Refused
pcr_extend_row r q = do
  handle ← first_handle q.handles
  digests ← only (digest_values_at q.parameters)
  banks ← extended_banks handle q.locality digests r.fixed.banks
  Ok (record { answer = nothing; after = with_banks r banks })
