-- TPM2_PCR_Event. TPM 2.0 Library, Part 3, section 22.3.
use Rattle.tpm_types_common.specs.Limits.{data_limit}
use Rattle.std.specs.Prelude.{Result, Ok}
use Rattle.tpm_bytes.specs.Reading.{◌>>=◌}
use Rattle.tpm_pcr.specs.Changes.{event_digests}
use Rattle.tpm_types_common.specs.Buffer.{buffer_at}
use Rattle.tpm_types_common.specs.DigestValues.{digest_values_text}
use Rattle.tpm_record.specs.Record.{Record}
use Rattle.tpm_types_common.specs.declared.refused.Refused.{Refused}
use Rattle.tpm_record.specs.rows.Request.{Request, first_handle}
use Rattle.tpm_actions_device.specs.PcrChange.{with_banks}
use Rattle.tpm_actions_device.specs.PcrExtend.{extended_banks}
use Rattle.tpm_record.specs.rows.Answer.{Plain, answer_of}
use Rattle.tpm_record.specs.rows.Rows.{Success, only}

-- the row of TPM2_PCR_Event. Handle: pcrHandle, with authorization. Parameter: eventData, at most
-- `data_limit` bytes. Answer: the digests of eventData
unfoldable pub pcr_event_row : Record → Request → Result Success Refused
pcr_event_row r q = do
  handle ← first_handle q.handles
  event ← only (buffer_at data_limit q.parameters)
  banks ← extended_banks handle q.locality (event_digests event) r.fixed.banks
  Ok (record {
    answer = answer_of (Plain (digest_values_text (event_digests event)));
    after = with_banks r banks;
  })
