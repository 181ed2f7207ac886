-- TPM2_PCR_Read. TPM 2.0 Library, Part 3, section 22.4.
use Rattle.std.specs.Prelude.{ℕ, ◌++◌, ◌%◌, ◌^◌, List, Result, Ok}
use Rattle.std.specs.Int.{w32, to_be_bytes}
use Rattle.tpm_bytes.specs.Reading.{◌>>=◌}
use Rattle.tpm_types_common.specs.DigestList.{digest_list_text}
use Rattle.tpm_types_common.specs.PcrSelection.{selection_at, selection_text}
use Rattle.tpm_types_common.specs.declared.pcr_selection.BankSelection.{BankSelection}
use Rattle.tpm_pcr.specs.Banks.{answer_selection, read_values}
use Rattle.tpm_pcr.specs.Values.{BankValues}
use Rattle.tpm_record.specs.Record.{Record}
use Rattle.tpm_types_common.specs.declared.refused.Refused.{Refused}
use Rattle.tpm_record.specs.rows.Request.{Request}
use Rattle.tpm_record.specs.rows.Answer.{Plain, answer_of}
use Rattle.tpm_record.specs.rows.Rows.{Success, only, unchanged_success}

-- the encoded update counter modulo 2^32, a selection of the first eight selected PCRs, and their
-- values
abbrev pub reading_text : BankValues → List BankSelection → List ℕ
reading_text banks selection =
    to_be_bytes w32 (banks.update_count % 2 ^ 32)
    ++ selection_text (answer_selection 8 selection)
    ++ digest_list_text (read_values banks 8 selection)

-- the row of TPM2_PCR_Read. Parameter: pcrSelectionIn. Answer: the update counter, the selection
-- of the PCRs that are read, and their values
unfoldable pub pcr_read_row : Record → Request → Result Success Refused
pcr_read_row r q = do
  selection ← only (selection_at q.parameters)
  Ok (unchanged_success r (answer_of (Plain (reading_text r.fixed.banks selection))))
