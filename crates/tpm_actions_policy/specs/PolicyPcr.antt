-- TPM2_PolicyPCR. TPM 2.0 Library, Part 3, section 23.7.
use Rattle.std.specs.Prelude.{ℕ, List, Result, Ok}
use Rattle.tpm_bytes.specs.Reading.{◌>>=◌}
use Rattle.tpm_pcr.specs.Banks.{select_digest_of}
use Rattle.tpm_policy.specs.Assertion.{Assertion, Pcr, PcrParts}
use Rattle.tpm_session.specs.declared.session.Session.{Session}
use Rattle.tpm_types_common.specs.declared.pcr_selection.BankSelection.{BankSelection}
use Rattle.tpm_types_common.specs.Buffer.{buffer_at}
use Rattle.tpm_types_common.specs.PcrSelection.{selection_at, selection_text}
use Rattle.tpm_record.specs.Record.{Record}
use Rattle.tpm_types_common.specs.declared.refused.Refused.{Refused}
use Rattle.tpm_record.specs.rows.Request.{Request}
use Rattle.tpm_record.specs.rows.Rows.{all_read, parameter}

-- the parameters pcrDigest and pcrs
pub record Parameters : Type 0 where
  pub given : List ℕ
  pub selection : List BankSelection

abbrev pub pcr_parameters : List ℕ → Result Parameters Refused
pcr_parameters text = do
  given ← parameter 1 (buffer_at 32 text)
  selection ← parameter 2 (selection_at given.1)
  ended ← all_read selection.1
  Ok (record { given = given.0; selection = selection.0 })

-- the selected PCRs and the digest of their current values, computed with the session's hash
abbrev pub pcr_parts_of : Record → Parameters → Session → PcrParts
pcr_parts_of r p s = record {
  given = p.given;
  selection = selection_text p.selection;
  digest = select_digest_of r.fixed.banks s.hash p.selection;
  update_count = r.fixed.banks.update_count;
}

-- the assertion of TPM2_PolicyPCR: the selected PCRs have the values that this record contains, and
-- no PCR changes before the session authorizes a command
abbrev pub pcr_assertion : Record → Request → Result (Session → Assertion) Refused
pcr_assertion r q = do
  p ← pcr_parameters q.parameters
  Ok (λ s. Pcr (pcr_parts_of r p s))
