-- TPM2_PolicyPassword. TPM 2.0 Library, Part 3, section 23.18.
use Rattle.std.specs.Prelude.{ℕ, List, Result, Ok}
use Rattle.tpm_bytes.specs.Reading.{◌>>=◌}
use Rattle.tpm_policy.specs.Assertion.{Assertion, Password}
use Rattle.tpm_session.specs.declared.session.Session.{Session}
use Rattle.tpm_types_common.specs.declared.refused.Refused.{Refused}
use Rattle.tpm_record.specs.rows.Rows.{all_read}

-- the assertion of TPM2_PolicyPassword, which requires the entity's authorization value as a
-- password. Parameters: none
abbrev pub password_assertion : List ℕ → Result (Session → Assertion) Refused
password_assertion text = do
  ended ← all_read text
  Ok (λ s. Password)
