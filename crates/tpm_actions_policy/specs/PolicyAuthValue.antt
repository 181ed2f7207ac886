-- TPM2_PolicyAuthValue. TPM 2.0 Library, Part 3, section 23.17.
use Rattle.std.specs.Prelude.{ℕ, List, Result, Ok}
use Rattle.tpm_bytes.specs.Reading.{◌>>=◌}
use Rattle.tpm_policy.specs.Assertion.{Assertion, AuthValue}
use Rattle.tpm_session.specs.declared.session.Session.{Session}
use Rattle.tpm_types_common.specs.declared.refused.Refused.{Refused}
use Rattle.tpm_record.specs.rows.Rows.{all_read}

-- the assertion of TPM2_PolicyAuthValue, which requires an HMAC whose key includes the entity's
-- authorization value. Parameters: none
abbrev pub auth_value_assertion : List ℕ → Result (Session → Assertion) Refused
auth_value_assertion text = do
  ended ← all_read text
  Ok (λ s. AuthValue)
