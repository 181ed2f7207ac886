-- TPM2_PolicyLocality. TPM 2.0 Library, Part 3, section 23.8.
use Rattle.std.specs.Prelude.{ℕ, List, Result, Ok}
use Rattle.std.specs.Int.{w8}
use Rattle.tpm_bytes.specs.Reading.{◌>>=◌, number_at, or_fault}
use Rattle.tpm_policy.specs.Assertion.{Assertion, Locality}
use Rattle.tpm_session.specs.declared.session.Session.{Session}
use Rattle.tpm_types_common.specs.declared.rc.ResponseCode.TheVariants as code
use Rattle.tpm_types_common.specs.Rc.{plain}
use Rattle.tpm_types_common.specs.declared.refused.Refused.{Refused}
use Rattle.tpm_record.specs.rows.Rows.{only}

-- the assertion of TPM2_PolicyLocality. Parameter: locality, one bit for each allowed locality
abbrev pub locality_assertion : List ℕ → Result (Session → Assertion) Refused
locality_assertion text = do
  localities ← only (or_fault (number_at w8 text) (plain code.Insufficient))
  Ok (λ s. Locality localities)
