-- TPM2_PolicyCpHash. TPM 2.0 Library, Part 3, section 23.13.
use Rattle.std.specs.Prelude.{List, Result, Ok, ℕ}
use Rattle.tpm_bytes.specs.Reading.{◌>>=◌}
use Rattle.tpm_policy.specs.Assertion.{Assertion, CpHash}
use Rattle.tpm_session.specs.declared.session.Session.{Session}
use Rattle.tpm_types_common.specs.Buffer.{buffer_at}
use Rattle.tpm_types_common.specs.declared.refused.Refused.{Refused}
use Rattle.tpm_record.specs.rows.Rows.{only}

-- the assertion of TPM2_PolicyCpHash. Parameter: cpHashA
abbrev pub cp_hash_assertion : List ℕ → Result (Session → Assertion) Refused
cp_hash_assertion text = do
  cp_hash ← only (buffer_at 32 text)
  Ok (λ s. CpHash cp_hash)
