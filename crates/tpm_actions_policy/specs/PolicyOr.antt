-- TPM2_PolicyOR. TPM 2.0 Library, Part 3, section 23.6.
use Rattle.std.specs.Prelude.{ℕ, List, Result, Ok}
use Rattle.tpm_bytes.specs.Reading.{◌>>=◌}
use Rattle.tpm_policy.specs.Assertion.{Assertion, Or}
use Rattle.tpm_session.specs.declared.session.Session.{Session}
use Rattle.tpm_types_common.specs.DigestList.{digest_list_at}
use Rattle.tpm_types_common.specs.declared.refused.Refused.{Refused}
use Rattle.tpm_record.specs.rows.Rows.{only}

-- the assertion of TPM2_PolicyOR. Parameter: pHashList, the digests of the branches
abbrev pub or_assertion : List ℕ → Result (Session → Assertion) Refused
or_assertion text = do
  digests ← only (digest_list_at text)
  Ok (λ s. Or digests)
