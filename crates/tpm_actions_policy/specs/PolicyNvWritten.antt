-- TPM2_PolicyNvWritten. TPM 2.0 Library, Part 3, section 23.20.
use Rattle.std.specs.Prelude.{List, Result, Ok, ℕ}
use Rattle.tpm_bytes.specs.Reading.{◌>>=◌}
use Rattle.tpm_policy.specs.Assertion.{Assertion, NvWritten}
use Rattle.tpm_session.specs.declared.session.Session.{Session}
use Rattle.tpm_types_common.specs.YesNo.{yes_no_at}
use Rattle.tpm_types_common.specs.declared.refused.Refused.{Refused}
use Rattle.tpm_record.specs.rows.Rows.{only}

-- the assertion of TPM2_PolicyNvWritten. Parameter: writtenSet
abbrev pub nv_written_assertion : List ℕ → Result (Session → Assertion) Refused
nv_written_assertion text = do
  is_written ← only (yes_no_at text)
  Ok (λ s. NvWritten is_written)
