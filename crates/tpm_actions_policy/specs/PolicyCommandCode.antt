-- TPM2_PolicyCommandCode. TPM 2.0 Library, Part 3, section 23.11.
use Rattle.std.specs.Prelude.{ℕ, List, Result, Ok}
use Rattle.std.specs.Int.{w32}
use Rattle.tpm_bytes.specs.Reading.{◌>>=◌, number_at, or_fault}
use Rattle.tpm_policy.specs.Assertion.{Assertion, CommandCode}
use Rattle.tpm_session.specs.declared.session.Session.{Session}
use Rattle.tpm_types_common.specs.declared.rc.ResponseCode.TheVariants as code
use Rattle.tpm_types_common.specs.Rc.{plain}
use Rattle.tpm_types_common.specs.declared.refused.Refused.{Refused}
use Rattle.tpm_record.specs.Record.{Record}
use Rattle.tpm_record.specs.rows.Rows.{only}

-- the assertion of TPM2_PolicyCommandCode. Parameter: code, the only command that is allowed, which
-- the device must serve
abbrev pub command_code_assertion : Record → List ℕ → Result (Session → Assertion) Refused
command_code_assertion r text = do
  number ← only (or_fault (number_at w32 text) (plain code.Insufficient))
  Ok (λ s. CommandCode r.fixed.profile number)
