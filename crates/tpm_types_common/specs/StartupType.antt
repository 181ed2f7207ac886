-- The types of startup: with or without the state that the shutdown saved. TPM 2.0 Library, Part 2,
-- section 6.10 (TPM_SU).
use Rattle.std.specs.Prelude.{ℕ, ◌==◌, List, if◌then◌else◌, Option, Some, None, Result, Ok, ok_or}
use Rattle.std.specs.Int.{w16}
use Rattle.tpm_bytes.specs.Reading.{◌>>=◌, number_at, or_fault}
use Rattle.tpm_types_common.specs.declared.rc.Rc.{Rc}
use Rattle.tpm_types_common.specs.declared.rc.ResponseCode.TheVariants as code
use Rattle.tpm_types_common.specs.declared.startup_type.StartupType.{StartupType}
use Rattle.tpm_types_common.specs.declared.startup_type.StartupType.TheVariants.{Clear, State}
use Rattle.tpm_types_common.specs.Rc.{plain}

-- the startup type with this number, or None
abbrev pub startup_type_named : ℕ → Option StartupType
startup_type_named number =
    if number == 0 then Some Clear else (if number == 1 then Some State else None)

-- the startup type at the start of the bytes, and the remaining bytes
unfoldable pub startup_type_at : List ℕ → Result (StartupType × List ℕ) Rc
startup_type_at text = do
  number ← or_fault (number_at w16 text) (plain code.Insufficient)
  type ← ok_or (startup_type_named number.0) (plain code.Value)
  Ok (type, number.1)
