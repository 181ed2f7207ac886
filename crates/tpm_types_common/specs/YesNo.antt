-- Yes-or-no values. TPM 2.0 Library, Part 2, section 9.2 (TPMI_YES_NO).
use Rattle.std.specs.Prelude.{ℕ, ◌==◌, Bool, true, false, List, if◌then◌else◌, Option, Some, None, Result, Ok, ok_or}
use Rattle.std.specs.Int.{w8}
use Rattle.tpm_bytes.specs.Reading.{◌>>=◌, number_at, or_fault}
use Rattle.tpm_types_common.specs.declared.rc.Rc.{Rc}
use Rattle.tpm_types_common.specs.declared.rc.ResponseCode.TheVariants as code
use Rattle.tpm_types_common.specs.Rc.{plain}

-- the meaning of a byte as a yes-or-no value: 0 is no, and 1 is yes
abbrev pub yes_no_named : ℕ → Option Bool
yes_no_named byte = if byte == 0 then Some false else (if byte == 1 then Some true else None)

-- the yes-or-no value at the start of the bytes, and the remaining bytes
unfoldable pub yes_no_at : List ℕ → Result (Bool × List ℕ) Rc
yes_no_at text = do
  byte ← or_fault (number_at w8 text) (plain code.Insufficient)
  is_yes ← ok_or (yes_no_named byte.0) (plain code.Value)
  Ok (is_yes, byte.1)
