-- The handle of a persistent object as a parameter. TPM 2.0 Library, Part 2, section 9.5
-- (TPMI_DH_PERSISTENT).
use Rattle.std.specs.Prelude.{ℕ, not, List, Result, Ok}
use Rattle.std.specs.Int.{w32}
use Rattle.tpm_bytes.specs.Reading.{◌>>=◌, number_at, or_fault, refused_if}
use Rattle.tpm_types_common.specs.declared.handle.Handle.{Handle}
use Rattle.tpm_types_common.specs.declared.rc.Rc.{Rc}
use Rattle.tpm_types_common.specs.declared.rc.ResponseCode.TheVariants as code
use Rattle.tpm_types_common.specs.Handle.{is_persistent, numbered_handle}
use Rattle.tpm_types_common.specs.Rc.{plain}

-- the handle of a persistent object at the start of the bytes, and the remaining bytes. The object
-- need not exist
unfoldable pub persistent_handle_at : List ℕ → Result (Handle × List ℕ) Rc
persistent_handle_at text = do
  number ← or_fault (number_at w32 text) (plain code.Insufficient)
  named ← refused_if (not (is_persistent (numbered_handle number.0))) (plain code.Value)
  Ok (numbered_handle number.0, number.1)
