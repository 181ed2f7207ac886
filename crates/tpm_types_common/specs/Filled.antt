-- Structures that fill a sized buffer. TPM 2.0 Library, Part 2, section 10.4.1 (a TPM2B that
-- contains a structure has the structure's size).
use Rattle.std.specs.Prelude.{ℕ, ◌==◌, not, List, length, Result, Ok, Err}
use Rattle.tpm_bytes.specs.Reading.{◌>>=◌, refused_if}
use Rattle.tpm_types_common.specs.declared.rc.Rc.{Rc}
use Rattle.tpm_types_common.specs.declared.rc.ResponseCode.{ResponseCode}
use Rattle.tpm_types_common.specs.declared.rc.ResponseCode.TheVariants as code
use Rattle.tpm_types_common.specs.Buffer.{buffer_at}
use Rattle.tpm_types_common.specs.Rc.{plain}

-- the response code for a fault inside a sized buffer: INSUFFICIENT becomes SIZE, because the
-- buffer's size is wrong; other codes stay the same
abbrev pub within_buffer : ResponseCode → ResponseCode
within_buffer code.Insufficient = code.Size
within_buffer other = other

abbrev pub or_size : {X : Type 0} → Result X Rc → Result X Rc
or_size (Ok x) = Ok x
or_size (Err fault) = Err (record fault { code = within_buffer fault.code })

-- the structure that fills the sized buffer at the start of the bytes, and the remaining bytes.
-- Fails with INSUFFICIENT if the buffer is truncated, or with SIZE if the buffer is shorter or
-- longer than the structure
unfoldable pub filled_by : {X : Type 0}
    → (List ℕ → Result (X × List ℕ) Rc)
    → List ℕ → Result (X × List ℕ) Rc
filled_by at text = do
  buffer ← buffer_at 0xffff text
  content ← or_size (at buffer.0)
  whole ← refused_if (not (length content.1 == 0)) (plain code.Size)
  Ok (content.0, buffer.1)
