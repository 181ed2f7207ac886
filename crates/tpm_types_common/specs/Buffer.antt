-- Sized buffers in a command. TPM 2.0 Library, Part 2, section 10.4 (TPM2B: a size of two bytes,
-- and that many bytes), and Part 3, section 5.8 (parameter unmarshaling).
use Rattle.std.specs.Prelude.{ℕ, ◌==◌, not, Bool, List, length, Result, Ok, Err}
use Rattle.tpm_bytes.specs.Reading.{sized_at}
use Rattle.tpm_bytes.specs.declared.cursor.SizedFault.{SizedFault}
use Rattle.tpm_bytes.specs.declared.cursor.SizedFault.TheVariants as fault
use Rattle.tpm_types_common.specs.declared.rc.Rc.{Rc}
use Rattle.tpm_types_common.specs.declared.rc.ResponseCode.TheVariants as code
use Rattle.tpm_types_common.specs.Rc.{plain}

-- the response code for a bad sized buffer: SIZE if its size is over the limit, even if it is also
-- truncated; otherwise INSUFFICIENT
abbrev pub sized_rc : SizedFault → Rc
sized_rc fault.TooLong = plain code.Size
sized_rc fault.Short = plain code.Insufficient

abbrev pub or_sized_rc : {X : Type 0} → Result X SizedFault → Result X Rc
or_sized_rc (Ok x) = Ok x
or_sized_rc (Err fault) = Err (sized_rc fault)

-- the content of the sized buffer at the start of the bytes, at most `limit` bytes, and the
-- remaining bytes
unfoldable pub buffer_at : ℕ → List ℕ → Result (List ℕ × List ℕ) Rc
buffer_at limit text = or_sized_rc (sized_at limit text)

-- whether an optional value is present, that is, its buffer is not empty
abbrev pub is_given : List ℕ → Bool
is_given bytes = not (length bytes == 0)
