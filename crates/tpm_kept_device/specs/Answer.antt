-- A keeper's response to a TPM command.
use Rattle.std.specs.Prelude.{ℕ, List, length, nat_lt, Result, Ok}
use Rattle.std.specs.Int.{w8, w16, w32}
use Rattle.tpm_bytes.specs.Reading.{◌>>=◌, refused_if}
use Rattle.tpm_image_text.specs.Fields.{malformed_fault, number_in}
use Rattle.tpm_image_text.specs.declared.fault.Malformed.{Malformed}
use Rattle.tpm_types_common.specs.Limits.{buffer_limit}
use Rattle.tpm_kept_device.specs.declared.answer.Answer.{Answer}

-- an answer: the command code, the number of the check that refused the command, the number of
-- random bytes that the command drew, and the device's response
pub record PlainAnswer : Type 0 where
  pub code : ℕ
  pub check : ℕ
  pub drawn : ℕ
  pub response : List ℕ

-- an `Answer` as a plain value, without its reference to memory
abbrev pub plain_answer : Answer → PlainAnswer
plain_answer a =
    record { code = a.code; check = a.check; drawn = a.drawn; response = a.response.now }

-- the answer that the bytes encode: four bytes for the code, one for the check, two for the number
-- of drawn bytes, and the response, which fits in a buffer
unfoldable pub answer_of : List ℕ → Result PlainAnswer Malformed
answer_of text = do
  code ← number_in w32 text
  check ← number_in w8 code.1
  drawn ← number_in w16 check.1
  few ← refused_if (nat_lt buffer_limit (length drawn.1)) malformed_fault
  Ok (record { code = code.0; check = check.0; drawn = drawn.0; response = drawn.1 })
