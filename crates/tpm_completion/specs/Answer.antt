-- Responses as the completing layer reads and writes them. TPM 2.0 Library, Part 1, section 18
-- (command and response structures), and Part 2, section 6.6 (TPM_RC).
use Rattle.std.specs.Prelude.{ℕ, Bool, List, []}
use Rattle.std.specs.Str.{bytes_eq}
use Rattle.tpm_step.specs.step.Answer.{framed_message}

-- the response that reports success, with these bytes after its header
abbrev pub success : List ℕ → List ℕ
success body = framed_message 0x8001 0 body

-- the response that reports this error code, with nothing after its header
abbrev pub refusal : ℕ → List ℕ
refusal code = framed_message 0x8001 code []

-- whether a response is a refusal with this code
abbrev pub is_refusal : ℕ → List ℕ → Bool
is_refusal code response = bytes_eq response (refusal code)
