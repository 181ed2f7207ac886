-- What a session computes, for a caller who knows its handle. TPM 2.0 Library, Part 1, sections
-- 19.6.5 (HMAC computation) and 21 (parameter encryption).
use Rattle.tpm_types_common.specs.Limits.{buffer_limit}
use Rattle.tpm_types_common.specs.Symmetric.{is_null}
use Rattle.std.specs.Prelude.{ℕ, nat_lt, if◌then◌else◌, List, Option, Some, None, Result, Ok, Err}
use Rattle.tpm_session.specs.Session.{Session}
use Rattle.tpm_session.specs.declared.by_handle.ParameterFault.{ParameterFault}
use Rattle.tpm_session.specs.declared.by_handle.ParameterFault.TheVariants.{Size, Symmetric}

-- the result for a parameter of this size: None without a session, Size if the parameter is longer
-- than the longest command, and Symmetric if the session has no symmetric algorithm
abbrev pub parameter_result : Option Session → (size : ℕ) → Option (Result (Unit {0}) ParameterFault)
parameter_result None size = None
parameter_result (Some session) size =
    Some (
    if nat_lt buffer_limit size then Err Size
    else if is_null session.symmetric then Err Symmetric
    else Ok tt
    )

-- the bytes of a parameter after its encryption or decryption, which `changed` specifies for a
-- session. The bytes are unchanged if there is no session, or if they are longer than the longest
-- command
abbrev pub parameter_bytes : Option Session → (Session → List ℕ) → (size : ℕ) → List ℕ → List ℕ
parameter_bytes None changed size bytes = bytes
parameter_bytes (Some session) changed size bytes =
    if nat_lt buffer_limit size then bytes else changed session
