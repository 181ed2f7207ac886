-- The sensitive areas of objects. TPM 2.0 Library, Part 2, section 12.3.2.4 (TPMT_SENSITIVE).
use Rattle.std.specs.Prelude.{ℕ, ◌≤◌, List, ◌++◌, length, Result, Ok}
use Rattle.tpm_bytes.specs.Reading.{◌>>=◌}
use Rattle.tpm_bytes.specs.Writing.{sized_text}
use Rattle.tpm_types_common.specs.Limits.{sensitive_limit}
use Rattle.tpm_types_common.specs.declared.rc.Rc.{Rc}
use Rattle.tpm_types_object.specs.declared.sensitive.Sensitive.{Sensitive}
use Rattle.tpm_types_common.specs.Buffer.{buffer_at}
use Rattle.tpm_types_object.specs.Public.{object_type_at, object_type_text}

-- the encoding of a sensitive area: the type of the object, its authorization value including
-- trailing zeros, its seed or obfuscation value, and its key or data
unfoldable pub sensitive_text : Sensitive → List ℕ
sensitive_text s =
    object_type_text s.object_type ++ sized_text s.auth_value ++ sized_text s.seed_value
    ++ sized_text s.sensitive

-- A sensitive area can be encoded if each of its buffers is within its size limit.
pub record IsSensitive (s : Sensitive) : Type 0 where
  pub auth_value : length s.auth_value ≤ 32
  pub seed_value : length s.seed_value ≤ 32
  pub sensitive : length s.sensitive ≤ sensitive_limit

-- the sensitive area at the start of the bytes, and the remaining bytes
unfoldable pub sensitive_at : List ℕ → Result (Sensitive × List ℕ) Rc
sensitive_at text = do
  type ← object_type_at text
  auth_value ← buffer_at 32 type.1
  seed_value ← buffer_at 32 auth_value.1
  sensitive ← buffer_at sensitive_limit seed_value.1
  Ok (
    record {
      object_type = type.0;
      auth_value = auth_value.0;
      seed_value = seed_value.0;
      sensitive = sensitive.0;
    },
    sensitive.1,
  )
