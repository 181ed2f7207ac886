-- The values that a caller provides for a new object's sensitive area. TPM 2.0 Library, Part 2,
-- section 11.1.15 (TPMS_SENSITIVE_CREATE).
use Rattle.std.specs.Prelude.{ℕ, ◌≤◌, List, ◌++◌, length, Result, Ok}
use Rattle.tpm_bytes.specs.Reading.{◌>>=◌}
use Rattle.tpm_bytes.specs.Writing.{sized_text}
use Rattle.tpm_types_common.specs.Limits.{sensitive_limit}
use Rattle.tpm_types_common.specs.declared.rc.Rc.{Rc}
use Rattle.tpm_types_object.specs.declared.sensitive_create.SensitiveCreate.{SensitiveCreate}
use Rattle.tpm_types_common.specs.Buffer.{buffer_at}

-- the values that a caller provides, regardless of where they are in memory. The field `data` is
-- quoted because its name is a keyword
pub record SensitiveValues : Type 0 where
  pub user_auth : List ℕ
  pub «data» : List ℕ

abbrev pub sensitive_values_of : SensitiveCreate → SensitiveValues
sensitive_values_of s = record { user_auth = s.user_auth.now; «data» = s.«data».now }

-- the encoding of the values that a caller provides: the authorization value, and the key or the
-- data to seal
abbrev pub sensitive_create_text : SensitiveValues → List ℕ
sensitive_create_text s = sized_text s.user_auth ++ sized_text s.«data»

-- The values that a caller provides can be encoded if each is within its size limit.
pub record IsSensitiveCreate (s : SensitiveValues) : Type 0 where
  pub user_auth : length s.user_auth ≤ 32
  pub «data» : length s.«data» ≤ sensitive_limit

-- the values for a new sensitive area at the start of the bytes, and the remaining bytes
unfoldable pub sensitive_create_at : List ℕ → Result (SensitiveValues × List ℕ) Rc
sensitive_create_at text = do
  user_auth ← buffer_at 32 text
  given ← buffer_at sensitive_limit user_auth.1
  Ok (record { user_auth = user_auth.0; «data» = given.0 }, given.1)
