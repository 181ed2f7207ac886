-- Comparisons of authorization values, and the refusals if they fail. TPM 2.0 Library, Part 1,
-- sections 19.4 (password authorizations) and 19.8 (dictionary attacks).
use Rattle.std.specs.Prelude.{ℕ, Bool, false, List, Option, Some, None, Result}
use Rattle.std.specs.Str.{bytes_eq}
use Rattle.tpm_bytes.specs.Reading.{refused_if}
use Rattle.tpm_lockout.specs.Lockout.{LockoutState}
use Rattle.tpm_lockout.specs.Tries.{is_locked}
use Rattle.tpm_session.specs.declared.session.Protection.{Protection}
use Rattle.tpm_session.specs.declared.session.Protection.TheVariants as protection
use Rattle.tpm_types_common.specs.AuthValue.{trimmed}
use Rattle.tpm_types_common.specs.declared.rc.ResponseCode.TheVariants as code
use Rattle.tpm_types_common.specs.Rc.{entry_fault, plain}
use Rattle.tpm_types_common.specs.Refused.{refusal}
use Rattle.tpm_types_common.specs.declared.check.Check.{Check}
use Rattle.tpm_types_common.specs.declared.check.Check.TheVariants as check
use Rattle.tpm_types_common.specs.declared.refused.Counted.TheVariants as counted
use Rattle.tpm_types_common.specs.declared.refused.Refused.{Refused}
use Rattle.tpm_auth.specs.declared.session_grant.Grant.{Grant}

-- whether a password equals an authorization value, apart from trailing zeros
abbrev pub is_password_of : List ℕ → List ℕ → Bool
is_password_of value password = bytes_eq (trimmed password) (trimmed value)

-- the refusal if the password or HMAC of entry n is wrong. For a protected entity it is AUTH_FAIL,
-- which counts as a failed try or disables lockoutAuth; otherwise it is BAD_AUTH
abbrev pub failure : Check → ℕ → Protection → Refused
failure check n protection.None = refusal check (entry_fault n code.BadAuth)
failure check n protection.Tries =
    record { rc = entry_fault n code.AuthFail; check = check; counted = counted.Try }
failure check n protection.Lockout =
    record { rc = entry_fault n code.AuthFail; check = check; counted = counted.Lockout }

-- the check that fails if a password or HMAC is wrong: G9 for an entry that authorizes a handle,
-- otherwise G10
abbrev pub check_of : Option Grant → Check
check_of (Some grant) = check.Authorization
check_of None = check.Others

-- whether an entity with this protection is locked out: after too many failed tries, or because
-- lockoutAuth is disabled
abbrev pub is_locked_out : LockoutState → Protection → Bool
is_locked_out lockout protection.None = false
is_locked_out lockout protection.Tries = is_locked lockout.fields
is_locked_out lockout protection.Lockout = lockout.fields.closed

-- the check that an entity is not locked out. If it is locked out, the result is TPM_RC_LOCKOUT:
-- nothing is compared, and failedTries is not incremented
abbrev pub may_be_tried : LockoutState → Option Grant → Protection → Result (Unit {0}) Refused
may_be_tried lockout grant protection =
    refused_if (is_locked_out lockout protection) (refusal (check_of grant) (plain code.Lockout))
