-- Handles. TPM 2.0 Library, Part 2, sections 7.2 (TPM_HT, the most significant byte) and 7.4
-- (TPM_RH).
use Rattle.std.specs.Prelude.{◌≡◌, ℕ, ◌==◌, ◌/◌, ◌^◌, ◌||◌, nat_lt, Bool, if◌then◌else◌}
use Rattle.std.specs.Prelude.{Option, Some, None}
use Rattle.tpm_types_common.specs.declared.handle.Handle.{Handle}
use Rattle.tpm_types_common.specs.declared.handle.HierarchyAuth.{HierarchyAuth}
use Rattle.tpm_types_common.specs.declared.handle.HierarchyAuth.TheVariants as auth
use Rattle.tpm_types_common.specs.declared.handle.HierarchyHandle.{HierarchyHandle}
use Rattle.tpm_types_common.specs.declared.handle.HierarchyHandle.TheVariants as hierarchy
use Rattle.tpm_types_common.specs.declared.pcr.PcrIndex.{PcrIndex}
use Rattle.tpm_types_common.specs.declared.handle.SessionKind.{SessionKind}
use Rattle.tpm_types_common.specs.declared.handle.SessionKind.TheVariants.{Password, Session, Other}

-- the handle with this number
abbrev pub numbered_handle : ℕ → Handle
numbered_handle number = record { number = number }

-- the most significant byte of a handle, which is the type of the entity (TPM_HT)
abbrev pub handle_type : Handle → ℕ
handle_type handle = handle.number / 2 ^ 24

-- whether a handle has the type of an NV index (01). The index need not exist
abbrev pub is_nv_index : Handle → Bool
is_nv_index handle = handle_type handle == 0x01

-- whether a handle has the type of a policy or trial session (03). The session need not exist
abbrev pub is_policy_session : Handle → Bool
is_policy_session handle = handle_type handle == 0x03

-- whether a handle has the type of a session: 02 for an HMAC session, or 03 for a policy or trial
-- session. The session need not exist
abbrev pub is_session : Handle → Bool
is_session handle = handle_type handle == 0x02 || handle_type handle == 0x03

-- whether a handle has the type of a transient object (80). The object need not exist
abbrev pub is_transient : Handle → Bool
is_transient handle = handle_type handle == 0x80

-- whether a handle has the type of a persistent object (81). The object need not exist
abbrev pub is_persistent : Handle → Bool
is_persistent handle = handle_type handle == 0x81

-- the permanent handles of the standard: TPM_RH_OWNER, TPM_RH_NULL, TPM_RS_PW, TPM_RH_LOCKOUT,
-- TPM_RH_ENDORSEMENT and TPM_RH_PLATFORM
abbrev pub owner_handle : Handle
owner_handle = numbered_handle 0x4000_0001

abbrev pub null_handle : Handle
null_handle = numbered_handle 0x4000_0007

abbrev pub password_handle : Handle
password_handle = numbered_handle 0x4000_0009

abbrev pub lockout_handle : Handle
lockout_handle = numbered_handle 0x4000_000a

abbrev pub endorsement_handle : Handle
endorsement_handle = numbered_handle 0x4000_000b

abbrev pub platform_handle : Handle
platform_handle = numbered_handle 0x4000_000c

-- the meaning of a handle in an authorization entry: a password (TPM_RS_PW), an HMAC session (02)
-- or policy session (03), or neither
abbrev pub session_kind : Handle → SessionKind
session_kind handle =
    if handle.number == password_handle.number then Password
    else (if is_session handle then Session
    else Other)

-- the hierarchy or lockout that a handle names, each of which has an authorization value (Part 2:
-- TPMI_RH_HIERARCHY_AUTH)
abbrev pub hierarchy_auth_of : Handle → Option HierarchyAuth
hierarchy_auth_of handle =
    if handle.number == owner_handle.number then Some auth.Owner
    else (if handle.number == lockout_handle.number then Some auth.Lockout
    else (if handle.number == endorsement_handle.number then Some auth.Endorsement
    else (if handle.number == platform_handle.number then Some auth.Platform
    else None)))

-- the handle of a hierarchy (Part 2, section 9.13: TPMI_RH_HIERARCHY+)
abbrev pub hierarchy_handle : HierarchyHandle → Handle
hierarchy_handle hierarchy.Owner = owner_handle
hierarchy_handle hierarchy.Endorsement = endorsement_handle
hierarchy_handle hierarchy.Platform = platform_handle
hierarchy_handle hierarchy.Null = null_handle

-- the hierarchy that a handle names
abbrev pub hierarchy_of : Handle → Option HierarchyHandle
hierarchy_of handle =
    if handle.number == owner_handle.number then Some hierarchy.Owner
    else (if handle.number == endorsement_handle.number then Some hierarchy.Endorsement
    else (if handle.number == platform_handle.number then Some hierarchy.Platform
    else (if handle.number == null_handle.number then Some hierarchy.Null
    else None)))

-- the PCR that a handle names, if the handle is 0 to 23 (TPM_HT_PCR)
abbrev pub pcr_of : Handle → Option ℕ
pcr_of handle = if nat_lt handle.number 24 then Some handle.number else None

abbrev pub SomePcrOf : Option ℕ → Option PcrIndex → Type 0
SomePcrOf named (Some pcr) = named ≡ Some pcr
SomePcrOf named None = named ≡ None
