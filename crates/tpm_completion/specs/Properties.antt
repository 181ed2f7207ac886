-- The properties that the completing layer lists, in ascending order. TPM 2.0 Library, Part 2,
-- sections 6.13 (TPM_PT), 8.6 (TPMA_PERMANENT) and 8.7 (TPMA_STARTUP_CLEAR).
use Rattle.std.specs.Prelude.{ℕ, ◌+◌, ◌-◌, ◌^◌, ◌==◌, not, Bool, List, [], ◌∷◌, ◌++◌, count_by, false, length, true}
use Rattle.tpm_lockout.specs.Lockout.{LockoutState}
use Rattle.tpm_lockout.specs.Tries.{is_locked}
use Rattle.tpm_nv.specs.Head.{heads_of}
use Rattle.tpm_nv.specs.Index.{NvContents}
use Rattle.tpm_nv.specs.declared.head.Head.{Head}
use Rattle.tpm_types_common.specs.Limits.{buffer_limit, data_limit, nv_data_limit, nv_index_limit, object_limit, persistent_limit, session_limit}
use Rattle.tpm_types_nv.specs.NvAttributes.{is_of}
use Rattle.tpm_types_nv.specs.declared.nv_type.NvType.TheVariants as type
use Rattle.tpm_commands.specs.CommandCode.{served_count}
use Rattle.tpm_commands.specs.declared.profile.Profile.TheVariants.{Symmetric}
use Rattle.tpm_record.specs.Record.{Record}
use Rattle.tpm_record.specs.declared.fixed.Fixed.{Fixed}
use Rattle.tpm_record.specs.declared.hierarchy.Hierarchies.{Hierarchies}
use Rattle.tpm_actions_capability.specs.Elements.{object_elements}
use Rattle.tpm_actions_capability.specs.declared.element.Element.{Element}
use Rattle.tpm_context.specs.Context.{context_size as object_context_size}
use Rattle.tpm_completion.specs.Context.{session_context_size}
use Rattle.tpm_completion.specs.Handles.{sessions_shown}
use Rattle.tpm_completion.specs.Listing.{element}
use Rattle.tpm_completion.specs.declared.completion.Completion.{Completion}

-- ---- what never changes

-- the number of commands that the layer adds to those of the device
abbrev pub own_count : ℕ
own_count = 12

-- the number of all commands, each of which the TPM 2.0 Library defines
abbrev pub command_count : ℕ
command_count = served_count Symmetric + own_count

-- the device's manufacturer and specification: family "2.0", level 0, revision 1.38 of 29 September
-- 2016, manufacturer "TSIM", vendor "tpmsim", model 1, firmware 1.0
unfoldable pub identity_elements : List Element
identity_elements =
    element 0x100 0x322e_3000  -- FAMILY_INDICATOR
    ∷ element 0x101 0  -- LEVEL
    ∷ element 0x102 138  -- REVISION
    ∷ element 0x103 273  -- DAY_OF_YEAR
    ∷ element 0x104 2016  -- YEAR
    ∷ element 0x105 0x5453_494d  -- MANUFACTURER
    ∷ element 0x106 0x7470_6d73  -- VENDOR_STRING_1
    ∷ element 0x107 0x696d_0000  -- VENDOR_STRING_2
    ∷ element 0x108 0  -- VENDOR_STRING_3
    ∷ element 0x109 0  -- VENDOR_STRING_4
    ∷ element 0x10a 1  -- VENDOR_TPM_TYPE
    ∷ element 0x10b 1  -- FIRMWARE_VERSION_1
    ∷ element 0x10c 0  -- FIRMWARE_VERSION_2
    ∷ []

-- the device's limits, and how the contexts of objects are protected. Saved sessions keep their
-- slots; therefore the limits of active and of loaded sessions are equal. Contexts of sessions may
-- have any age, and each NV index may be a counter. TPMA_MEMORY is 0, since no memory is shared and
-- no persistent object is copied.
unfoldable pub limit_elements : List Element
limit_elements =
    element 0x10d data_limit  -- INPUT_BUFFER
    ∷ element 0x10e object_limit  -- HR_TRANSIENT_MIN
    ∷ element 0x10f persistent_limit  -- HR_PERSISTENT_MIN
    ∷ element 0x110 session_limit  -- HR_LOADED_MIN
    ∷ element 0x111 session_limit  -- ACTIVE_SESSIONS_MAX
    ∷ element 0x112 24  -- PCR_COUNT
    ∷ element 0x113 3  -- PCR_SELECT_MIN
    ∷ element 0x114 (2 ^ 32 - 1)  -- CONTEXT_GAP_MAX
    ∷ element 0x116 nv_index_limit  -- NV_COUNTERS_MAX
    ∷ element 0x117 nv_data_limit  -- NV_INDEX_MAX
    ∷ element 0x118 0  -- MEMORY
    ∷ element 0x11a 0x0b  -- CONTEXT_HASH: SHA-256
    ∷ element 0x11b 0x06  -- CONTEXT_SYM: AES
    ∷ element 0x11c 128  -- CONTEXT_SYM_SIZE
    ∷ element 0x11e buffer_limit  -- MAX_COMMAND_SIZE
    ∷ element 0x11f buffer_limit  -- MAX_RESPONSE_SIZE
    ∷ element 0x120 32  -- MAX_DIGEST
    ∷ element 0x121 object_context_size  -- MAX_OBJECT_CONTEXT
    ∷ element 0x122 session_context_size  -- MAX_SESSION_CONTEXT
    ∷ element 0x128 0  -- SPLIT_MAX
    ∷ element 0x129 command_count  -- TOTAL_COMMANDS
    ∷ element 0x12a command_count  -- LIBRARY_COMMANDS
    ∷ element 0x12b 0  -- VENDOR_COMMANDS
    ∷ element 0x12c data_limit  -- NV_BUFFER_MAX
    ∷ element 0x12d 0  -- MODES
    ∷ []

-- ---- attributes

-- the value of an attribute if it is set, otherwise 0
abbrev pub attribute_if : (set : Bool) → (value : ℕ) → ℕ
attribute_if true value = value
attribute_if false value = 0

-- whether an authorization value is set: it is not empty
abbrev pub is_set : (auth_value : List ℕ) → Bool
is_set auth_value = not (length auth_value == 0)

-- the attributes ownerAuthSet, endorsementAuthSet and lockoutAuthSet
abbrev pub values_set : Hierarchies → ℕ
values_set h =
    attribute_if (is_set h.owner.auth_value) 1
    + attribute_if (is_set h.endorsement.auth_value) 2
    + attribute_if (is_set h.lockout_auth) 4

-- TPMA_PERMANENT: the attributes of `values_set`, disableClear, inLockout and tpmGeneratedEPS (the
-- device draws its seeds from its random bytes)
abbrev pub permanent_attributes : Fixed → ℕ
permanent_attributes f =
    values_set f.hierarchies + attribute_if f.disable_clear 0x100
    + attribute_if (is_locked f.lockout.fields) 0x200
    + 0x400

-- TPMA_STARTUP_CLEAR. phEnable, shEnable, ehEnable and phEnableNV are set, since no command
-- disables a hierarchy. orderly is set if restartCount is not 0: the last TPM2_Startup was then a
-- TPM Restart or a TPM Resume, after a TPM2_Shutdown
abbrev pub startup_attributes : Fixed → ℕ
startup_attributes f = 0xf + attribute_if (not (f.restart_count == 0)) 0x8000_0000

-- ---- what is in use, and what is free

-- the number of saved sessions if `saved` is true, otherwise of loaded sessions
abbrev pub session_count : Record → Completion → (saved : Bool) → ℕ
session_count r c saved = length (sessions_shown r c saved)

abbrev pub active_count : Record → Completion → ℕ
active_count r c = session_count r c false + session_count r c true

-- the number of loaded transient objects
abbrev pub object_count : Record → ℕ
object_count r = length (object_elements r)

abbrev pub is_counter : ℕ × Head → Bool
is_counter e = is_of e.1.public.attributes type.Counter

abbrev pub index_count : NvContents → ℕ
index_count contents = length (heads_of contents)

abbrev pub counter_count : NvContents → ℕ
counter_count contents = count_by is_counter (heads_of contents)

-- the properties that contain the device's attributes and counts
unfoldable pub count_elements : Record → Completion → List Element
count_elements r c =
    element 0x200 (permanent_attributes r.fixed)  -- PERMANENT
    ∷ element 0x201 (startup_attributes r.fixed)  -- STARTUP_CLEAR
    ∷ element 0x202 (index_count r.nv)  -- HR_NV_INDEX
    ∷ element 0x203 (session_count r c false)  -- HR_LOADED
    ∷ element 0x204 (session_limit - session_count r c false)  -- HR_LOADED_AVAIL
    ∷ element 0x205 (active_count r c)  -- HR_ACTIVE
    ∷ element 0x206 (session_limit - active_count r c)  -- HR_ACTIVE_AVAIL
    ∷ element 0x207 (object_limit - object_count r)  -- HR_TRANSIENT_AVAIL
    ∷ element 0x208 (length r.persistent)  -- HR_PERSISTENT
    ∷ element 0x209 (persistent_limit - length r.persistent)  -- HR_PERSISTENT_AVAIL
    ∷ element 0x20a (counter_count r.nv)  -- NV_COUNTERS
    ∷ []

-- the parameters of lockout, and the properties of features that the device does not have, which
-- are 0: a set of algorithms, curves, a recovery time after NV writes, and command audit
abbrev pub lockout_elements : LockoutState → List Element
lockout_elements lockout =
    element 0x20c 0  -- ALGORITHM_SET
    ∷ element 0x20d 0  -- LOADED_CURVES
    ∷ element 0x20e lockout.fields.failed_tries  -- LOCKOUT_COUNTER
    ∷ element 0x20f lockout.fields.max_tries  -- MAX_AUTH_FAIL
    ∷ element 0x210 lockout.fields.recovery_time  -- LOCKOUT_INTERVAL
    ∷ element 0x211 lockout.fields.lockout_recovery  -- LOCKOUT_RECOVERY
    ∷ element 0x212 0  -- NV_WRITE_RECOVERY
    ∷ element 0x213 0  -- AUDIT_COUNTER_0
    ∷ element 0x214 0  -- AUDIT_COUNTER_1
    ∷ []

-- all properties
unfoldable pub property_elements : Record → Completion → List Element
property_elements r c =
    identity_elements ++ limit_elements ++ count_elements r c ++ lockout_elements r.fixed.lockout
