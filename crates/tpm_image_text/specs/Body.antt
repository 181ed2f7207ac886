-- The body of an image: the state that a device keeps without power, part by part. The layout is
-- specific to this device; objects and indices are encoded as the standard's structures. TPM 2.0
-- Library, Part 2, sections 12.2.4 (TPMT_PUBLIC), 12.3.2.4 (TPMT_SENSITIVE) and 13.6
-- (TPM2B_NV_PUBLIC).
use Rattle.tpm_types_common.specs.Limits.{nv_data_limit, persistent_limit}
use Rattle.std.specs.Prelude.{ℕ, ◌+◌, ◌==◌, ◌&&◌, nat_le, not, Bool, true, if◌then◌else◌}
use Rattle.std.specs.Prelude.{List, [], ◌∷◌, ◌++◌, length, ok_or, Result, Ok, Err}
use Rattle.std.specs.Int.{w8, w16, w32, w64, to_be_bytes}
use Rattle.std.specs.List.{flat_map, sum_by}
use Rattle.tpm_containers.specs.SortedMap.{Entries}
use Rattle.tpm_bytes.specs.Many.{many_at}
use Rattle.tpm_bytes.specs.Reading.{◌>>=◌, refused_if}
use Rattle.tpm_bytes.specs.Writing.{sized_text}
use Rattle.tpm_lockout.specs.declared.fields.LockoutFields.{LockoutFields}
use Rattle.tpm_nv.specs.Definition.{has_type_size}
use Rattle.tpm_nv.specs.Index.{NvIndex}
use Rattle.tpm_object.specs.declared.object.Object.{Object}
use Rattle.tpm_pcr.specs.Saved.{SavedValues}
use Rattle.tpm_record.specs.Persistent.{can_persist}
use Rattle.tpm_record.specs.Saved.{SavedState, Nothing, Clear, State}
use Rattle.tpm_record.specs.declared.hierarchy.Hierarchies.{Hierarchies}
use Rattle.tpm_record.specs.declared.hierarchy.Hierarchy.{Hierarchy}
use Rattle.tpm_record.specs.declared.hierarchy.Secrets.{Secrets}
use Rattle.tpm_types_common.specs.Handle.{hierarchy_handle, hierarchy_of, is_persistent, numbered_handle}
use Rattle.tpm_types_common.specs.declared.handle.Handle.{Handle}
use Rattle.tpm_types_common.specs.declared.handle.HierarchyHandle.{HierarchyHandle}
use Rattle.tpm_types_nv.specs.NvAttributes.{has}
use Rattle.tpm_types_nv.specs.NvPublic.{nv_public_at, nv_public_text}
use Rattle.tpm_types_nv.specs.declared.nv_attributes.NvAttribute.TheVariants as attribute
use Rattle.tpm_types_nv.specs.declared.nv_public.NvPublic.{NvPublic}
use Rattle.tpm_types_common.specs.Filled.{filled_by}
use Rattle.tpm_types_object.specs.Public.{object_type, object_type_number, public_at, public_text}
use Rattle.tpm_types_object.specs.Sensitive.{sensitive_at, sensitive_text}
use Rattle.tpm_types_object.specs.declared.public.Public.{Public}
use Rattle.tpm_types_object.specs.declared.sensitive.Sensitive.{Sensitive}
use Rattle.tpm_image_text.specs.Fields.{auth_value_in, buffer_in, bytes_in, counted_in, counted_text, filling, in_body, is_trimmed, malformed_fault, number_in, passing, yes_no_in, yes_no_text}
use Rattle.tpm_image_text.specs.NonVolatile.{KeptState, NonVolatile}
use Rattle.tpm_image_text.specs.Version.{index_limit, profile_of, space_limit}
use Rattle.tpm_image_text.specs.declared.fault.Malformed.{Malformed}
use Rattle.tpm_image_text.specs.declared.version.Version.{Version}
use Rattle.tpm_commands.specs.declared.profile.Profile.{Profile}
use Rattle.tpm_image_text.specs.declared.version.Version.TheVariants.{One, Two, CompleteOne}

-- ---- the limits

-- the encoding of the limits: nothing in version 1 of the symmetric profile; otherwise the largest
-- number of NV indices and the largest size of their data
unfoldable pub limits_text : Version → List ℕ
limits_text One = []
limits_text Two = to_be_bytes w16 (index_limit Two) ++ to_be_bytes w32 (space_limit Two)
limits_text CompleteOne = to_be_bytes w16 (index_limit Two) ++ to_be_bytes w32 (space_limit Two)

-- whether these limits are the version's limits
abbrev pub are_limits_of : Version → (indices space : ℕ) → Bool
are_limits_of version indices space =
    indices == index_limit version && space == space_limit version

-- decodes the limits of the device
unfoldable pub device_limits_in : List ℕ → Result (Unit {0} × List ℕ) Malformed
device_limits_in text = do
  indices ← number_in w16 text
  space ← number_in w32 indices.1
  same ← refused_if (not (are_limits_of Two indices.0 space.0)) malformed_fault
  Ok (tt, space.1)

-- decodes the limits, and returns the profile of the device, which the version determines
unfoldable pub limits_in : Version → List ℕ → Result (Profile × List ℕ) Malformed
limits_in One text = Ok (profile_of One, text)
limits_in Two text = do
  limits ← device_limits_in text
  Ok (profile_of Two, limits.1)
limits_in CompleteOne text = do
  limits ← device_limits_in text
  Ok (profile_of CompleteOne, limits.1)

-- ---- the hierarchies

-- the encoding of a seed and a proof, of 32 bytes each
abbrev pub secrets_text : Secrets → List ℕ
secrets_text s = s.seed ++ s.proof

unfoldable pub secrets_in : List ℕ → Result (Secrets × List ℕ) Malformed
secrets_in text = do
  seed ← bytes_in 32 text
  proof ← bytes_in 32 seed.1
  Ok (record { seed = seed.0; proof = proof.0 }, proof.1)

-- the encoding of a hierarchy: its authorization value, its seed and its proof
abbrev pub hierarchy_text : Hierarchy → List ℕ
hierarchy_text h = sized_text h.auth_value ++ secrets_text h.secrets

unfoldable pub hierarchy_in : List ℕ → Result (Hierarchy × List ℕ) Malformed
hierarchy_in text = do
  auth_value ← auth_value_in text
  secrets ← secrets_in auth_value.1
  Ok (record { auth_value = auth_value.0; secrets = secrets.0 }, secrets.1)

-- the encoding of all hierarchies: the owner, endorsement, platform and null hierarchies, followed
-- by lockoutAuth; the authorization value of the null hierarchy is empty
unfoldable pub hierarchies_text : Hierarchies → List ℕ
hierarchies_text h =
    hierarchy_text h.owner ++ hierarchy_text h.endorsement ++ hierarchy_text h.platform
    ++ sized_text [] ++ secrets_text h.null ++ sized_text h.lockout_auth

unfoldable pub hierarchies_in : List ℕ → Result (Hierarchies × List ℕ) Malformed
hierarchies_in text = do
  owner ← hierarchy_in text
  endorsement ← hierarchy_in owner.1
  platform ← hierarchy_in endorsement.1
  null_auth ← buffer_in 0 platform.1
  null ← secrets_in null_auth.1
  lockout_auth ← auth_value_in null.1
  Ok (
    record {
      owner = owner.0;
      endorsement = endorsement.0;
      platform = platform.0;
      null = null.0;
      lockout_auth = lockout_auth.0;
    },
    lockout_auth.1,
  )

-- ---- lockout

-- the encoding of the lockout state: failedTries, maxTries, recoveryTime, lockoutRecovery, and
-- whether lockoutAuth is disabled
unfoldable pub lockout_text : LockoutFields → List ℕ
lockout_text l =
    to_be_bytes w32 l.failed_tries ++ to_be_bytes w32 l.max_tries
    ++ to_be_bytes w32 l.recovery_time ++ to_be_bytes w32 l.lockout_recovery
    ++ yes_no_text l.closed

unfoldable pub lockout_in : List ℕ → Result (LockoutFields × List ℕ) Malformed
lockout_in text = do
  failed_tries ← number_in w32 text
  max_tries ← number_in w32 failed_tries.1
  recovery_time ← number_in w32 max_tries.1
  lockout_recovery ← number_in w32 recovery_time.1
  closed ← yes_no_in lockout_recovery.1
  Ok (
    record {
      failed_tries = failed_tries.0;
      max_tries = max_tries.0;
      recovery_time = recovery_time.0;
      lockout_recovery = lockout_recovery.0;
      closed = closed.0;
    },
    closed.1,
  )

-- ---- the state that a TPM2_Shutdown saved

-- the encoding of PCRs 0 to 15: their values in the SHA-1 bank, then their values in the SHA-256
-- bank
abbrev pub values_text : SavedValues → List ℕ
values_text values =
    flat_map (λ value. value) values.sha1 ++ flat_map (λ value. value) values.sha256

-- decodes the values of sixteen PCRs, each with the given size
unfoldable pub bank_in : ℕ → List ℕ → Result (List (List ℕ) × List ℕ) Malformed
bank_in size text = many_at (bytes_in size) 16 text

unfoldable pub values_in : List ℕ → Result (SavedValues × List ℕ) Malformed
values_in text = do
  sha1 ← bank_in 20 text
  sha256 ← bank_in 32 sha1.1
  Ok (record { sha1 = sha1.0; sha256 = sha256.0 }, sha256.1)

-- the encoding of the state that a TPM2_Shutdown saved: one byte, which is 0 for nothing, 1 for
-- CLEAR and 2 for STATE; a 2 is followed by the values that STATE saves
unfoldable pub saved_text : SavedState → List ℕ
saved_text Nothing = to_be_bytes w8 0
saved_text Clear = to_be_bytes w8 1
saved_text (State values) = to_be_bytes w8 2 ++ values_text values

abbrev pub saved_values_in : List ℕ → Result (SavedState × List ℕ) Malformed
saved_values_in text = do
  values ← values_in text
  Ok (State values.0, values.1)

-- decodes the saved state, after the byte for its kind
abbrev pub saved_by_kind : ℕ → List ℕ → Result (SavedState × List ℕ) Malformed
saved_by_kind kind text =
    if kind == 0 then Ok (Nothing, text)
    else (if kind == 1 then Ok (Clear, text)
    else (if kind == 2 then saved_values_in text else Err malformed_fault))

unfoldable pub saved_in : List ℕ → Result (SavedState × List ℕ) Malformed
saved_in text = do
  kind ← number_in w8 text
  saved_by_kind kind.0 kind.1

-- ---- persistent objects

-- the sensitive area of an object
abbrev pub sensitive_of : Object → Sensitive
sensitive_of o = record {
  object_type = object_type o.public;
  auth_value = o.auth_value;
  seed_value = o.seed_value;
  sensitive = o.sensitive;
}

-- the encoding of an object: its hierarchy; then its qualified Name, its public area and its
-- sensitive area, each in a sized buffer
unfoldable pub object_fields_text : Object → List ℕ
object_fields_text o =
    to_be_bytes w32 (hierarchy_handle o.hierarchy).number
    ++ sized_text o.qualified_name
    ++ sized_text (public_text o.public) ++ sized_text (sensitive_text (sensitive_of o))

-- the encoding of a persistent object: its handle, followed by the object
unfoldable pub object_text : ℕ × Object → List ℕ
object_text e = to_be_bytes w32 e.0 ++ object_fields_text e.1

-- decodes the handle of a persistent object
unfoldable pub handle_in : List ℕ → Result (Handle × List ℕ) Malformed
handle_in text = do
  number ← number_in w32 text
  named ← refused_if (not (is_persistent (numbered_handle number.0))) malformed_fault
  Ok (numbered_handle number.0, number.1)

-- decodes the hierarchy of an object
unfoldable pub object_hierarchy_in : List ℕ → Result (HierarchyHandle × List ℕ) Malformed
object_hierarchy_in text = do
  number ← number_in w32 text
  hierarchy ← ok_or (hierarchy_of (numbered_handle number.0)) malformed_fault
  Ok (hierarchy, number.1)

-- whether a sensitive area has the type of this public area, and an authorization value that does
-- not end with a zero byte
abbrev pub is_sensitive_of : Public → Sensitive → Bool
is_sensitive_of p s =
    object_type_number s.object_type == object_type_number (object_type p)
    && is_trimmed s.auth_value

unfoldable pub sensitive_in : Public → List ℕ → Result (Sensitive × List ℕ) Malformed
sensitive_in p text = passing (is_sensitive_of p) (in_body (filled_by sensitive_at)) text

unfoldable pub object_fields_in : List ℕ → Result (Object × List ℕ) Malformed
object_fields_in text = do
  hierarchy ← object_hierarchy_in text
  qualified_name ← buffer_in 34 hierarchy.1
  public ← in_body (filled_by public_at) qualified_name.1
  sensitive ← sensitive_in public.0 public.1
  Ok (
    record {
      hierarchy = hierarchy.0;
      public = public.0;
      auth_value = sensitive.0.auth_value;
      seed_value = sensitive.0.seed_value;
      sensitive = sensitive.0.sensitive;
      qualified_name = qualified_name.0;
    },
    sensitive.1,
  )

-- whether an object can be persistent
abbrev pub is_persistable : Object → Bool
is_persistable o = can_persist o.hierarchy

unfoldable pub object_in : List ℕ → Result ((ℕ × Object) × List ℕ) Malformed
object_in text = do
  handle ← handle_in text
  object ← passing is_persistable object_fields_in handle.1
  Ok ((handle.0.number, object.0), object.1)

-- whether keys ascend: the first is at least `low`, and each later key is above the key before it
abbrev pub ascend_from : {X : Type 0} → ℕ → Entries X → Bool
ascend_from low [] = true
ascend_from low (e ∷ es) = nat_le low e.0 && ascend_from (e.0 + 1) es

-- the encoding of the persistent objects, in ascending order of handle; only reading checks the
-- limit on their number
unfoldable pub objects_text : Entries Object → List ℕ
objects_text objects = counted_text object_text objects

unfoldable pub objects_in : List ℕ → Result (Entries Object × List ℕ) Malformed
objects_in text = passing (ascend_from 0) (counted_in persistent_limit object_in) text

-- ---- NV indices

-- the encoding of an NV index: its public area (which contains the handle), its authorization value
-- and its data, each in a sized buffer
unfoldable pub index_text : ℕ × NvIndex → List ℕ
index_text e =
    sized_text (nv_public_text e.1.public) ++ sized_text e.1.auth_value ++ sized_text e.1.bytes

-- the size of an NV index's data: the size in its public area if the index has WRITTEN set,
-- otherwise 0
abbrev pub data_size : NvPublic → ℕ
data_size p = if has p.attributes attribute.Written then p.data_size else 0

-- whether the size in an NV index's public area is allowed for its type, and its data have the
-- required size
abbrev pub is_index : NvIndex → Bool
is_index index =
    has_type_size index.public && length index.bytes == data_size index.public

abbrev pub fields_of_index_in : List ℕ → Result (NvIndex × List ℕ) Malformed
fields_of_index_in text = do
  public ← in_body (filled_by nv_public_at) text
  auth_value ← auth_value_in public.1
  bytes ← buffer_in nv_data_limit auth_value.1
  Ok (
    record { public = public.0; auth_value = auth_value.0; bytes = bytes.0 },
    bytes.1,
  )

unfoldable pub index_in : List ℕ → Result ((ℕ × NvIndex) × List ℕ) Malformed
index_in text = do
  index ← passing is_index fields_of_index_in text
  Ok ((index.0.public.nv_index.number, index.0), index.1)

-- the total data size of these NV indices, with or without WRITTEN
abbrev pub bytes_of : Entries NvIndex → ℕ
bytes_of indices = sum_by (λ e. e.1.public.data_size) indices

-- whether the total data size of these NV indices is within a limit
abbrev pub have_space : (limit : ℕ) → Entries NvIndex → Bool
have_space limit indices = nat_le (bytes_of indices) limit

-- the encoding of the NV indices, in ascending order of handle; only reading checks the version's
-- limits on their number and their data
unfoldable pub indices_text : Entries NvIndex → List ℕ
indices_text indices = counted_text index_text indices

unfoldable pub indices_in : Version → List ℕ → Result (Entries NvIndex × List ℕ) Malformed
indices_in version text =
    passing (have_space (space_limit version))
    (passing (ascend_from 0) (counted_in (index_limit version) index_in)) text

-- ---- the whole body

-- the encoding of the fixed part: the hierarchies, whether TPM2_Clear is refused, lockout, Clock,
-- the counts of TPM Resets and TPM Restarts, the largest value that an NV counter ever had, and the
-- saved state
unfoldable pub state_text : KeptState → List ℕ
state_text s =
    hierarchies_text s.hierarchies ++ yes_no_text s.disable_clear ++ lockout_text s.lockout
    ++ to_be_bytes w64 s.clock
    ++ to_be_bytes w32 s.reset_count ++ to_be_bytes w32 s.restart_count
    ++ to_be_bytes w64 s.max_count
    ++ saved_text s.saved

unfoldable pub state_in : List ℕ → Result (KeptState × List ℕ) Malformed
state_in text = do
  hierarchies ← hierarchies_in text
  disable_clear ← yes_no_in hierarchies.1
  lockout ← lockout_in disable_clear.1
  clock ← number_in w64 lockout.1
  reset_count ← number_in w32 clock.1
  restart_count ← number_in w32 reset_count.1
  max_count ← number_in w64 restart_count.1
  saved ← saved_in max_count.1
  Ok (
    record {
      hierarchies = hierarchies.0;
      disable_clear = disable_clear.0;
      lockout = lockout.0;
      clock = clock.0;
      reset_count = reset_count.0;
      restart_count = restart_count.0;
      max_count = max_count.0;
      saved = saved.0;
    },
    saved.1,
  )

-- the encoding of a body: the limits, the fixed part, the persistent objects and the NV indices
unfoldable pub image_body_text : Version → NonVolatile → List ℕ
image_body_text version kept =
    limits_text version ++ state_text kept.state ++ objects_text kept.persistent
    ++ indices_text kept.indices

unfoldable pub kept_in : Version → List ℕ → Result (NonVolatile × List ℕ) Malformed
kept_in version text = do
  limits ← limits_in version text
  state ← state_in limits.1
  persistent ← objects_in state.1
  indices ← indices_in version persistent.1
  Ok (
    record {
      profile = limits.0;
      state = state.0;
      persistent = persistent.0;
      indices = indices.0;
    },
    indices.1,
  )

-- the non-volatile state that a body encodes; further bytes make the body malformed
unfoldable pub body_of : Version → List ℕ → Result NonVolatile Malformed
body_of version text = filling (kept_in version) text
