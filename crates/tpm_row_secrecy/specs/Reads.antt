-- The commands that read secret data. TPM 2.0 Library, Part 3, sections 12.7 (TPM2_Unseal), 15.5
-- (TPM2_HMAC), 23.9 (TPM2_PolicyNV), 30.2 (TPM2_GetCapability), 31.8 (TPM2_NV_Increment) and 31.13
-- (TPM2_NV_Read).
use Rattle.std.specs.Option.{option_map_or}
use Rattle.std.specs.Prelude.{Bool, Err, List, Ok, Result, false, is_ok, nat_le, nat_lt, not, ℕ, ◌&&◌, ◌||◌}
use Rattle.tpm_actions_capability.specs.Element.{found_count}
use Rattle.tpm_actions_capability.specs.GetCapability.{capability_of, capability_parameters}
use Rattle.tpm_actions_capability.specs.Properties.{fixed_elements}
use Rattle.tpm_actions_capability.specs.declared.get_capability.Capability.{Capability}
use Rattle.tpm_actions_capability.specs.declared.get_capability.CapabilityParameters.{CapabilityParameters}
use Rattle.tpm_actions_object.specs.Hmac.{hmac_row}
use Rattle.tpm_actions_object.specs.Unseal.{unseal_row}
use Rattle.tpm_bytes.specs.Reading.{◌>>=◌}
use Rattle.tpm_commands.specs.declared.command_code.CommandCode.{CommandCode}
use Rattle.tpm_commands.specs.declared.profile.Profile.{Profile}
use Rattle.tpm_commands.specs.declared.profile.Profile.TheVariants.{Complete, Symmetric}
use Rattle.tpm_nv.specs.Index.{NvIndex, index_at}
use Rattle.tpm_nvactions.specs.NvRead.{nv_read_row}
use Rattle.tpm_record.specs.Entity.{object_of}
use Rattle.tpm_record.specs.Record.{Record}
use Rattle.tpm_record.specs.rows.Request.{Request, first_handle, second_handle, third_handle}
use Rattle.tpm_session.specs.Sessions.{session_at}
use Rattle.tpm_session.specs.declared.session.Session.{Session}
use Rattle.tpm_types_common.specs.SessionType.{is_trial}
use Rattle.tpm_types_common.specs.declared.handle.Handle.{Handle}
use Rattle.tpm_types_common.specs.declared.refused.Refused.{Refused}
use Rattle.tpm_types_nv.specs.NvAttributes.{is_of}
use Rattle.tpm_row_secrecy.specs.Secrecy.{Secrecy, has_secret_data}
use Rattle.tpm_actions_capability.specs.declared.get_capability.Capability.TheVariants as capability
use Rattle.tpm_commands.specs.declared.command_code.CommandCode.TheVariants as command
use Rattle.tpm_types_common.specs.declared.handle.HierarchyAuth.TheVariants as auth
use Rattle.tpm_types_nv.specs.declared.nv_type.NvType.TheVariants as type

-- whether a command's handle is present and passes a test
abbrev pub handle_passes : (Handle → Bool) → Result Handle Refused → Bool
handle_passes test (Ok handle) = test handle
handle_passes test (Err e) = false

-- whether a handle names an object with secret sealed data, or with a secret key
abbrev pub names_secret_object : Secrecy → Record → Handle → Bool
names_secret_object s r handle = option_map_or (has_secret_data s) (object_of r handle) false

-- whether the data of an NV index is secret
abbrev pub is_secret_index : Secrecy → NvIndex → Bool
is_secret_index s i = s.index_data i.public.nv_index.number

-- whether an NV index is a counter with a secret value
abbrev pub is_secret_counter : Secrecy → NvIndex → Bool
is_secret_counter s i = is_secret_index s i && is_of i.public.attributes type.Counter

-- whether a handle names an NV index that passes a test
abbrev pub names_index : (NvIndex → Bool) → Record → Handle → Bool
names_index test r handle = option_map_or test (index_at r.nv handle) false

-- whether a handle names a policy session that is not a trial session
abbrev pub names_policy_session : Record → Handle → Bool
names_policy_session r handle =
    option_map_or (λ (x : Session). not (is_trial x.kind)) (session_at r.sessions handle) false

-- whether ownerAuth, endorsementAuth or lockoutAuth is secret
abbrev pub has_secret_auth : Secrecy → Bool
has_secret_auth s =
    s.hierarchy_values auth.Owner
    || (s.hierarchy_values auth.Endorsement || s.hierarchy_values auth.Lockout)

-- whether a list of a device of this profile contains TPM_PT_PERMANENT (200), which says which of
-- ownerAuth, endorsementAuth and lockoutAuth are empty: it is the list of properties of a complete
-- device, begins with no later property, and has room for the properties before this one
abbrev pub lists_permanent : Profile → CapabilityParameters → Capability → Bool
lists_permanent Complete p capability.Properties =
    nat_le p.property 0x200 && nat_lt (found_count p.property fixed_elements) p.count
lists_permanent Complete p _ = false
lists_permanent Symmetric p c = false

-- the truth value, or false after a refusal
abbrev pub is_true : Result Bool Refused → Bool
is_true (Ok b) = b
is_true (Err e) = false

-- whether TPM2_GetCapability with these parameters lists TPM_PT_PERMANENT
abbrev pub asks_permanent : Profile → (parameters : List ℕ) → Bool
asks_permanent profile parameters = is_true (do
  p ← capability_parameters parameters
  c ← capability_of profile p.capability
  Ok (lists_permanent profile p c))

-- Whether an authorized command reads secret data. An accepted TPM2_Unseal or TPM2_HMAC reads the
-- data of its object, and an accepted TPM2_NV_Read reads the data of its NV index. If one of these
-- commands is refused, it reveals nothing. TPM2_PolicyNV on a policy session compares the data of
-- its index, and a failed comparison also reveals something about the data. TPM2_NV_Increment reads
-- the value of the counter, because the command is refused if the next value would exceed 2^64 - 1.
-- The command may also raise the largest value that any counter has ever had, which is not secret.
-- TPM2_GetCapability on a complete device reads whether three authorization values are empty, if it
-- lists TPM_PT_PERMANENT. No other command reads secret data.
abbrev pub reads_secret : Secrecy → Record → CommandCode → Request → Bool
reads_secret s r command.Unseal q =
    handle_passes (names_secret_object s r) (first_handle q.handles) && is_ok (unseal_row r q)
reads_secret s r command.Hmac q =
    handle_passes (names_secret_object s r) (first_handle q.handles) && is_ok (hmac_row r q)
reads_secret s r command.NvRead q =
    handle_passes (names_index (is_secret_index s) r) (second_handle q.handles)
    && is_ok (nv_read_row r q)
reads_secret s r command.PolicyNv q =
    handle_passes (names_index (is_secret_index s) r) (second_handle q.handles)
    && handle_passes (names_policy_session r) (third_handle q.handles)
reads_secret s r command.NvIncrement q =
    handle_passes (names_index (is_secret_counter s) r) (second_handle q.handles)
reads_secret s r command.GetCapability q =
    has_secret_auth s && asks_permanent r.fixed.profile q.parameters
reads_secret s r _ q = false
