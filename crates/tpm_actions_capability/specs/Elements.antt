-- The handles and the commands of a device, in ascending order. TPM 2.0 Library, Part 2,
-- sections 6.12 (TPM_CAP), 7.4 (TPM_RH) and 8.9 (TPMA_CC), and Part 3, section 30.2.
use Rattle.tpm_types_common.specs.Limits.{object_limit, session_limit}
use Rattle.tpm_bytes.specs.Numbers.{numbers_below}
use Rattle.std.specs.Prelude.{ℕ, ◌+◌, ◌*◌, ◌^◌, List, [], ◌∷◌, is_some, length, map, if◌then◌else◌}
use Rattle.std.specs.List.{flat_map}
use Rattle.std.specs.Option.{option_map_or}
use Rattle.tpm_nv.specs.Head.{heads_of}
use Rattle.tpm_containers.specs.Numbered.{number_of}
use Rattle.tpm_containers.specs.Slots.{at_place}
use Rattle.tpm_session.specs.Sessions.{handle_of}
use Rattle.tpm_session.specs.declared.session.Session.{Session}
use Rattle.tpm_types_common.specs.Handle.{endorsement_handle, lockout_handle, null_handle, numbered_handle, owner_handle, password_handle, platform_handle}
use Rattle.tpm_types_common.specs.declared.handle.Handle.{Handle}
use Rattle.tpm_commands.specs.CommandCode.{code_number, serves, shape_of}
use Rattle.tpm_commands.specs.CommandFacts.{all_codes}
use Rattle.tpm_commands.specs.declared.command_code.CommandCode.{CommandCode}
use Rattle.tpm_commands.specs.declared.profile.Profile.{Profile}
use Rattle.tpm_record.specs.Objects.{object_at}
use Rattle.tpm_record.specs.Record.{Record}
use Rattle.tpm_actions_capability.specs.Element.{by_itself, if_there}
use Rattle.tpm_actions_capability.specs.declared.element.Element.{Element}

-- ---- handles, by the highest byte of the first requested handle

-- the handles of type 00: the PCRs
abbrev pub pcr_elements : List Element
pcr_elements = map by_itself (numbers_below 24)

-- the handles of type 01: the NV indices
abbrev pub index_elements : Record → List Element
index_elements r = map (λ e. by_itself e.0) (heads_of r.nv)

-- the handles of type 40, which always name an entity: the hierarchies, TPM_RH_NULL, lockout and
-- the password session
abbrev pub permanent_elements : List Element
permanent_elements =
    by_itself owner_handle.number
    ∷ by_itself null_handle.number
    ∷ by_itself password_handle.number
    ∷ by_itself lockout_handle.number
    ∷ by_itself endorsement_handle.number
    ∷ by_itself platform_handle.number
    ∷ []

-- the session in this slot, if the slot is taken. The slot number is compared with the requested
-- property, but the listed value is the handle
abbrev pub session_element : Record → (place : ℕ) → List Element
session_element r place =
    option_map_or (λ (s : Session). record { number = place; told = (handle_of s.kind place).number } ∷ [])
    (at_place r.sessions place) []

-- the handles of types 02 and 03: the sessions of every type, in the order of their slots
abbrev pub session_elements : Record → List Element
session_elements r = flat_map (session_element r) (numbers_below session_limit)

-- the transient object in this slot, if the slot is taken
abbrev pub object_element : Record → ℕ → List Element
object_element r place =
    let handle : Handle = numbered_handle (number_of 0x80 place) in
    if_there (is_some (object_at r.objects handle)) (by_itself handle.number)

-- the handles of type 80: the transient objects
abbrev pub object_elements : Record → List Element
object_elements r = flat_map (object_element r) (numbers_below object_limit)

-- the handles of type 81: the persistent objects
abbrev pub persistent_elements : Record → List Element
persistent_elements r = map (λ e. by_itself e.0) r.persistent

-- ---- commands, with their attributes

-- the attributes of a command (TPMA_CC): its number in bits 0 to 15; the number of its handles in
-- bits 25 to 27; in bit 28, whether its response contains a handle; the other bits are 0
abbrev pub command_attributes : CommandCode → ℕ
command_attributes code =
    code_number code + 2 ^ 25 * length (shape_of code).handles
    + (if (shape_of code).answers_handle then 2 ^ 28 else 0)

abbrev pub command_element : CommandCode → Element
command_element code =
    record { number = code_number code; told = command_attributes code }

-- the element of a command, if a device of this profile serves the command
abbrev pub served_element : Profile → CommandCode → List Element
served_element profile code = if_there (serves profile code) (command_element code)

abbrev pub command_elements : Profile → List Element
command_elements profile = flat_map (served_element profile) all_codes
