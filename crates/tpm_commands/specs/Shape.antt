-- The shape of a command: every fact about it except its number, its name and its effect. TPM 2.0
-- Library, Part 3, the tables in each command's section: its handles and how they are authorized,
-- its parameters, and whether it allows sessions.
use Rattle.std.specs.Prelude.{◌==◌, ◌||◌, ◌&&◌, not, is_some, Bool, true, false, List, Some, None}
use Rattle.tpm_types_common.specs.declared.handle.Handle.{Handle}
use Rattle.tpm_commands.specs.declared.shape.HandleKind.{HandleKind}
use Rattle.tpm_commands.specs.declared.shape.HandleKind.TheVariants as kind
use Rattle.tpm_commands.specs.declared.shape.HandleRule.{HandleRule}
use Rattle.tpm_commands.specs.declared.shape.ParameterKind.{ParameterKind}
use Rattle.tpm_commands.specs.declared.shape.ParameterKind.TheVariants as parameter
use Rattle.tpm_types_common.specs.declared.role.Role.TheVariants as role
use Rattle.tpm_commands.specs.declared.shape.Shape.{Shape}
use Rattle.tpm_types_common.specs.Handle.{hierarchy_auth_of, hierarchy_of, is_nv_index, is_persistent, is_policy_session, is_transient, lockout_handle, null_handle, owner_handle, pcr_of, platform_handle}

-- whether a handle is TPM_RH_NULL or has the type of an entity with an authorization value
-- (TPMI_DH_ENTITY): a hierarchy or lockout, a PCR, an NV index (01), a transient object (80) or a
-- persistent object (81). The entity need not exist
abbrev pub is_entity : Handle → Bool
is_entity handle =
    handle.number == null_handle.number || is_some (hierarchy_auth_of handle) || is_some (pcr_of handle)
    || is_nv_index handle || is_transient handle || is_persistent handle

-- whether a handle names the owner or the platform (TPMI_RH_PROVISION)
abbrev pub is_provision : Handle → Bool
is_provision handle =
    handle.number == owner_handle.number || handle.number == platform_handle.number

-- whether a handle is of this kind (Part 2, section 9). The kinds, in order: a PCR (TPMI_DH_PCR); a
-- PCR or TPM_RH_NULL; only TPM_RH_NULL (the standard also allows a key); a hierarchy or lockout
-- (TPMI_RH_HIERARCHY_AUTH); a hierarchy or TPM_RH_NULL (TPMI_RH_HIERARCHY+); an entity
-- (TPMI_DH_ENTITY), with or without TPM_RH_NULL; a transient or persistent object, which need not
-- exist (TPMI_DH_OBJECT); a policy session or a trial session (03: TPMI_SH_POLICY); the owner or
-- the platform; lockout (TPMI_RH_LOCKOUT); lockout or the platform (TPMI_RH_CLEAR); the owner, the
-- platform or an NV index (TPMI_RH_NV_AUTH); an NV index, which need not exist (TPMI_RH_NV_INDEX)
abbrev pub is_of_kind : HandleKind → Handle → Bool
is_of_kind kind.Pcr handle = is_some (pcr_of handle)
is_of_kind kind.PcrOrNull handle = is_some (pcr_of handle) || handle.number == null_handle.number
is_of_kind kind.Null handle = handle.number == null_handle.number
is_of_kind kind.HierarchyAuth handle = is_some (hierarchy_auth_of handle)
is_of_kind kind.Hierarchy handle = is_some (hierarchy_of handle)
is_of_kind kind.Entity handle = is_entity handle
is_of_kind kind.EntityNotNull handle =
    is_entity handle && not (handle.number == null_handle.number)
is_of_kind kind.Object handle = is_transient handle || is_persistent handle
is_of_kind kind.PolicySession handle = is_policy_session handle
is_of_kind kind.Provision handle = is_provision handle
is_of_kind kind.Lockout handle = handle.number == lockout_handle.number
is_of_kind kind.Clear handle =
    handle.number == lockout_handle.number || handle.number == platform_handle.number
is_of_kind kind.NvAuth handle = is_provision handle || is_nv_index handle
is_of_kind kind.NvIndex handle = is_nv_index handle

-- whether a parameter is a sized buffer (TPM2B of Part 2, section 10.4)
abbrev pub is_sized : ParameterKind → Bool
is_sized (parameter.Buffer most) = true
is_sized parameter.SensitiveCreate = true
is_sized parameter.Public = true
is_sized parameter.NvPublic = true
is_sized parameter.StartupType = false
is_sized parameter.SessionType = false
is_sized parameter.U8 = false
is_sized parameter.U16 = false
is_sized parameter.U32 = false
is_sized parameter.U64 = false
is_sized parameter.Hash = false
is_sized parameter.HashOrNull = false
is_sized parameter.Symmetric = false
is_sized parameter.Selection = false
is_sized parameter.Digests = false
is_sized parameter.DigestList = false
is_sized parameter.Operation = false
is_sized parameter.PersistentHandle = false
is_sized parameter.Hierarchy = false
is_sized parameter.AlgorithmList = false
is_sized parameter.PublicParameters = false
is_sized parameter.YesNo = false

-- the shape of a command, as a value: it has lists where `Shape` has slices
pub record Facts : Type 0 where
  -- the command's handles, and how each handle is authorized
  pub handles : List HandleRule
  -- the kinds of the command's parameters
  pub parameters : List ParameterKind
  -- whether the first parameter of the response is a sized buffer
  pub sized_answer : Bool
  -- whether a handle precedes the response's parameters
  pub answers_handle : Bool
  -- whether the command forbids an authorization area
  pub forbids_sessions : Bool
  -- whether the command can run out of memory
  pub grows : Bool
  -- whether the command, if an NV index authorizes it, reads that index. If false, the command
  -- writes the index, or administers it in the role ADMIN
  pub reads_nv : Bool
  -- whether the command, if it succeeds, preserves the state that TPM2_Shutdown saved. If false,
  -- the command's success discards that state (Part 3, section 9.4)
  pub keeps_shutdown : Bool
  -- whether only a device of the complete profile serves the command
  pub complete_only : Bool

abbrev pub facts_of : Shape → Facts
facts_of s = record {
  handles = s.handles.now;
  parameters = s.parameters.now;
  sized_answer = s.sized_answer;
  answers_handle = s.answers_handle;
  forbids_sessions = s.forbids_sessions;
  grows = s.grows;
  reads_nv = s.reads_nv;
  keeps_shutdown = s.keeps_shutdown;
  complete_only = s.complete_only;
}

-- the rule for a handle that is authorized in the role USER
abbrev pub user : HandleKind → HandleRule
user kind = record { kind = kind; role = Some role.User }

-- the rule for a handle that is authorized in the role ADMIN
abbrev pub admin : HandleKind → HandleRule
admin kind = record { kind = kind; role = Some role.Admin }

-- the rule for a handle that needs no authorization
abbrev pub rule_without_role : HandleKind → HandleRule
rule_without_role kind = record { kind = kind; role = None }

-- a shape with these handles and parameters, in which all other facts are false
abbrev pub shape_with : List HandleRule → List ParameterKind → Facts
shape_with handles parameters = record {
  handles = handles;
  parameters = parameters;
  sized_answer = false;
  answers_handle = false;
  forbids_sessions = false;
  grows = false;
  reads_nv = false;
  keeps_shutdown = false;
  complete_only = false;
}
