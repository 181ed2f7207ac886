-- The facts about each supported command: its number (TPM 2.0 Library, Part 2, section 6.5.2:
-- TPM_CC), its name, the part of the device's state that it may change if it succeeds, and its
-- shape (the command's section in Part 3).
use Rattle.tpm_types_common.specs.Limits.{data_limit}
use Rattle.std.specs.Prelude.{ℕ, true, List, [], ◌∷◌, codes}
use Prim.Native.String.{String}
use Rattle.tpm_commands.specs.declared.command_code.CommandCode.{CommandCode}
use Rattle.tpm_commands.specs.declared.command_code.CommandCode.TheVariants as code
use Rattle.tpm_commands.specs.declared.shape.HandleKind.TheVariants as kind
use Rattle.tpm_commands.specs.declared.shape.HandleRule.{HandleRule}
use Rattle.tpm_commands.specs.declared.shape.ParameterKind.{ParameterKind}
use Rattle.tpm_commands.specs.declared.shape.ParameterKind.TheVariants as parameter
use Rattle.tpm_commands.specs.Part.{Part, Nothing, Sessions, Objects, SessionsAndObjects, Persistent, NvData}
use Rattle.tpm_commands.specs.Part.{NvCounter, NvAuthValue, NvDefined, NvUndefined, AuthValues, Lockout, Banks}
use Rattle.tpm_commands.specs.Part.{Beginning, Saved, DisableClear, Clock, Cleared}
use Rattle.tpm_commands.specs.Shape.{Facts, admin, rule_without_role, shape_with, user}

pub record CommandFacts : Type 0 where
  pub number : ℕ
  pub name : List ℕ
  pub part : Part
  pub shape : Facts

-- a line of the command table. The name is the title of the command's section without "TPM2_"
abbrev pub facts : (number : ℕ) → (name : String) → Part → Facts → CommandFacts
facts number name part shape = record {
  number = number;
  name = codes name;
  part = part;
  shape = shape;
}

-- ---- the words used in the table of commands

-- the shape of a command whose response parameters start with a sized buffer
abbrev pub answering : Facts → Facts
answering shape = record shape { sized_answer = true }

-- the shape of a command that, if it succeeds, preserves the state that TPM2_Shutdown saved
abbrev pub keeping : Facts → Facts
keeping shape = record shape { keeps_shutdown = true }

-- the shape of a command that can run out of memory
abbrev pub growing : Facts → Facts
growing shape = record shape { grows = true }

-- the shape of a command that reads the NV index that authorizes it
abbrev pub reading : Facts → Facts
reading shape = record shape { reads_nv = true }

-- the shape of a command that does not allow sessions
abbrev pub without_sessions : Facts → Facts
without_sessions shape = record shape { forbids_sessions = true }

-- the shape of a command that only a device of the complete profile serves
abbrev pub of_complete : Facts → Facts
of_complete shape = record shape { complete_only = true }

-- the shape of a command that creates a session or an object, and can run out of memory. The
-- command returns the new handle, followed by a sized buffer
abbrev pub making : Facts → Facts
making shape = record shape { sized_answer = true; answers_handle = true; grows = true }

-- the shape of a command whose only handle names an object and is authorized in the role USER. Its
-- response parameters start with a sized buffer
abbrev pub on_object : List ParameterKind → Facts
on_object parameters = answering (shape_with (user kind.Object ∷ []) parameters)

-- the shape of a command whose only handle names a policy session
abbrev pub on_policy : List ParameterKind → Facts
on_policy parameters = shape_with (rule_without_role kind.PolicySession ∷ []) parameters

-- the shape of a command that lockoutAuth authorizes. Its handle is lockHandle
abbrev pub on_lockout : List ParameterKind → Facts
on_lockout parameters = shape_with (user kind.Lockout ∷ []) parameters

-- the shape of a command that lockoutAuth or the platform authorizes. Its handle is authHandle
abbrev pub on_clear : List ParameterKind → Facts
on_clear parameters = shape_with (user kind.Clear ∷ []) parameters

-- the shape of a command on an NV index. Its handles are authHandle, which is authorized, and
-- nvIndex
abbrev pub on_nv : List ParameterKind → Facts
on_nv parameters = shape_with (user kind.NvAuth ∷ rule_without_role kind.NvIndex ∷ []) parameters

-- the shape of a command that reads an NV index. Its handles are authHandle and nvIndex
abbrev pub on_read_nv : List ParameterKind → Facts
on_read_nv parameters = reading (on_nv parameters)

-- the handles of TPM2_StartAuthSession: tpmKey, which must be TPM_RH_NULL, and bind
abbrev pub start_handles : List HandleRule
start_handles = rule_without_role kind.Null ∷ rule_without_role kind.Entity ∷ []

-- the parameters of TPM2_StartAuthSession: nonceCaller, encryptedSalt (at most 32 bytes, because
-- there is no key that can decrypt a salt), sessionType, symmetric, authHash
abbrev pub start_parameters : List ParameterKind
start_parameters =
    parameter.Buffer 32 ∷ parameter.Buffer 32 ∷ parameter.SessionType
    ∷ parameter.Symmetric ∷ parameter.Hash ∷ []

-- the parameters of TPM2_CreatePrimary and TPM2_Create: inSensitive, inPublic, outsideInfo,
-- creationPCR
abbrev pub create_parameters : List ParameterKind
create_parameters =
    parameter.SensitiveCreate ∷ parameter.Public ∷ parameter.Buffer 34 ∷ parameter.Selection ∷ []

-- the parameters of TPM2_NV_DefineSpace: auth, publicInfo
abbrev pub define_parameters : List ParameterKind
define_parameters = parameter.Buffer 32 ∷ parameter.NvPublic ∷ []

-- the parameters of TPM2_Hash: data, hashAlg, hierarchy
abbrev pub hash_parameters : List ParameterKind
hash_parameters = parameter.Buffer data_limit ∷ parameter.Hash ∷ parameter.Hierarchy ∷ []

-- the handles of TPM2_PolicySecret: authHandle, policySession
abbrev pub secret_handles : List HandleRule
secret_handles = user kind.EntityNotNull ∷ rule_without_role kind.PolicySession ∷ []

-- the parameters of TPM2_PolicySecret: nonceTPM, cpHashA, policyRef, expiration
abbrev pub secret_parameters : List ParameterKind
secret_parameters =
    parameter.Buffer 32 ∷ parameter.Buffer 32 ∷ parameter.Buffer 32 ∷ parameter.U32 ∷ []

-- the handles of TPM2_EvictControl: auth, objectHandle
abbrev pub evict_handles : List HandleRule
evict_handles = user kind.Provision ∷ rule_without_role kind.Object ∷ []

-- the handles of TPM2_PolicyNV: authHandle, nvIndex, policySession
abbrev pub compared_handles : List HandleRule
compared_handles =
    user kind.NvAuth ∷ rule_without_role kind.NvIndex ∷ rule_without_role kind.PolicySession ∷ []

-- the parameters of TPM2_PolicyNV: operandB, offset, operation
abbrev pub compared_parameters : List ParameterKind
compared_parameters = parameter.Buffer 32 ∷ parameter.U16 ∷ parameter.Operation ∷ []

-- the table of commands
abbrev pub command_facts : CommandCode → CommandFacts
command_facts code.EvictControl =
    facts 0x120 "EvictControl" Persistent
    (growing (shape_with evict_handles (parameter.PersistentHandle ∷ [])))
command_facts code.NvUndefineSpace =
    facts 0x122 "NV_UndefineSpace" NvUndefined
    (shape_with (user kind.Provision ∷ rule_without_role kind.NvIndex ∷ []) [])
command_facts code.Clear = facts 0x126 "Clear" Cleared (on_clear [])
command_facts code.ClearControl =
    facts 0x127 "ClearControl" DisableClear (on_clear (parameter.YesNo ∷ []))
command_facts code.ClockSet =
    facts 0x128 "ClockSet" Clock
    (of_complete (shape_with (user kind.Provision ∷ []) (parameter.U64 ∷ [])))
command_facts code.HierarchyChangeAuth =
    facts 0x129 "HierarchyChangeAuth" AuthValues
    (shape_with (user kind.HierarchyAuth ∷ []) (parameter.Buffer 32 ∷ []))
command_facts code.NvDefineSpace =
    facts 0x12a "NV_DefineSpace" NvDefined
    (growing (shape_with (user kind.Provision ∷ []) define_parameters))
command_facts code.ClockRateAdjust =
    facts 0x130 "ClockRateAdjust" Nothing
    (of_complete (keeping (shape_with (user kind.Provision ∷ []) (parameter.U8 ∷ []))))
command_facts code.CreatePrimary =
    facts 0x131 "CreatePrimary" Objects
    (making (shape_with (user kind.Hierarchy ∷ []) create_parameters))
command_facts code.NvIncrement = facts 0x134 "NV_Increment" NvCounter (on_nv [])
command_facts code.NvSetBits = facts 0x135 "NV_SetBits" NvData (on_nv (parameter.U64 ∷ []))
command_facts code.NvExtend =
    facts 0x136 "NV_Extend" NvData (on_nv (parameter.Buffer data_limit ∷ []))
command_facts code.NvWrite =
    facts 0x137 "NV_Write" NvData (on_nv (parameter.Buffer data_limit ∷ parameter.U16 ∷ []))
command_facts code.NvWriteLock = facts 0x138 "NV_WriteLock" NvData (on_nv [])
command_facts code.DictionaryAttackLockReset =
    facts 0x139 "DictionaryAttackLockReset" Lockout (on_lockout [])
command_facts code.DictionaryAttackParameters =
    facts 0x13a "DictionaryAttackParameters" Lockout
    (on_lockout (parameter.U32 ∷ parameter.U32 ∷ parameter.U32 ∷ []))
command_facts code.NvChangeAuth =
    facts 0x13b "NV_ChangeAuth" NvAuthValue
    (shape_with (admin kind.NvIndex ∷ []) (parameter.Buffer 32 ∷ []))
command_facts code.PcrEvent =
    facts 0x13c "PCR_Event" Banks
    (shape_with (user kind.PcrOrNull ∷ []) (parameter.Buffer data_limit ∷ []))
command_facts code.PcrReset = facts 0x13d "PCR_Reset" Banks (shape_with (user kind.Pcr ∷ []) [])
command_facts code.IncrementalSelfTest =
    facts 0x142 "IncrementalSelfTest" Nothing
    (of_complete (keeping (shape_with [] (parameter.AlgorithmList ∷ []))))
command_facts code.SelfTest =
    facts 0x143 "SelfTest" Nothing (keeping (shape_with [] (parameter.YesNo ∷ [])))
command_facts code.Startup =
    facts 0x144 "Startup" Beginning (without_sessions (shape_with [] (parameter.StartupType ∷ [])))
command_facts code.Shutdown =
    facts 0x145 "Shutdown" Saved (keeping (shape_with [] (parameter.StartupType ∷ [])))
command_facts code.StirRandom =
    facts 0x146 "StirRandom" Nothing
    (of_complete (keeping (shape_with [] (parameter.Buffer 128 ∷ []))))
command_facts code.PolicyNv =
    facts 0x149 "PolicyNV" Sessions (reading (shape_with compared_handles compared_parameters))
command_facts code.NvRead =
    facts 0x14e "NV_Read" Nothing
    (keeping (answering (on_read_nv (parameter.U16 ∷ parameter.U16 ∷ []))))
command_facts code.NvReadLock = facts 0x14f "NV_ReadLock" NvData (on_read_nv [])
command_facts code.PolicySecret =
    facts 0x151 "PolicySecret" Sessions
    (reading (answering (shape_with secret_handles secret_parameters)))
command_facts code.Create = facts 0x153 "Create" Nothing (keeping (on_object create_parameters))
command_facts code.Hmac =
    facts 0x155 "HMAC" Nothing
    (keeping (on_object (parameter.Buffer data_limit ∷ parameter.HashOrNull ∷ [])))
command_facts code.Load =
    facts 0x157 "Load" Objects (making (on_object (parameter.Buffer 256 ∷ parameter.Public ∷ [])))
command_facts code.Unseal = facts 0x15e "Unseal" Nothing (keeping (on_object []))
command_facts code.FlushContext =
    facts 0x165 "FlushContext" SessionsAndObjects
    (without_sessions (shape_with [] (parameter.U32 ∷ [])))
command_facts code.NvReadPublic =
    facts 0x169 "NV_ReadPublic" Nothing
    (keeping (answering (shape_with (rule_without_role kind.NvIndex ∷ []) [])))
command_facts code.PolicyAuthValue = facts 0x16b "PolicyAuthValue" Sessions (on_policy [])
command_facts code.PolicyCommandCode =
    facts 0x16c "PolicyCommandCode" Sessions (on_policy (parameter.U32 ∷ []))
command_facts code.PolicyCpHash =
    facts 0x16e "PolicyCpHash" Sessions (on_policy (parameter.Buffer 32 ∷ []))
command_facts code.PolicyLocality =
    facts 0x16f "PolicyLocality" Sessions (on_policy (parameter.U8 ∷ []))
command_facts code.PolicyOr =
    facts 0x171 "PolicyOR" Sessions (on_policy (parameter.DigestList ∷ []))
command_facts code.ReadPublic =
    facts 0x173 "ReadPublic" Nothing
    (keeping (answering (shape_with (rule_without_role kind.Object ∷ []) [])))
command_facts code.StartAuthSession =
    facts 0x176 "StartAuthSession" Sessions (making (shape_with start_handles start_parameters))
command_facts code.GetCapability =
    facts 0x17a "GetCapability" Nothing
    (keeping (shape_with [] (parameter.U32 ∷ parameter.U32 ∷ parameter.U32 ∷ [])))
command_facts code.GetRandom =
    facts 0x17b "GetRandom" Nothing (keeping (answering (shape_with [] (parameter.U16 ∷ []))))
command_facts code.GetTestResult =
    facts 0x17c "GetTestResult" Nothing
    (of_complete (keeping (answering (shape_with [] []))))
command_facts code.Hash =
    facts 0x17d "Hash" Nothing
    (of_complete (keeping (answering (shape_with [] hash_parameters))))
command_facts code.PcrRead =
    facts 0x17e "PCR_Read" Nothing (keeping (shape_with [] (parameter.Selection ∷ [])))
command_facts code.PolicyPcr =
    facts 0x17f "PolicyPCR" Sessions (on_policy (parameter.Buffer 32 ∷ parameter.Selection ∷ []))
command_facts code.PolicyRestart = facts 0x180 "PolicyRestart" Sessions (on_policy [])
command_facts code.ReadClock =
    facts 0x181 "ReadClock" Nothing (without_sessions (keeping (shape_with [] [])))
command_facts code.PcrExtend =
    facts 0x182 "PCR_Extend" Banks (shape_with (user kind.PcrOrNull ∷ []) (parameter.Digests ∷ []))
command_facts code.PolicyGetDigest =
    facts 0x189 "PolicyGetDigest" Nothing (keeping (answering (on_policy [])))
command_facts code.TestParms =
    facts 0x18a "TestParms" Nothing
    (of_complete (keeping (shape_with [] (parameter.PublicParameters ∷ []))))
command_facts code.PolicyPassword = facts 0x18c "PolicyPassword" Sessions (on_policy [])
command_facts code.PolicyNvWritten =
    facts 0x18f "PolicyNvWritten" Sessions (on_policy (parameter.YesNo ∷ []))

-- all supported commands, in ascending order of number
abbrev pub all_codes : List CommandCode
all_codes =
    code.EvictControl
    ∷ code.NvUndefineSpace
    ∷ code.Clear
    ∷ code.ClearControl
    ∷ code.ClockSet
    ∷ code.HierarchyChangeAuth
    ∷ code.NvDefineSpace
    ∷ code.ClockRateAdjust
    ∷ code.CreatePrimary
    ∷ code.NvIncrement
    ∷ code.NvSetBits
    ∷ code.NvExtend
    ∷ code.NvWrite
    ∷ code.NvWriteLock
    ∷ code.DictionaryAttackLockReset
    ∷ code.DictionaryAttackParameters
    ∷ code.NvChangeAuth
    ∷ code.PcrEvent
    ∷ code.PcrReset
    ∷ code.IncrementalSelfTest
    ∷ code.SelfTest
    ∷ code.Startup
    ∷ code.Shutdown
    ∷ code.StirRandom
    ∷ code.PolicyNv
    ∷ code.NvRead
    ∷ code.NvReadLock
    ∷ code.PolicySecret
    ∷ code.Create
    ∷ code.Hmac
    ∷ code.Load
    ∷ code.Unseal
    ∷ code.FlushContext
    ∷ code.NvReadPublic
    ∷ code.PolicyAuthValue
    ∷ code.PolicyCommandCode
    ∷ code.PolicyCpHash
    ∷ code.PolicyLocality
    ∷ code.PolicyOr
    ∷ code.ReadPublic
    ∷ code.StartAuthSession
    ∷ code.GetCapability
    ∷ code.GetRandom
    ∷ code.GetTestResult
    ∷ code.Hash
    ∷ code.PcrRead
    ∷ code.PolicyPcr
    ∷ code.PolicyRestart
    ∷ code.ReadClock
    ∷ code.PcrExtend
    ∷ code.PolicyGetDigest
    ∷ code.TestParms
    ∷ code.PolicyPassword
    ∷ code.PolicyNvWritten
    ∷ []
