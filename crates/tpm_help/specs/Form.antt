-- The form of a command in words: its name, and a word for each of its handles and parameters.
use Rattle.std.specs.Prelude.{ℕ, is_some, List, ◌++◌, codes, if◌then◌else◌}
use Rattle.std.specs.List.{flat_map}
use Rattle.tpm_commands.specs.CommandCode.{code_name, shape_of}
use Rattle.tpm_commands.specs.declared.command_code.CommandCode.{CommandCode}
use Rattle.tpm_commands.specs.declared.shape.HandleKind.{HandleKind}
use Rattle.tpm_commands.specs.declared.shape.HandleKind.TheVariants as kind
use Rattle.tpm_commands.specs.declared.shape.HandleRule.{HandleRule}
use Rattle.tpm_commands.specs.declared.shape.ParameterKind.{ParameterKind}
use Rattle.tpm_commands.specs.declared.shape.ParameterKind.TheVariants as parameter

-- the word for a handle of this kind
unfoldable pub handle_word : HandleKind → List ℕ
handle_word kind.Pcr = codes "PCR"
handle_word kind.PcrOrNull = codes "PCR"
handle_word kind.Null = codes "NULL"
handle_word kind.Lockout = codes "LOCKOUT"
handle_word kind.HierarchyAuth = codes "Hierarchy"
handle_word kind.Hierarchy = codes "Hierarchy"
handle_word kind.Provision = codes "Hierarchy"
handle_word kind.Clear = codes "Hierarchy"
handle_word kind.Entity = codes "Entity"
handle_word kind.EntityNotNull = codes "Entity"
handle_word kind.NvAuth = codes "Entity"
handle_word kind.Object = codes "Object"
handle_word kind.PolicySession = codes "Policy"
handle_word kind.NvIndex = codes "Index"

-- the word for a parameter of this kind; a structure in a sized buffer is written as a buffer
unfoldable pub parameter_word : ParameterKind → List ℕ
parameter_word parameter.SessionType = codes "u8"
parameter_word parameter.YesNo = codes "u8"
parameter_word parameter.U8 = codes "u8"
parameter_word parameter.StartupType = codes "u16"
parameter_word parameter.Operation = codes "u16"
parameter_word parameter.U16 = codes "u16"
parameter_word parameter.PersistentHandle = codes "u32"
parameter_word parameter.U32 = codes "u32"
parameter_word parameter.U64 = codes "u64"
parameter_word parameter.Hash = codes "Hash"
parameter_word parameter.HashOrNull = codes "Hash"
parameter_word parameter.Symmetric = codes "Cipher"
parameter_word parameter.Selection = codes "Selection"
parameter_word parameter.Digests = codes "Digests"
parameter_word parameter.DigestList = codes "Buffers"
parameter_word parameter.Hierarchy = codes "Hierarchy"
parameter_word parameter.AlgorithmList = codes "Algorithms"
parameter_word parameter.PublicParameters = codes "Bytes"
parameter_word (parameter.Buffer most) = codes "Buffer"
parameter_word parameter.SensitiveCreate = codes "Buffer"
parameter_word parameter.Public = codes "Buffer"
parameter_word parameter.NvPublic = codes "Buffer"

-- the word for a handle, preceded by a space; an `@` marks a handle that an authorization entry
-- must authorize
abbrev pub handle_form : HandleRule → List ℕ
handle_form rule =
    (if is_some rule.role then codes " @" else codes " ") ++ handle_word rule.kind

-- the word for a parameter, preceded by a space
abbrev pub parameter_form : ParameterKind → List ℕ
parameter_form kind = codes " " ++ parameter_word kind

-- the form of a command in words; the form omits the entries, which follow the handles
abbrev pub form_of : CommandCode → List ℕ
form_of code = code_name code ++ flat_map handle_form (shape_of code).handles
    ++ flat_map parameter_form (shape_of code).parameters
