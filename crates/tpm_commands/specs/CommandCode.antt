-- The facts about a command: its number, its name, and how it uses its handles and its first
-- parameter. TPM 2.0 Library, Part 2, section 6.5.2 (TPM_CC), and Part 3.
use Rattle.std.specs.Prelude.{ℕ, ◌==◌, nat_eq, is_some, not, count_by, Bool, true, false, List, [], ◌∷◌, length, Option, slice_get}
use Rattle.std.specs.Cmp.Lexicographic.{pointwise}
use Rattle.std.specs.List.{find}
use Rattle.std.specs.Option.{option_map_or, unwrap_or}
use Rattle.tpm_commands.specs.declared.command_code.CommandCode.{CommandCode}
use Rattle.tpm_commands.specs.declared.profile.Profile.{Profile}
use Rattle.tpm_commands.specs.declared.profile.Profile.TheVariants.{Symmetric, Complete}
use Rattle.tpm_commands.specs.declared.shape.HandleRule.{HandleRule}
use Rattle.tpm_commands.specs.declared.shape.ParameterKind.{ParameterKind}
use Rattle.tpm_types_common.specs.declared.nv_use.NvUse.{NvUse}
use Rattle.tpm_types_common.specs.declared.nv_use.NvUse.TheVariants as does
use Rattle.tpm_types_common.specs.declared.role.Role.{Role}
use Rattle.tpm_types_common.specs.declared.role.Role.TheVariants as role
use Rattle.tpm_commands.specs.CommandFacts.{all_codes, command_facts}
use Rattle.tpm_commands.specs.Part.{Part}
use Rattle.tpm_commands.specs.Shape.{Facts, is_sized}

-- the wire number of a command
abbrev pub code_number : CommandCode → ℕ
code_number code = (command_facts code).number

-- the name of a command: the title of its section in Part 3, without "TPM2_"
abbrev pub code_name : CommandCode → List ℕ
code_name code = (command_facts code).name

-- the part of the device's state that a command may change if it succeeds
abbrev pub part_of : CommandCode → Part
part_of code = (command_facts code).part

-- the shape of a command: every fact about it except its number, its name and its effect
unfoldable pub shape_of : CommandCode → Facts
shape_of code = (command_facts code).shape

-- the command with this number, or None if it is not supported
unfoldable pub code_named : ℕ → Option CommandCode
code_named number = find (λ code. code_number code == number) all_codes

-- whether a device of this profile serves a command. Every device serves the commands of the
-- symmetric profile
abbrev pub serves : Profile → CommandCode → Bool
serves Complete code = true
serves Symmetric code = not (shape_of code).complete_only

-- the number of commands that a device of this profile serves
abbrev pub served_count : Profile → ℕ
served_count profile = count_by (serves profile) all_codes

-- whether a device of this profile serves a command with this number, and therefore whether a policy
-- can name it
abbrev pub is_served : Profile → ℕ → Bool
is_served profile number = option_map_or (serves profile) (code_named number) false

-- the command with this name, or None if it is not supported
unfoldable pub code_called : List ℕ → Option CommandCode
code_called name = find (λ code. pointwise nat_eq name (code_name code)) all_codes

-- the number of a command's handles
abbrev pub handle_count : CommandCode → ℕ
handle_count code = length (shape_of code).handles

-- the number of a command's handles that need authorization
abbrev pub authorized_handles : CommandCode → ℕ
authorized_handles code = count_by (λ rule. is_some rule.role) (shape_of code).handles

-- the role in which the handle at a position (counted from 0) is authorized, or USER if it needs no
-- authorization
abbrev pub role_at : CommandCode → ℕ → Role
role_at code place =
    option_map_or (λ (rule : HandleRule). unwrap_or rule.role role.User)
    (slice_get (shape_of code).handles place) role.User

-- how a command uses the NV index that authorizes it. This depends on the role in which the index
-- authorizes, and on whether the command reads the index
abbrev pub nv_use : Role → (reads : Bool) → NvUse
nv_use role.Admin reads = does.Administer
nv_use role.User true = does.Read
nv_use role.User false = does.Write

abbrev pub nv_use_at : CommandCode → ℕ → NvUse
nv_use_at code place = nv_use (role_at code place) (shape_of code).reads_nv

-- whether the first parameter of a command is a sized buffer, which a session can encrypt
abbrev first_is_sized : List ParameterKind → Bool
first_is_sized [] = false
first_is_sized (first ∷ others) = is_sized first

abbrev pub has_sized_parameter : CommandCode → Bool
has_sized_parameter code = first_is_sized (shape_of code).parameters
