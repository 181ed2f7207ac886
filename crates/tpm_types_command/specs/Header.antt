-- The header of a command: tag, commandSize and commandCode. TPM 2.0 Library, Part 1, section 18.2.
use Rattle.tpm_types_common.specs.Limits.{buffer_limit}
use Rattle.std.specs.Prelude.{ℕ, ◌==◌, ◌||◌, not, nat_lt}
use Rattle.std.specs.Prelude.{List, ◌++◌, length, drop, take, Result, Ok, Err, ok_or, if◌then◌else◌}
use Rattle.std.specs.Int.{w16, w32, from_be_bytes, to_be_bytes}
use Rattle.tpm_bytes.specs.Reading.{◌>>=◌, refused_if}
use Rattle.tpm_types_command.specs.declared.header.Header.{Header}
use Rattle.tpm_types_command.specs.declared.header.HeaderFault.{HeaderFault}
use Rattle.tpm_types_command.specs.declared.header.HeaderFault.TheVariants as fault
use Rattle.tpm_commands.specs.declared.command_code.CommandCode.{CommandCode}
use Rattle.tpm_types_common.specs.declared.rc.Rc.{Rc}
use Rattle.tpm_types_common.specs.declared.rc.ResponseCode.TheVariants as code
use Rattle.tpm_types_command.specs.declared.tag.Tag.{Tag}
use Rattle.tpm_types_common.specs.Rc.{plain}
use Rattle.tpm_types_command.specs.Tag.{tag_named, tag_number}
use Rattle.tpm_commands.specs.CommandCode.{code_named, code_number, serves}
use Rattle.tpm_commands.specs.declared.profile.Profile.{Profile}

abbrev pub header_fault_rc : HeaderFault → Rc
header_fault_rc fault.Length = plain code.CommandSize
header_fault_rc fault.Tag = plain code.BadTag
header_fault_rc fault.Size = plain code.CommandSize
header_fault_rc fault.Code = plain code.CommandCode

-- the encoding of the header of a command with this total length
unfoldable pub header_text : Tag → ℕ → CommandCode → List ℕ
header_text tag size code =
    to_be_bytes w16 (tag_number tag) ++ to_be_bytes w32 size ++ to_be_bytes w32 (code_number code)

-- the tag in a buffer of ten bytes or more
abbrev pub tag_field : List ℕ → ℕ
tag_field buffer = from_be_bytes w16 (take 2 buffer)

-- the commandSize in a buffer of ten bytes or more
abbrev pub size_field : List ℕ → ℕ
size_field buffer = from_be_bytes w32 (take 4 (drop 2 buffer))

-- the commandCode in a buffer of ten bytes or more
abbrev pub code_field : List ℕ → ℕ
code_field buffer = from_be_bytes w32 (take 4 (drop 6 buffer))

-- the header at the start of a buffer that contains a whole command, and the bytes after it; or the
-- first fault of the header
unfoldable pub header_at : List ℕ → Result (Header × List ℕ) HeaderFault
header_at buffer = do
  length_fits ← refused_if (nat_lt (length buffer) 10 || nat_lt buffer_limit (length buffer)) fault.Length
  tag ← ok_or (tag_named (tag_field buffer)) fault.Tag
  size_is_length ← refused_if (not (size_field buffer == length buffer)) fault.Size
  code ← ok_or (code_named (code_field buffer)) fault.Code
  Ok (record { tag = tag; code = code }, drop 10 buffer)

-- the header, if a device of this profile serves the command. The fault of another command is that of a
-- code that is not supported
abbrev pub if_served : Profile → Result (Header × List ℕ) HeaderFault
    → Result (Header × List ℕ) HeaderFault
if_served profile (Ok h) = if serves profile h.0.code then Ok h else Err fault.Code
if_served profile (Err f) = Err f
