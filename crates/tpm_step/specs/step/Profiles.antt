-- The profiles of a device: what a device of the symmetric profile decodes, and which records have the
-- same profile.
use Rattle.std.specs.Prelude.{◌≡◌, ℕ, ◌==◌, ◌||◌, not, nat_lt, List, length, drop, Option, Result, Ok, ok_or}
use Rattle.std.specs.List.{find}
use Rattle.tpm_bytes.specs.Reading.{◌>>=◌, refused_if}
use Rattle.tpm_commands.specs.SymmetricCommands.{symmetric_codes}
use Rattle.tpm_commands.specs.CommandCode.{code_number}
use Rattle.tpm_commands.specs.declared.command_code.CommandCode.{CommandCode}
use Rattle.tpm_record.specs.Record.{Record}
use Rattle.tpm_types_common.specs.Limits.{buffer_limit}
use Rattle.tpm_types_command.specs.Command.{Whole}
use Rattle.tpm_types_command.specs.Header.{code_field, size_field, tag_field}
use Rattle.tpm_types_command.specs.Tag.{tag_named}
use Rattle.tpm_types_command.specs.declared.header.Header.{Header}
use Rattle.tpm_types_command.specs.declared.header.HeaderFault.{HeaderFault}
use Rattle.tpm_types_command.specs.declared.header.HeaderFault.TheVariants as fault
use Rattle.tpm_step.specs.declared.refused_command.RefusedCommand.{RefusedCommand}
use Rattle.tpm_step.specs.step.General.{body_of, in_command, in_header}

-- the command of the symmetric profile with this number, or None if there is none
abbrev pub symmetric_named : ℕ → Option CommandCode
symmetric_named number = find (λ code. code_number code == number) symmetric_codes

-- the header at the start of a buffer, and the bytes after it; or the first fault of the header. No
-- command is supported except those of the symmetric profile
unfoldable pub symmetric_header_at : List ℕ → Result (Header × List ℕ) HeaderFault
symmetric_header_at buffer = do
  length_fits ← refused_if (nat_lt (length buffer) 10 || nat_lt buffer_limit (length buffer)) fault.Length
  tag ← ok_or (tag_named (tag_field buffer)) fault.Tag
  size_is_length ← refused_if (not (size_field buffer == length buffer)) fault.Size
  code ← ok_or (symmetric_named (code_field buffer)) fault.Code
  Ok (record { tag = tag; code = code }, drop 10 buffer)

-- the command that a buffer encodes, or the refusal by the first general check that fails, if no
-- command is supported except those of the symmetric profile
unfoldable pub symmetric_general : Record → List ℕ → Result Whole RefusedCommand
symmetric_general r buffer = do
  header ← in_header (symmetric_header_at buffer)
  in_command header.0.code (body_of r header.0 header.1)

-- The new record is of the same profile as the old one.
abbrev pub KeepsProfile : Record → Record → Type 0
KeepsProfile old new = new.fixed.profile ≡ old.fixed.profile
