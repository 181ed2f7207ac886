-- The order of refusals: the checks that every command passes before its own parameters are read.
-- The response reports the first check that fails. The checks are those of TPM 2.0 Library, Part 3,
-- sections 5.2 (header), 5.3 (mode), 5.4 (handles) and 5.5 (sizes of the session area). Their order
-- and response codes are a choice of this implementation.
use Rattle.std.specs.Prelude.{◌≡◌, ℕ, ◌==◌, ◌&&◌, nat_lt, not, Bool, true, false, List, Result, Ok, Err}
use Rattle.tpm_bytes.specs.Many.{each_at}
use Rattle.tpm_bytes.specs.Reading.{◌>>=◌, refused_if}
use Rattle.tpm_types_command.specs.declared.header.Header.{Header}
use Rattle.tpm_types_command.specs.declared.header.HeaderFault.{HeaderFault}
use Rattle.tpm_types_command.specs.declared.header.HeaderFault.TheVariants as fault
use Rattle.tpm_commands.specs.declared.command_code.CommandCode.{CommandCode}
use Rattle.tpm_commands.specs.declared.command_code.CommandCode.TheVariants as command
use Rattle.tpm_types_common.specs.declared.handle.Handle.{Handle}
use Rattle.tpm_types_common.specs.declared.rc.Rc.{Rc}
use Rattle.tpm_types_common.specs.declared.rc.ResponseCode.TheVariants as code
use Rattle.tpm_commands.specs.declared.shape.HandleRule.{HandleRule}
use Rattle.tpm_types_command.specs.declared.tag.Tag.{Tag}
use Rattle.tpm_types_command.specs.declared.tag.Tag.TheVariants.{NoSessions, Sessions}
use Rattle.tpm_types_command.specs.declared.command_ref.CommandRef.{CommandRef}
use Rattle.tpm_types_command.specs.Command.{Whole, sessions_at, whole_of}
use Rattle.tpm_commands.specs.CommandCode.{code_number}
use Rattle.tpm_commands.specs.HandleArea.{allowed_handle_at}
use Rattle.tpm_types_command.specs.Header.{header_at, header_fault_rc, if_served}
use Rattle.tpm_types_common.specs.Rc.{plain}
use Rattle.tpm_commands.specs.CommandCode.{authorized_handles, shape_of}
use Rattle.tpm_record.specs.Entity.{absence_rc, is_present}
use Rattle.tpm_record.specs.Record.{Record}
use Rattle.tpm_types_common.specs.Refused.{checked_result, refusal}
use Rattle.tpm_types_common.specs.declared.check.Check.{Check}
use Rattle.tpm_types_common.specs.declared.check.Check.TheVariants as check
use Rattle.tpm_types_common.specs.declared.refused.Refused.{Refused}
use Rattle.tpm_step.specs.declared.refused_command.RefusedCommand.{RefusedCommand}

-- adds the command's code to a refusal, because the row reports the code
abbrev pub in_command : {X : Type 0} → CommandCode → Result X Refused → Result X RefusedCommand
in_command c (Ok x) = Ok x
in_command c (Err e) = Err (record { code = code_number c; refused = e })

-- the check, G1 to G4, that refuses a header with this fault. The reported row then has the command
-- code 0
abbrev pub header_check : HeaderFault → Check
header_check fault.Length = check.Length
header_check fault.Tag = check.Tag
header_check fault.Size = check.Size
header_check fault.Code = check.Code

abbrev pub header_refusal : HeaderFault → RefusedCommand
header_refusal f = record { code = 0; refused = refusal (header_check f) (header_fault_rc f) }

abbrev pub in_header : Result (Header × List ℕ) HeaderFault → Result (Header × List ℕ) RefusedCommand
in_header (Ok h) = Ok h
in_header (Err f) = Err (header_refusal f)

-- the header of a command that this device serves, or the first fault
abbrev pub served_header : Record → List ℕ → Result (Header × List ℕ) HeaderFault
served_header r buffer = if_served r.fixed.profile (header_at buffer)

-- whether a command is TPM2_Startup. Check G5 refuses every other command before the device is
-- started, and TPM2_Startup afterwards
abbrev pub is_startup : CommandCode → Bool
is_startup c = code_number c == code_number command.Startup

abbrev pub both_or_neither : Bool → Bool → Bool
both_or_neither true b = b
both_or_neither false b = not b

abbrev pub has_sessions : Tag → Bool
has_sessions NoSessions = false
has_sessions Sessions = true

-- Check G7: some commands may not have sessions, and a command with a handle that needs
-- authorization must have a session.
unfoldable pub sessions_pass : CommandCode → Tag → Result (Unit {0}) Refused
sessions_pass c tag = do
  forbidden ← refused_if (has_sessions tag && (shape_of c).forbids_sessions)
      (refusal check.Sessions (plain code.AuthContext))
  refused_if (not (has_sessions tag) && nat_lt 0 (authorized_handles c))
      (refusal check.Sessions (plain code.AuthMissing))

-- the handle with number n, decoded from the start of the bytes, if its rule allows the handle and
-- the handle names an existing entity
unfoldable pub present_handle_at : Record → ℕ → HandleRule → List ℕ → Result (Handle × List ℕ) Rc
present_handle_at r n rule text = do
  handle ← allowed_handle_at n rule text
  present ← refused_if (not (is_present r handle.0)) (absence_rc n handle.0)
  Ok handle

-- the handles at the start of the bytes after the header, one for each handle rule of the command
abbrev pub present_handles_at : Record → CommandCode → List ℕ → Result (List Handle × List ℕ) Rc
present_handles_at r code text = each_at (present_handle_at r) 1 (shape_of code).handles text

-- the checks of the bytes after the header, from G5 to the sizes of the session area in G8
unfoldable pub body_of : Record → Header → List ℕ → Result Whole Refused
body_of r header text = do
  g5 ← refused_if (both_or_neither r.fixed.started (is_startup header.code))
      (refusal check.Started (plain code.Initialize))
  handles ← checked_result check.Handles (present_handles_at r header.code text)
  g7 ← sessions_pass header.code header.tag
  entries ← checked_result check.Entries (sessions_at header.tag handles.1)
  Ok (record {
    code = header.code;
    handles = handles.0;
    entries = entries.0;
    parameters = entries.1;
  })

-- the command that a buffer encodes, or the refusal by the first general check that fails
unfoldable pub general : Record → List ℕ → Result Whole RefusedCommand
general r buffer = do
  header ← in_header (served_header r buffer)
  in_command header.0.code (body_of r header.0 header.1)
