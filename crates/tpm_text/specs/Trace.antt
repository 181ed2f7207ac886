-- The trace of an event: one line with the command, its locality, the elapsed time, the check that
-- refused it, and the response code.
use Rattle.std.specs.Prelude.{◌≡◌, ℕ, ◌-◌, ◌≤◌, ◌==◌, nat_le, if◌then◌else◌, ◌⊎◌}
use Rattle.std.specs.Prelude.{List, ◌++◌, length, codes, option_map, unwrap_or}
use Rattle.std.specs.List.{slice_range}
use Rattle.std.specs.Fmt.{decimal}
use Rattle.hex.specs.Hex.{encode_lower}
use Rattle.tpm_types_common.specs.Check.{check_number}
use Rattle.tpm_types_common.specs.declared.check.Check.{Check}
use Rattle.tpm_commands.specs.CommandCode.{code_name, code_named, code_number}
use Rattle.tpm_commands.specs.declared.command_code.CommandCode.{CommandCode}
use Rattle.tpm_step.specs.step.Events.{PlainEvent, Given, Cycled, Placed}
use Rattle.tpm_step.specs.step.Step.{Stepped}
use Rattle.tpm_step.specs.declared.event.Row.{Row}

-- A row of the table. It consists of the number of a supported command, or 0; and the number of the
-- check that refused the command, or 0 if no check did.
abbrev pub IsRow : Row → Type 0
IsRow row =
    ((row.code ≡ 0) ⊎ ((code : CommandCode) × (row.code ≡ code_number code)))
    × ((row.check ≡ 0) ⊎ ((check : Check) × (row.check ≡ check_number check)))

-- The response to a command contains at least a header of ten bytes.
abbrev pub IsAnswered : PlainEvent → List ℕ → Type 0
IsAnswered (Given buffer locality elapsed random) response = 10 ≤ length response
IsAnswered Cycled response = Unit {0}
IsAnswered (Placed object) response = Unit {0}

-- An event and its step can be traced.
abbrev pub IsTraceable : PlainEvent → Stepped → Type 0
IsTraceable event x = IsRow x.row × IsAnswered event x.response

-- the name of the command with this number, or `?` if no command has this number
unfoldable pub name_text : ℕ → List ℕ
name_text number = unwrap_or (option_map code_name (code_named number)) (codes "?")

-- the name of the check with this number: `ok` if no check refused the command; G1 to G11 for the
-- checks of every command, A1 to A7 for the command's own checks, and M for a failed allocation
unfoldable pub check_text : ℕ → List ℕ
check_text number =
    if number == 0 then codes "ok"
    else if nat_le number 11 then codes "G" ++ decimal number
    else if number == 255 then codes "M"
    else codes "A" ++ decimal (number - 20)

-- the response code in hex; in a response, it follows the tag and the size
abbrev pub response_code_text : List ℕ → List ℕ
response_code_text response = encode_lower (slice_range response 6 10)

-- the trace of an event: `power` for a power cycle and `placed` for a placed object; for a command,
-- its name, its locality, the elapsed milliseconds, the check that refused it, and the response
-- code
abbrev pub trace_text : PlainEvent → Row → (response : List ℕ) → List ℕ
trace_text Cycled row response = codes "power"
trace_text (Placed object) row response = codes "placed"
trace_text (Given buffer locality elapsed random) row response =
    name_text row.code ++ codes " L" ++ decimal locality ++ codes " +" ++ decimal elapsed
    ++ codes " " ++ check_text row.check ++ codes " " ++ response_code_text response
