-- The row of a kept device's answer, which the trace of the answer needs.
use Rattle.std.specs.Prelude.{◌≡◌, ◌≤◌, ◌⊎◌, ℕ, length}
use Rattle.tpm_commands.specs.CommandCode.{code_number}
use Rattle.tpm_commands.specs.declared.command_code.CommandCode.{CommandCode}
use Rattle.tpm_kept_device.specs.declared.answer.Answer.{Answer}
use Rattle.tpm_step.specs.declared.event.Row.{Row}
use Rattle.tpm_text.specs.Trace.{IsRow}
use Rattle.tpm_types_common.specs.Check.{check_number}
use Rattle.tpm_types_common.specs.declared.check.Check.{Check}

-- the row of an answer: the command, and the check that refused it
abbrev pub row_of : Answer → Row
row_of a = record { code = a.code; check = a.check }

-- The number is 0, or the number of a command.
abbrev pub IsCode : ℕ → Type 0
IsCode number = (number ≡ 0) ⊎ ((code : CommandCode) × (number ≡ code_number code))

-- The number is 0, or the number of a check.
abbrev pub IsCheck : ℕ → Type 0
IsCheck number = (number ≡ 0) ⊎ ((check : Check) × (number ≡ check_number check))

-- An answer can be traced: it has a row of the table, and a response of at least ten bytes, the
-- size of a header.
abbrev pub IsTraceable : Answer → Type 0
IsTraceable a = IsRow (row_of a) × (10 ≤ length a.response.now)
