-- The part of a command that the completing layer reads. TPM 2.0 Library, Part 1, section 18
-- (command and response structures).
use Rattle.std.specs.Prelude.{ℕ, ◌==◌, not, List, length, Result, Ok, Err}
use Rattle.std.specs.Int.{w16, w32}
use Rattle.tpm_bytes.specs.Reading.{◌>>=◌, number_at, refused_if, too_short}
use Rattle.tpm_bytes.specs.declared.cursor.Short.{Short}
use Rattle.tpm_completion.specs.declared.command.PlainCommand.{PlainCommand}

-- a command: its code, and the bytes after its header
pub record Command : Type 0 where
  pub code : ℕ
  pub parameters : List ℕ

abbrev pub command_of : PlainCommand → Command
command_of c = record { code = c.code; parameters = c.parameters.now }

-- the command in a buffer whose tag is TPM_ST_NO_SESSIONS and whose size is the size in its header
unfoldable pub plain_command : List ℕ → Result Command Short
plain_command buffer = do
  tag ← number_at w16 buffer
  size ← number_at w32 tag.1
  code ← number_at w32 size.1
  tagged ← refused_if (not (tag.0 == 0x8001)) too_short
  sized ← refused_if (not (size.0 == length buffer)) too_short
  Ok (record { code = code.0; parameters = code.1 })

-- the command in a buffer whose tag is TPM_ST_SESSIONS and whose size is the size in its header
unfoldable pub authorized_command : List ℕ → Result Command Short
authorized_command buffer = do
  tag ← number_at w16 buffer
  size ← number_at w32 tag.1
  code ← number_at w32 size.1
  tagged ← refused_if (not (tag.0 == 0x8002)) too_short
  sized ← refused_if (not (size.0 == length buffer)) too_short
  Ok (record { code = code.0; parameters = code.1 })

-- the tag of a buffer, or 0 if the buffer is too short for a tag
abbrev pub tag_in : Result (ℕ × List ℕ) Short → ℕ
tag_in (Ok tag) = tag.0
tag_in (Err e) = 0

abbrev pub tag_of : List ℕ → ℕ
tag_of buffer = tag_in (number_at w16 buffer)
