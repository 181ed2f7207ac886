-- The tags of commands. TPM 2.0 Library, Part 2, section 6.9 (TPM_ST).
use Rattle.std.specs.Prelude.{ℕ, ◌==◌, if◌then◌else◌, Option, Some, None}
use Rattle.tpm_types_command.specs.declared.tag.Tag.{Tag}
use Rattle.tpm_types_command.specs.declared.tag.Tag.TheVariants.{NoSessions, Sessions}

abbrev pub tag_number : Tag → ℕ
tag_number NoSessions = 0x8001
tag_number Sessions = 0x8002

-- the tag with this number, or None
abbrev pub tag_named : ℕ → Option Tag
tag_named number =
    if number == 0x8001 then Some NoSessions
    else (if number == 0x8002 then Some Sessions else None)
