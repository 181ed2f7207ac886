-- The commands whose words the module knows.
use Rattle.std.specs.Prelude.{ℕ, Option, Some, None, option_and_then, if◌then◌else◌}
use Rattle.tpm_commands.specs.CommandCode.{code_named, serves}
use Rattle.tpm_commands.specs.declared.command_code.CommandCode.{CommandCode}
use Rattle.tpm_commands.specs.declared.profile.Profile.TheVariants.{Symmetric}

-- the command of the symmetric profile with this number, if there is one
abbrev pub symmetric_named : ℕ → Option CommandCode
symmetric_named number =
    option_and_then (λ code. if serves Symmetric code then Some code else None) (code_named number)
