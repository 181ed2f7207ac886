-- A command that passed the general checks, as whole values.
use Rattle.std.specs.Prelude.{List, Option}
use Rattle.tpm_auth.specs.declared.session_grant.Grant.{Grant}
use Rattle.tpm_types_command.specs.Command.{Whole, whole_of}
use Rattle.tpm_machine.specs.declared.authorization.Authorization.{Authorization}

-- the command
abbrev pub command_in : Authorization → Whole
command_in authorization = whole_of authorization.command

-- what each entry of the command authorizes
abbrev pub grants_in : Authorization → List (Option Grant)
grants_in authorization = authorization.grants.grants.items
