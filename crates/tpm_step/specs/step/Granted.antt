-- Pairs each entry of a command with its grant.
use Rattle.std.specs.Prelude.{List, Option}
use Rattle.std.specs.List.{zip}
use Rattle.tpm_types_command.specs.AuthEntry.{Entry}
use Rattle.tpm_types_command.specs.Command.{Whole}
use Rattle.tpm_auth.specs.declared.session_grant.Grant.{Grant}

-- an entry and, if it authorizes a handle, its grant: this handle, and what the policy requires in
-- the entry
abbrev pub Granted : Type 0
Granted = Entry × Option Grant

-- each entry of a command with its grant
abbrev pub granted_entries : Whole → List (Option Grant) → List Granted
granted_entries c grants = zip c.entries grants
