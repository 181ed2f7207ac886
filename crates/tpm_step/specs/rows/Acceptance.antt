-- The properties of an accepted command, and what happens to sessions after its row.
use Rattle.std.specs.Prelude.{◌≡◌, ℕ, true, false, List, [], Ok}
use Rattle.tpm_commands.specs.CommandCode.{shape_of}
use Rattle.tpm_commands.specs.declared.command_code.CommandCode.{CommandCode}
use Rattle.tpm_commands.specs.declared.command_code.CommandCode.TheVariants as command
use Rattle.tpm_record.specs.Record.{Record}
use Rattle.tpm_auth.specs.Grant.{authorize}
use Rattle.tpm_step.specs.step.Step.{Accepted, request_in}
use Rattle.tpm_step.specs.step.Table.{row_of}
use Rattle.tpm_step.specs.rows.Handles.{HandlesFit}

-- The device is in the right mode for the command: not started for TPM2_Startup, and started for
-- any other command.
abbrev pub IsDue : CommandCode → Record → Type 0
IsDue command.Startup r = r.fixed.started ≡ false
IsDue _ r = r.fixed.started ≡ true

-- The device is in the right mode for an accepted command, and the handles fit the command's shape.
-- The command has no entries if its shape forbids sessions. Its entries have these grants. Its row
-- succeeds on its decrypted parameters.
pub record IsAcceptance (r : Record) (locality : ℕ) (random : List ℕ) (a : Accepted) : Type 0 where
  pub due : IsDue a.command.code r
  pub fits : HandlesFit r (shape_of a.command.code).handles a.command.handles
  pub alone : (shape_of a.command.code).forbids_sessions ≡ true → a.command.entries ≡ []
  pub granted : authorize r a.command locality ≡ Ok a.grants
  pub requested : a.request ≡ request_in r a.command a.grants locality random
  pub row : row_of r a.command.code a.request ≡ Ok a.success

-- The new record differs from the old one only in its sessions.
abbrev pub OnlySessions : Record → Record → Type 0
OnlySessions old new = new ≡ record old { sessions = new.sessions }

-- The new record differs from the old one only in its sessions and in the state that a shutdown
-- saved.
abbrev pub LeavesEffect : Record → Record → Type 0
LeavesEffect old new =
    new ≡ record old {
      sessions = new.sessions;
      fixed = record old.fixed { saved = new.fixed.saved };
    }
