-- The handles and entries of a command, together with their entities and sessions, which are looked
-- up only once.
use Rattle.std.specs.Prelude.{◌≡◌, ℕ, List, map, Option, Some, None, option_copied, option_map, Result, Ok}
use Rattle.std.specs.Borrow.{Bor}
use Rattle.tpm_bytes.specs.Reading.{◌>>=◌}
use Rattle.tpm_session.specs.declared.session.Session.{Session}
use Rattle.tpm_types_common.specs.declared.handle.Handle.{Handle}
use Rattle.tpm_types_common.specs.declared.refused.Refused.{Refused}
use Rattle.tpm_types_command.specs.AuthEntry.{Entry}
use Rattle.tpm_types_command.specs.Command.{Whole, whole_of}
use Rattle.tpm_record.specs.Record.{Record}
use Rattle.tpm_record.specs.Resolved.{AreFound, IsFound}
use Rattle.tpm_record.specs.declared.entity.Resolved.{Resolved}
use Rattle.tpm_auth.specs.Entries.{session_of}
use Rattle.tpm_auth.specs.SessionGrant.{demand_of_session, takes_value}
use Rattle.tpm_auth.specs.declared.session_grant.Grant.{Grant}
use Rattle.tpm_auth.specs.declared.used.Granted.{Granted}
use Rattle.tpm_auth.specs.declared.used.Sent.{Sent}

abbrev pub used_handle : Resolved → Handle
used_handle used = used.handle

-- The entity that an entry has to authorize was found in the record.
pub record IsUsed (r : Record) (used : Resolved) : Type 0 where
  pub found : IsFound r used

-- the grant: the handle and what the policy requires, without the handle's entity
abbrev pub grant_by : Granted → Grant
grant_by granted = record { handle = used_handle granted.used; demand = granted.demand }

-- the grant of a session's entry, before its password or HMAC is compared. If the entry has a handle
-- to authorize, the session must be able to authorize it
abbrev pub asked_grant : Record
    → Whole → (locality n : ℕ) → Option Handle → Session → Result (Option Grant) Refused
asked_grant state command locality number None session = Ok None
asked_grant state command locality number (Some handle) session = do
  demand ← demand_of_session state command locality number handle session
  Ok (Some (record { handle = handle; demand = demand }))

abbrev pub grant_if_any : Option Granted → Option Grant
grant_if_any granted = option_map grant_by granted

-- The entity that an entry of this session authorizes was found in the record, and the code
-- determined whether the HMAC key includes its authorization value.
pub record IsToGrant (r : Record) (session : Session) (granted : Granted) : Type 0 where
  pub used : IsUsed r granted.used
  pub takes : granted.takes_value ≡ takes_value r session (grant_by granted)

-- The code found the entity of this handle in the record, or there is no handle and nothing was
-- found.
abbrev pub IsUsedFor : Record → Option Handle → Option Resolved → Type 0
IsUsedFor r wanted None = wanted ≡ None
IsUsedFor r wanted (Some used) = (wanted ≡ Some (used_handle used)) × IsUsed r used

-- These are the sessions that the entries of a command name; None if an entry names no session.
abbrev pub AreSessions : Record → List (Option (Bor Session)) → List Entry → Type 0
AreSessions r sessions entries = map option_copied sessions ≡ map (session_of r) entries

-- The entities of a command's handles were found in this record.
pub record IsResolved (r : Record) (sent : Sent) : Type 0 where
  pub found : AreFound r sent.entities.now (whole_of sent.command.now).handles
