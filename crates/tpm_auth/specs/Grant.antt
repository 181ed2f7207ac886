-- What the entries of a command authorize. TPM 2.0 Library, Part 1, section 19 (authorizations),
-- and Part 3, section 5.6 (authorization checks).
use Rattle.std.specs.Prelude.{◌≡◌, ℕ, ◌+◌, ◌-◌, ◌&&◌, not, nat_lt, Bool, false, List, [], ◌∷◌, ◌++◌, length, take, Option, Some, None, option_map, slice_get, Result, Ok, Err}
use Rattle.std.specs.List.{list_any}
use Rattle.std.specs.Option.{option_map_or}
use Rattle.tpm_bytes.specs.Reading.{◌>>=◌, refused_if}
use Rattle.tpm_policy.specs.declared.state.Demand.TheVariants as demand
use Rattle.tpm_session.specs.FirstBuffer.{has_first_buffer}
use Rattle.tpm_session.specs.declared.session.Protection.{Protection}
use Rattle.tpm_session.specs.declared.session.Protection.TheVariants as protection
use Rattle.tpm_session.specs.declared.session.Session.{Session}
use Rattle.tpm_types_common.specs.declared.handle.Handle.{Handle}
use Rattle.tpm_types_common.specs.declared.handle.SessionKind.{SessionKind}
use Rattle.tpm_types_common.specs.declared.handle.SessionKind.TheVariants as kind
use Rattle.tpm_types_common.specs.declared.rc.ResponseCode.TheVariants as code
use Rattle.tpm_types_common.specs.declared.rc.Place.TheVariants as place
use Rattle.tpm_types_command.specs.AuthEntry.{Entry}
use Rattle.tpm_types_command.specs.Command.{Whole}
use Rattle.tpm_commands.specs.declared.command_code.CommandCode.{CommandCode}
use Rattle.tpm_commands.specs.CommandCode.{authorized_handles, nv_use_at}
use Rattle.tpm_types_common.specs.Handle.{session_kind}
use Rattle.tpm_types_common.specs.Rc.{at, entry_fault, plain}
use Rattle.tpm_record.specs.declared.entity.Means.TheVariants as means
use Rattle.tpm_record.specs.Entity.{is_available, protection_of}
use Rattle.tpm_record.specs.Record.{Record}
use Rattle.tpm_auth.specs.Comparison.{check_of, failure, is_password_of, may_be_tried}
use Rattle.tpm_auth.specs.Entries.{decrypts, entries_pass, reference_of, session_of}
use Rattle.tpm_types_common.specs.Refused.{checked_result, refusal}
use Rattle.tpm_auth.specs.SessionGrant.{granted_value, session_grant}
use Rattle.tpm_types_common.specs.declared.check.Check.TheVariants as check
use Rattle.tpm_auth.specs.declared.grant.Grants.{Grants}
use Rattle.tpm_types_common.specs.declared.refused.Refused.{Refused}
use Rattle.tpm_auth.specs.declared.session_grant.Grant.{Grant}

-- the grant for a handle if no policy requires anything in the entry
abbrev pub undemanding : Handle → Grant
undemanding handle = record { handle = handle; demand = demand.None }

-- whether entry n has to authorize a handle whose entity does not allow authorization with its
-- authorization value
abbrev pub is_unavailable : Record → CommandCode → (n : ℕ) → Option Handle → Bool
is_unavailable r c n used =
    option_map_or (λ handle. not (is_available r handle means.AuthValue (nv_use_at c (n - 1))))
    used false

-- the protection of the entity that entry n has to authorize
abbrev pub used_protection : Record → Option Handle → Protection
used_protection r used = option_map_or (protection_of r) used protection.None

-- the grant of entry n, if it is a password entry. The entity that the entry has to authorize must
-- allow authorization with its authorization value, and must not be locked out. The password must
-- be correct
unfoldable pub password_grant : Record
    → CommandCode → (n : ℕ) → Option Handle → Entry → Result (Option Grant) Refused
password_grant state command number used entry = do
  let grant : Option Grant = option_map undemanding used
  available ← refused_if (is_unavailable state command number used)
      (refusal check.Authorization (plain code.AuthUnavailable))
  tried ← may_be_tried state.fixed.lockout grant (used_protection state used)
  compared ← refused_if (not (is_password_of (granted_value state grant) entry.hmac))
      (failure (check_of grant) number (used_protection state used))
  Ok grant

abbrev pub session_grant_if : Record → Whole
    → (locality n : ℕ) → Option Handle → Entry → Option Session → Result (Option Grant) Refused
session_grant_if state command locality number used entry None =
    Err (refusal check.Entries (reference_of number))
session_grant_if state command locality number used entry (Some session) =
    session_grant state command locality number used entry session

abbrev pub grant_by : SessionKind → Record
    → Whole → (locality n : ℕ) → Option Handle → Entry → Result (Option Grant) Refused
grant_by kind.Password state command locality number used entry =
    password_grant state command.code number used entry
grant_by kind.Session state command locality number used entry =
    session_grant_if state command locality number used entry (session_of state entry)
grant_by kind.Other state command locality number used entry =
    Err (refusal check.Entries (entry_fault number code.Value))

-- the grant of entry n, in a command from this locality. `used` is the handle that the entry has to
-- authorize, if any
unfoldable pub grant : Record
    → Whole → (locality n : ℕ) → Option Handle → Entry → Result (Option Grant) Refused
grant state command locality number used entry =
    grant_by (session_kind entry.session) state command locality number used entry

-- the handles of a command that need authorization. They come before its other handles
abbrev pub authorized : Whole → List Handle
authorized c = take (authorized_handles c.code) c.handles

-- the earlier grants `before`, followed by the grants of these entries, in order. Entry n has to
-- authorize the nth handle that needs authorization. If there is no such handle, the entry has
-- nothing to authorize
abbrev pub grants_pass : Record → Whole → (locality : ℕ)
    → (before : List (Option Grant)) → List Entry → Result (List (Option Grant)) Refused
grants_pass state command locality before [] = Ok before
grants_pass state command locality before (entry ∷ entries) = do
  this ← grant state command locality (length before + 1)
      (slice_get (authorized command) (length before)) entry
  grants_pass state command locality (before ++ this ∷ []) entries

-- the authorization of a whole command, after the check of the area's size. It returns what each
-- entry authorizes. G8 checks each entry on its own, and then whether there is an entry for each
-- handle that needs authorization. G9 checks the entries for these handles. G10 checks the other
-- entries, and whether the parameter that a session decrypts is complete
unfoldable pub authorize : Record → Whole → (locality : ℕ) → Result (List (Option Grant)) Refused
authorize r c locality = do
  own ← checked_result check.Entries (entries_pass r c.code [] c.entries)
  enough ← refused_if (nat_lt (length c.entries) (authorized_handles c.code))
      (refusal check.Entries (plain code.AuthMissing))
  grants ← grants_pass r c locality [] c.entries
  whole ← refused_if (list_any decrypts c.entries && not (has_first_buffer c.parameters))
      (refusal check.Others (at (place.Parameter 1) (plain code.Insufficient)))
  Ok grants

-- The code's result and its list of the grants so far match the definition.
abbrev pub AreGranted : Result (List (Option Grant)) Refused
    → Result (Unit {0}) Refused → List (Option Grant) → Type 0
AreGranted granted (Ok u) grants = granted ≡ Ok grants
AreGranted granted (Err e) grants = granted ≡ Err e

-- the grants in the code's list
abbrev pub granted_by : Grants → List (Option Grant)
granted_by grants = grants.grants.items
